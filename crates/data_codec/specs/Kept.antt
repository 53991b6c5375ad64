-- What contracts see of an envelope with its digest.
use Rattle.std.specs.Prelude.{Bool}
use Rattle.data_envelope.specs.declared.envelope.Envelope.{Envelope}

-- an envelope, and whether its digest is kept
pub record Kept (T Kind Op Delta : Type 0) : Type 0 where
  pub envelope : Envelope T Kind Op Delta
  pub is_kept : Bool
