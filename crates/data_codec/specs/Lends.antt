-- What an envelope with its digest ends as, where the envelope is lent to be changed.
use Rattle.std.specs.Prelude.{false}
use Rattle.std.specs.Borrow.{Lends, Fml, RattleType, MutBor}
use Rattle.data_lattice.specs.declared.replica.Replica.{Ghosts}
use Rattle.data_envelope.specs.declared.envelope.Envelope.{Envelope}
use Rattle.data_envelope.specs.contracts.envelope.Envelope as envelope
use Rattle.data_codec.specs.contracts.digested.Digested as digested
use Rattle.data_codec.specs.Kept.{Kept}

module _ (T Kind Op Delta : RattleType) (ghosts : Ghosts T.Denot Kind.Denot Op.Denot Delta.Denot) where
  -- once the borrow r ends, it is the envelope that r shows last, and no digest of it is kept
  abbrev pub lends_envelope : MutBor (Kept T.Denot Kind.Denot Op.Denot Delta.Denot) → MutBor (Envelope T.Denot Kind.Denot Op.Denot Delta.Denot) → Fml
  lends_envelope kept r = Lends (digested.the_row T Kind Op Delta ghosts) (envelope.the_row T Kind Op Delta ghosts) kept r (λ envelope. record { envelope = envelope; is_kept = false })
