-- What an adapter over the standard library is.
use Rattle.std.specs.Prelude.{ℕ, List}
use Rattle.std.specs.declared.option.Option.{Option}

-- The bytes that a reader has left or that a writer took, where they are told, and how many calls failed.
pub record Stream : Type 0 where
  pub bytes : Option (List ℕ)
  pub faults : ℕ
