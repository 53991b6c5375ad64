-- Deltas of counters as bytes: their one spelling, and how they are read. The origin is told beside them.
use Rattle.std.specs.Prelude.{ℕ, ◌≤◌, List, ◌++◌, length, nat_le, Result, Ok}
use Rattle.model_meanings.specs.Refusal.{greatest_share}
use Rattle.base_bytes.specs.declared.fault.Fault.{Fault}
use Rattle.base_bytes.specs.Fields.{◌>>=◌, kept, number_in}
use Rattle.base_bytes.specs.Spelling.{number_spelled}
use Rattle.data_counters.specs.declared.counter.Share.{Share}
use Rattle.data_counters.specs.declared.counter.PnShare.{PnShare}

-- the share that the origin reached
abbrev pub share_spelled : Share → List ℕ
share_spelled x = number_spelled x.share

-- the share of increments, and then that of decrements
abbrev pub shares_spelled : PnShare → List ℕ
shares_spelled x = number_spelled x.plus ++ number_spelled x.minus

unfoldable pub amount_in : List ℕ → Result (ℕ × List ℕ) Fault
amount_in bytes = do
  n ← number_in bytes
  _ ← kept (nat_le n.0 greatest_share) (length bytes)
  Ok n

unfoldable pub share_in : ℕ → List ℕ → Result (Share × List ℕ) Fault
share_in origin bytes = do
  n ← amount_in bytes
  Ok (record { origin = origin; share = n.0 }, n.1)

unfoldable pub shares_in : ℕ → List ℕ → Result (PnShare × List ℕ) Fault
shares_in origin bytes = do
  plus ← amount_in bytes
  minus ← amount_in plus.1
  Ok (record { origin = origin; plus = plus.0; minus = minus.0 }, minus.1)

abbrev pub IsSoundShare : Share → Type 0
IsSoundShare x = x.share ≤ greatest_share

pub record AreSoundShares (x : PnShare) : Type 0 where
  pub plus : x.plus ≤ greatest_share
  pub minus : x.minus ≤ greatest_share
