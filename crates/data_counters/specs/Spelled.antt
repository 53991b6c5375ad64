-- Counters as bytes: their one spelling, how they are read, and what a history's is.
use Rattle.std.specs.Prelude.{ℕ, List, ◌++◌, if◌then◌else◌, Result, Ok}
use Rattle.model_history.specs.Vector.{IdentitySet}
use Rattle.model_history.specs.History.{History, is_pruned}
use Rattle.model_meanings.specs.Refusal.{greatest_share}
use Rattle.model_meanings.specs.Counter.{share}
use Rattle.base_bytes.specs.declared.fault.Fault.{Fault}
use Rattle.base_bytes.specs.Fields.{◌>>=◌}
use Rattle.base_vectors.specs.Vectors.{number_at}
use Rattle.base_vectors.specs.Spelling.{numbers_spelled, numbers_in, AreSpellable}
use Rattle.model_kinds.specs.SixKinds.{increment, decrement}
use Rattle.model_kinds.specs.declared.operation.Op.{Op}
use Rattle.data_counters.specs.declared.counter.GCounter.{GCounter}
use Rattle.data_counters.specs.declared.counter.PnCounter.{PnCounter}

-- the bytes of the two kinds
abbrev pub growing_byte : ℕ
growing_byte = 1

abbrev pub signed_byte : ℕ
signed_byte = 2

-- the shares that aren't 0, rising by identity
abbrev pub counter_spelled : GCounter → List ℕ
counter_spelled state = numbers_spelled (number_at state.shares)

-- those of increments, and then those of decrements
abbrev pub signed_spelled : PnCounter → List ℕ
signed_spelled state = counter_spelled state.plus ++ counter_spelled state.minus

unfoldable pub counter_in : IdentitySet → List ℕ → Result (GCounter × List ℕ) Fault
counter_in barred bytes = do
  shares ← numbers_in greatest_share barred bytes
  Ok (record { shares = shares.0 }, shares.1)

unfoldable pub signed_in : IdentitySet → List ℕ → Result (PnCounter × List ℕ) Fault
signed_in barred bytes = do
  plus ← counter_in barred bytes
  minus ← counter_in barred plus.1
  Ok (record { plus = plus.0; minus = minus.0 }, minus.1)

abbrev pub IsSoundCounter : GCounter → Type 0
IsSoundCounter state = AreSpellable greatest_share state.shares

pub record IsSoundSigned (state : PnCounter) : Type 0 where
  pub plus : IsSoundCounter state.plus
  pub minus : IsSoundCounter state.minus

-- the shares of the identities that aren't pruned
abbrev pub share_left : {Op : Type 0} → (Op → ℕ) → History Op → ℕ → ℕ
share_left amount H i = if is_pruned H i then 0 else share amount H i

abbrev pub growing_history_spelled : History Op → List ℕ
growing_history_spelled H = numbers_spelled (share_left increment H)

abbrev pub signed_history_spelled : History Op → List ℕ
signed_history_spelled H = numbers_spelled (share_left increment H) ++ numbers_spelled (share_left decrement H)
