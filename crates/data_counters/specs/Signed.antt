-- What the calls of a counter that moves both ways compute, and what its data are: those of two growing counters.
use Rattle.std.specs.Prelude.{◌≡◌, ℕ, ◌+◌, Bool, ◌||◌, Option, ℤ, pos, neg_ℤ, ◌+ℤ◌}
use Rattle.model_history.specs.Vector.{VersionVector, IdentitySet}
use Rattle.model_history.specs.History.{History}
use Rattle.model_meanings.specs.Refusal.{Refusal, Shares, too_much}
use Rattle.base_vectors.specs.Vectors.{number_at}
use Rattle.base_vectors.specs.declared.id.Dot.{Dot}
use Rattle.model_kinds.specs.SixKinds.{increment, decrement}
use Rattle.model_kinds.specs.declared.operation.Op.{Op}
use Rattle.model_kinds.specs.declared.operation.Op.TheVariants.{Decrement}
use Rattle.data_counters.specs.declared.counter.Share.{Share}
use Rattle.data_counters.specs.declared.counter.PnCounter.{PnCounter}
use Rattle.data_counters.specs.declared.counter.PnShare.{PnShare}
use Rattle.data_counters.specs.Counter.{counter_applied, counter_apply_refusal, counter_joined, counter_absorbed, counter_combined, counter_cleaned, counter_pruned, counter_prune_refusal, counter_mentioned, counter_sum, AreShares, IsShareAt, AreSharesWithin, empty_counter}

-- the two shares of a delta
abbrev pub plus_of : PnShare → Share
plus_of delta = record { origin = delta.origin; share = delta.plus }

abbrev pub minus_of : PnShare → Share
minus_of delta = record { origin = delta.origin; share = delta.minus }

abbrev pub empty_signed : PnCounter
empty_signed = record { plus = empty_counter; minus = empty_counter }

abbrev pub signed_applied : PnCounter → Op → Dot → PnCounter
signed_applied state op dot = record { plus = counter_applied state.plus (increment op) dot; minus = counter_applied state.minus (decrement op) dot }

abbrev pub signed_delta_of : PnCounter → Op → Dot → PnShare
signed_delta_of state op dot = record {
  origin = dot.origin;
  plus = number_at state.plus.shares dot.origin + increment op;
  minus = number_at state.minus.shares dot.origin + decrement op;
}

-- the part that grows refuses
abbrev pub signed_apply_refusal : PnCounter → Op → ℕ → Option Refusal
signed_apply_refusal state (Decrement by) origin = counter_apply_refusal state.minus by origin
signed_apply_refusal state op origin = counter_apply_refusal state.plus (increment op) origin

abbrev pub signed_joined : PnCounter → PnCounter → PnCounter
signed_joined state other = record { plus = counter_joined state.plus other.plus; minus = counter_joined state.minus other.minus }

abbrev pub signed_absorbed : PnCounter → PnShare → PnCounter
signed_absorbed state delta = record { plus = counter_absorbed state.plus (plus_of delta); minus = counter_absorbed state.minus (minus_of delta) }

abbrev pub signed_combined : PnShare → PnShare → PnShare
signed_combined first later = record {
  origin = first.origin;
  plus = (counter_combined (plus_of first) (plus_of later)).share;
  minus = (counter_combined (minus_of first) (minus_of later)).share;
}

abbrev pub signed_cleaned : PnCounter → ℕ → PnCounter
signed_cleaned state id = record { plus = counter_cleaned state.plus id; minus = counter_cleaned state.minus id }

abbrev pub signed_pruned : PnCounter → ℕ → Dot → PnCounter
signed_pruned state gone dot = record { plus = counter_pruned state.plus gone dot.origin; minus = counter_pruned state.minus gone dot.origin }

-- plus is tried before minus
abbrev pub signed_prune_refusal : PnCounter → ℕ → ℕ → Option Shares
signed_prune_refusal state gone owner = too_much (number_at state.plus.shares owner) (number_at state.plus.shares gone) (counter_prune_refusal state.minus gone owner)

abbrev pub signed_mentioned : PnCounter → ℕ → Bool
signed_mentioned state id = counter_mentioned state.plus id || counter_mentioned state.minus id

abbrev pub less : ℕ → ℕ → ℤ
less plus minus = pos plus +ℤ neg_ℤ (pos minus)

-- what was added, less what was taken
abbrev pub signed_sum : PnCounter → ℤ
signed_sum state = less (counter_sum state.plus) (counter_sum state.minus)

-- the shares of what increments add and those of what decrements add
pub record AreBothShares (state : PnCounter) (log : History Op) (held : VersionVector) (gone : IdentitySet) : Type 0 where
  pub plus : AreShares increment state.plus log held gone
  pub minus : AreShares decrement state.minus log held gone

pub record AreBothAt (delta : PnShare) (log : History Op) (origin after to : ℕ) : Type 0 where
  pub plus : IsShareAt increment (plus_of delta) log origin after to
  pub minus : IsShareAt decrement (minus_of delta) log origin after to

pub record AreBothWithin (state : PnCounter) (context : VersionVector) : Type 0 where
  pub plus : AreSharesWithin state.plus context
  pub minus : AreSharesWithin state.minus context

abbrev pub AreBothOf : PnShare → ℕ → Type 0
AreBothOf delta origin = delta.origin ≡ origin
