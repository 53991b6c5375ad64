-- What the calls of a growing counter compute, and what its data are.
use Rattle.std.specs.Prelude.{◌≡◌, ℕ, ◌+◌, ◌<◌, max, Bool, true, false, not, nat_eq, Option, None, sum_by}
use Rattle.std.specs.FinMap as map
use Rattle.model_history.specs.Table.{identity_limit, identities, with_at}
use Rattle.model_history.specs.Vector.{VersionVector, IdentitySet}
use Rattle.model_history.specs.History.{History}
use Rattle.model_meanings.specs.Shares.{HasShare}
use Rattle.model_meanings.specs.Refusal.{Refusal, Shares, overflow, too_much}
use Rattle.base_vectors.specs.Vectors.{number_at, numbers_of, raised, joined, removed, IsNormal}
use Rattle.base_vectors.specs.declared.id.Dot.{Dot}
use Rattle.data_counters.specs.declared.counter.GCounter.{GCounter}
use Rattle.data_counters.specs.declared.counter.Share.{Share}

abbrev pub empty_counter : GCounter
empty_counter = record { shares = map.empty }

abbrev pub counter_applied : GCounter → ℕ → Dot → GCounter
counter_applied state by dot = record { shares = numbers_of (with_at (number_at state.shares) dot.origin (number_at state.shares dot.origin + by)) }

abbrev pub counter_delta_of : GCounter → ℕ → Dot → Share
counter_delta_of state by dot = record { origin = dot.origin; share = number_at state.shares dot.origin + by }

abbrev pub counter_apply_refusal : GCounter → ℕ → ℕ → Option Refusal
counter_apply_refusal state by origin = overflow (number_at state.shares origin) by

abbrev pub counter_joined : GCounter → GCounter → GCounter
counter_joined state other = record { shares = joined state.shares other.shares }

abbrev pub counter_absorbed : GCounter → Share → GCounter
counter_absorbed state delta = record { shares = raised state.shares delta.origin delta.share }

abbrev pub counter_combined : Share → Share → Share
counter_combined first later = record { origin = first.origin; share = max first.share later.share }

abbrev pub counter_cleaned : GCounter → ℕ → GCounter
counter_cleaned state id = record { shares = removed state.shares id }

abbrev pub counter_pruned : GCounter → ℕ → ℕ → GCounter
counter_pruned state gone owner = record {
  shares = numbers_of (with_at (with_at (number_at state.shares) owner (number_at state.shares owner + number_at state.shares gone)) gone 0);
}

abbrev pub counter_prune_refusal : GCounter → ℕ → ℕ → Option Shares
counter_prune_refusal state gone owner = too_much (number_at state.shares owner) (number_at state.shares gone) None

abbrev pub counter_mentioned : GCounter → ℕ → Bool
counter_mentioned state id = not (nat_eq (number_at state.shares id) 0)

-- the sum of the shares
abbrev pub counter_sum : GCounter → ℕ
counter_sum state = sum_by (number_at state.shares) identities

-- the share of each identity that wasn't cleaned away
pub record AreShares {Op : Type 0} (amount : Op → ℕ) (state : GCounter) (log : History Op) (held : VersionVector) (gone : IdentitySet) : Type 0 where
  pub normal : IsNormal state.shares
  pub away : (i : ℕ) → gone i ≡ true → number_at state.shares i ≡ 0
  pub share : (i : ℕ) → i < identity_limit → gone i ≡ false → HasShare amount log i (held i) (number_at state.shares i)

-- the share that the origin has with the last record
pub record IsShareAt {Op : Type 0} (amount : Op → ℕ) (delta : Share) (log : History Op) (origin after to : ℕ) : Type 0 where
  pub made_by : delta.origin ≡ origin
  pub rises : after < to
  pub share : HasShare amount log origin to delta.share

pub record AreSharesWithin (state : GCounter) (context : VersionVector) : Type 0 where
  pub normal : IsNormal state.shares
  pub seen : (i : ℕ) → i < identity_limit → 0 < number_at state.shares i → 0 < context i

abbrev pub IsShareOf : Share → ℕ → Type 0
IsShareOf delta origin = delta.origin ≡ origin
