-- What records add and take, and whether one of them switches on.
use Rattle.std.specs.Prelude.{ℕ, ◌+◌, List, take, sum_by, false, ◌||◌}
use Rattle.std.specs.List.{list_any}
use Rattle.model_history.specs.Vector.{VersionVector}
use Rattle.model_history.specs.History.{Action, Record, History}
use Rattle.model_meanings.specs.Counter.{amount_of}
use Rattle.model_meanings.specs.Growing.{is_operation}
use Rattle.model_kinds.specs.SixKinds.{increment, decrement, enables}
use Rattle.model_kinds.specs.declared.operation.Op.{Op}
use Rattle.trace_values.specs.declared.sums.Sums.{Sums}
use Rattle.trace_values.specs.Rows.{last_of, AreFirst}

abbrev pub no_sums : Sums
no_sums = record { added = 0; taken = 0; enabled = false }

-- what some records come to
abbrev pub sums_meant : List (Record Op) → Sums
sums_meant rs = record {
  added = sum_by (λ r. amount_of increment r.action) rs;
  taken = sum_by (λ r. amount_of decrement r.action) rs;
  enabled = list_any (λ r. is_operation enables r.action) rs;
}

-- with one more
abbrev pub with_action : Sums → Action Op → Sums
with_action s action = record {
  added = s.added + amount_of increment action;
  taken = s.taken + amount_of decrement action;
  enabled = s.enabled || is_operation enables action;
}

abbrev pub both_sums : Sums → Sums → Sums
both_sums s t = record { added = s.added + t.added; taken = s.taken + t.taken; enabled = s.enabled || t.enabled }

-- what the first so many records of identities come to
unfoldable pub counted_sums : List (List Sums) → VersionVector → List ℕ → Sums
counted_sums rows known ids = record {
  added = sum_by (λ i. (last_of no_sums rows i (known i)).added) ids;
  taken = sum_by (λ i. (last_of no_sums rows i (known i)).taken) ids;
  enabled = list_any (λ i. (last_of no_sums rows i (known i)).enabled) ids;
}

-- of each identity what its first so many records come to
abbrev pub AreSums : List (List Sums) → History Op → Type 0
AreSums sums made = AreFirst no_sums (λ i n. sums_meant (take n (made i))) sums made
