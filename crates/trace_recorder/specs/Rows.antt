-- How many records each member holds of a key, as a row by members that ends where nothing more is known.
use Rattle.std.specs.Prelude.{◌≡◌, ◌≢◌, ℕ, suc, ◌<◌, List, [], Bool, true, false, Some, slice_get, slice_index_or}
use Rattle.std.specs.FinMap as map
use Rattle.model_history.specs.Table.{identity_limit, with_at}
use Rattle.model_kinds.specs.declared.operation.Op.{Op}
use Rattle.model_traces.specs.Traces.{Act}
use Rattle.base_vectors.specs.Vectors.{Numbers, number_at}
use Rattle.trace_told.specs.Told.{counted_after, is_news}
use Rattle.trace_recorder.specs.declared.rows.Row.{Row}

-- what a member holds
abbrev pub vector_at : List Numbers → ℕ → Numbers
vector_at held i = slice_index_or held i map.empty

-- another vector of one member, and nothing else
abbrev pub IsPut : (old new : List Numbers) → ℕ → Numbers → Type 0
IsPut old new i vector = (j : ℕ) → vector_at new j ≡ with_at (vector_at old) i vector j

-- one record more of a member's own, and nothing else
abbrev pub IsRaised : (old new : List Numbers) → ℕ → Type 0
IsRaised old new i = (j x : ℕ) → x < identity_limit → number_at (vector_at new j) x ≡ with_at (λ k. number_at (vector_at old k)) i (with_at (number_at (vector_at old i)) i (suc (number_at (vector_at old i) i))) j x

-- nobody holds a record
abbrev pub AreEmpty : List Row → Type 0
AreEmpty rows = (place : ℕ) (row : Row) → slice_get rows place ≡ Some row → row.held.items ≡ []

-- how many records a member holds, as the act leaves it
abbrev pub HasCounted : (old new : List Numbers) → ℕ → Act Op → Type 0
HasCounted old new i act = (j x : ℕ) → x < identity_limit → number_at (vector_at new j) x ≡ with_at (λ k. number_at (vector_at old k)) i (counted_after (number_at (vector_at old i)) i act) j x

-- the row at a place counts what is news, and no other row changes
pub record HasCountedAt (place i : ℕ) (act : Act Op) (news : Bool) (old new : List Row) : Type 0 where
  pub before : Row
  pub after : Row
  pub was : slice_get old place ≡ Some before
  pub is : slice_get new place ≡ Some after
  pub told : news ≡ is_news (number_at (vector_at before.held.items i)) act
  pub counted : news ≡ true → HasCounted before.held.items after.held.items i act
  pub same : news ≡ false → new ≡ old
  pub others : (p : ℕ) → p ≢ place → slice_get new p ≡ slice_get old p
