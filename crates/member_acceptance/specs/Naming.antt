-- Whom entries name.
--     is_named        an identity, in the numbers of records, in the data or in the marks
--     names_later        some identity that was not given
--     has_late_mark        a mark of a view that is not there
use Rattle.std.specs.Prelude.{ℕ, Bool, false, ◌&&◌, ◌||◌, ◌==◌, nat_lt, nat_le, Option, Some, None}
use Rattle.std.specs.List.{list_any}
use Rattle.model_history.specs.Table.{identities}
use Rattle.base_vectors.specs.Vectors.{Numbers, number_at}
use Rattle.base_vectors.specs.IdSets.{members_in}
use Rattle.data_markers.specs.Marks.{Marks, mark_of}
use Rattle.data_markers.specs.declared.marker.Marker.{Marker}
use Rattle.data_markers.specs.declared.marker.Marker.TheVariants.{Initialized, Performed}
use Rattle.data_envelope.specs.Images.{Parts}

abbrev pub mark_names : Marker → ℕ → Bool
mark_names (Initialized view owner seen) i = (owner == i) || members_in seen i
mark_names (Performed owner at upto) i = owner == i

-- what stands at an identity names that, and whom the mark names
abbrev pub names_at : ℕ → Option Marker → ℕ → Bool
names_at r None i = false
names_at r (Some mark) i = (r == i) || mark_names mark i

-- the mark was begun in a view above this one
abbrev pub is_late : ℕ → Option Marker → Bool
is_late view None = false
is_late view (Some (Initialized begun owner seen)) = nat_lt view begun
is_late view (Some (Performed owner at upto)) = false

-- a number at an identity that was not given
unfoldable pub counts_later : ℕ → Numbers → Bool
counts_later given numbers = list_any (λ i. nat_le given i && nat_lt 0 (number_at numbers i)) identities

module _ {T : Type 0} (mentioned : T → ℕ → Bool) where
  abbrev pub is_named : Parts T → ℕ → Bool
  is_named parts i = (nat_lt 0 (number_at parts.versions i) || mentioned parts.value i) || list_any (λ r. names_at r (mark_of parts.marks r) i) identities

  unfoldable pub names_later : ℕ → Parts T → Bool
  names_later given parts = list_any (λ i. nat_le given i && is_named parts i) identities

unfoldable pub has_late_mark : ℕ → Marks → Bool
has_late_mark view marks = list_any (λ r. is_late view (mark_of marks r)) identities
