-- What the map inside keeps: identities below identity_limit alone, and marks that are well formed.
use Rattle.model_history.specs.Table.{identity_limit}
use Rattle.std.specs.Prelude.{◌≡◌, ℕ, ◌≤◌, ◌^◌, List, Some, None}
use Rattle.std.specs.Ordering.{nat_cmp}
use Rattle.std.specs.Map.{lookup}
use Rattle.std.specs.BTreeMap.{is_at}
use Rattle.data_markers.specs.declared.marker.Marker.{Marker}
use Rattle.data_markers.specs.declared.marker.Marker.TheVariants.{Initialized, Performed}

-- a record's number
pub record IsSeq (n : ℕ) : Type 0 where
  pub some : 1 ≤ n
  pub small : n ≤ 2 ^ 62

-- somebody has seen a mark that was begun, and the numbers of a performed one are those of records
abbrev pub IsMark : Marker → Type 0
IsMark (Initialized view owner seen) = seen ≡ 0 → ⊥
IsMark (Performed owner at upto) = IsSeq at × IsSeq upto

pub record AreMarks (entries : List (ℕ × Marker)) : Type 0 where
  pub few : (q : ℕ) → identity_limit ≤ q → lookup (is_at (nat_cmp q)) entries ≡ None
  pub marks : (q : ℕ) (mark : Marker) → lookup (is_at (nat_cmp q)) entries ≡ Some mark → IsMark mark
