-- The records of a key that prune, and those that delete it: what rules look for among what a member holds.
use Rattle.std.specs.Prelude.{◌≡◌, ℕ, suc, ◌==◌, ◌&&◌, ◌||◌, not, nat_le, true, List, Bool, Some, slice_get}
use Rattle.std.specs.List.{list_any, list_all}
use Rattle.model_history.specs.Vector.{VersionVector}
use Rattle.model_history.specs.History.{Record, History, HasRecord}
use Rattle.model_history.specs.History.Action.{Prune}
use Rattle.model_meanings.specs.Growing.{is_operation}
use Rattle.model_kinds.specs.SixKinds.{is_delete}
use Rattle.model_kinds.specs.declared.operation.Op.{Op}
use Rattle.base_vectors.specs.declared.id.Dot.{Dot}
use Rattle.trace_checker.specs.declared.prunes.PruneMade.{PruneMade}

-- the vector counts the record
abbrev pub is_counted : VersionVector → PruneMade → Bool
is_counted known p = nat_le p.number (known p.origin)

abbrev pub prunes_it : VersionVector → ℕ → PruneMade → Bool
prunes_it known id p = (p.removed == id) && is_counted known p

-- a counted record prunes the identity
abbrev pub has_prune : List PruneMade → VersionVector → ℕ → Bool
has_prune prunes known id = list_any (prunes_it known id) prunes

abbrev pub is_same_prune : PruneMade → PruneMade → Bool
is_same_prune p q = (p.origin == q.origin) && (p.number == q.number)

-- another prune isn't counted, or is of another identity
abbrev pub leaves_alone : VersionVector → PruneMade → PruneMade → Bool
leaves_alone known p q = not (prunes_it known p.removed q) || is_same_prune p q

-- a prune isn't counted, or nothing of its identity is counted beside what it saw, and no other prune of it
abbrev pub is_exact_prune : List PruneMade → VersionVector → PruneMade → Bool
is_exact_prune prunes known p = not (is_counted known p) || ((known p.removed == p.seen) && list_all (leaves_alone known p) prunes)

abbrev pub are_exact : List PruneMade → VersionVector → Bool
are_exact prunes known = list_all (is_exact_prune prunes known) prunes

abbrev pub counts_dot : VersionVector → Dot → Bool
counts_dot known dot = nat_le dot.seq (known dot.origin)

-- a counted record deletes the key
abbrev pub has_delete : List Dot → VersionVector → Bool
has_delete deletes known = list_any (counts_dot known) deletes

-- WHAT THEY ARE OF A HISTORY

pub record IsPruneOf (made : History Op) (p : PruneMade) : Type 0 where
  pub index : ℕ
  pub record_is : Record Op
  pub number : p.number ≡ suc index
  pub has : HasRecord made p.origin index record_is
  pub prunes : record_is.action ≡ Prune p.removed
  pub seen : p.seen ≡ record_is.past p.removed

-- they are the prunes among the records
pub record ArePrunes (prunes : List PruneMade) (made : History Op) : Type 0 where
  pub only : (n : ℕ) (p : PruneMade) → slice_get prunes n ≡ Some p → IsPruneOf made p
  pub all : (i k r : ℕ) (x : Record Op) → HasRecord made i k x → x.action ≡ Prune r
      → (n : ℕ) × (p : PruneMade) × (slice_get prunes n ≡ Some p) × (p.origin ≡ i) × (p.number ≡ suc k) × (p.removed ≡ r) × (p.seen ≡ x.past r)

pub record IsDeleteOf (made : History Op) (dot : Dot) : Type 0 where
  pub index : ℕ
  pub record_is : Record Op
  pub number : dot.seq ≡ suc index
  pub has : HasRecord made dot.origin index record_is
  pub deletes : is_operation is_delete record_is.action ≡ true

-- they are the deletes among the records
pub record AreDeletes (deletes : List Dot) (made : History Op) : Type 0 where
  pub only : (n : ℕ) (d : Dot) → slice_get deletes n ≡ Some d → IsDeleteOf made d
  pub all : (i k : ℕ) (x : Record Op) → HasRecord made i k x → is_operation is_delete x.action ≡ true → (n : ℕ) × (d : Dot) × (slice_get deletes n ≡ Some d) × (d.origin ≡ i) × (d.seq ≡ suc k)
