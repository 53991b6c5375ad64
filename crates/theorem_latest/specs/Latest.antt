-- The last record of each identity that touches an element.
use Rattle.std.specs.Prelude.{◌≡◌, ℕ, ◌<◌, zero, suc, ◌-◌, ◌==◌, Bool, ◌&&◌, not, if◌then◌else◌, nat_le}
use Rattle.std.specs.List.{list_any}
use Rattle.model_history.specs.Table.{identities, identity_limit}
use Rattle.model_history.specs.Texts.{Text}
use Rattle.model_history.specs.History.{History, Stamped, at, all_records}
use Rattle.model_history.specs.Cuts.{record_at}
use Rattle.model_meanings.specs.ObservedRemove.{SetOperations, is_adding_by, is_live, touches}

module _ {Op : Type 0} (ops : SetOperations Op) (e : Text) (H : History Op) where
  -- the record of an origin at an index, with its number
  abbrev pub stamped_at : ℕ → ℕ → Stamped Op
  stamped_at i k = let r = record_at H i k in record { origin = i; number = suc k; action = r.action; past = r.past }

  abbrev pub touches_at : ℕ → ℕ → Bool
  touches_at i k = touches ops e H (stamped_at i k)

  -- the number of the last record that touches the element, of the first so many of an identity; 0 where none does
  abbrev pub last_touch : ℕ → ℕ → ℕ
  last_touch i zero = 0
  last_touch i (suc k) = if touches_at i k then suc k else last_touch i k

  abbrev pub last_of : ℕ → ℕ
  last_of i = last_touch i (at H i)

  -- the last record of j is there, and has the last record of i in its past
  abbrev pub sees : ℕ → ℕ → Bool
  sees j i = not (last_of j == 0) && nat_le (last_of i) ((stamped_at j (last_of j - 1)).past i)

  -- the last record of i adds the element, and no last record sees it
  abbrev pub is_last_live : ℕ → Bool
  is_last_live i = not (last_of i == 0) && is_adding_by ops (touches ops e) e H (stamped_at i (last_of i - 1)) (stamped_at i (last_of i - 1)).action && not (list_any (λ j. sees j i) identities)

  abbrev pub has_last_live : Bool
  has_last_live = list_any is_last_live identities

  -- a record of an identity adds the element, and no later one has replaced it, exactly where the last record of the identity that touches the element does so
  abbrev pub LastTouchesTell : Type 0
  LastTouchesTell = (i : ℕ) → i < identity_limit → list_any (λ x. (x.origin == i) && is_live ops e H x) (all_records H) ≡ is_last_live i
