-- The meaning of a set where an add wins over a remove that hasn't seen it.
use Rattle.std.specs.Prelude.{◌≡◌, ℕ, List, Bool, false, ◌&&◌, ◌||◌, not, ◌==◌, Option, Some, filter, filter_map, slice_get}
use Rattle.std.specs.List.{list_any}
use Rattle.model_history.specs.Texts.{Text, text_set}
use Rattle.model_history.specs.Vector.{VersionVector}
use Rattle.model_history.specs.History.{Action, History, cut, by_past, Stamped, all_records, precedes}
use Rattle.model_history.specs.History.Action.{Operation, Prune}
use Rattle.model_meanings.specs.Growing.{found}

-- which operations add an element, and which remove it
pub record SetOperations (Op : Type 0) : Type 0 where
  pub adds : Op → Text → Bool
  pub removes : Op → Text → Bool
  pub added : Op → Option Text

module _ {Op : Type 0} (ops : SetOperations Op) where
  -- an adding record of the element is an add, or a prune that touches it
  abbrev pub is_adding_by : (History Op → Stamped Op → Bool) → Text → History Op → Stamped Op → Action Op → Bool
  is_adding_by touches e H x (Operation op) = ops.adds op e
  is_adding_by touches e H x (Prune r) = touches H x

  -- an adding record is live if no record that touches the element has it in its past
  abbrev pub is_live_by : (History Op → Stamped Op → Bool) → Text → History Op → Stamped Op → Bool
  is_live_by touches e H x = is_adding_by touches e H x x.action && not (list_any (λ y. precedes x y && touches H y) (all_records H))

  -- a record touches an element if it adds or removes it. A prune touches it if the pruned identity has a live adding record of it in the prune's past
  abbrev pub touches_by : (History Op → Stamped Op → Bool) → Text → History Op → VersionVector → Action Op → Bool
  touches_by touches e H past (Operation op) = ops.adds op e || ops.removes op e
  touches_by touches e H past (Prune r) = list_any (λ y. (y.origin == r) && is_live_by touches e (cut H past) y) (all_records (cut H past))

  abbrev pub touches : Text → History Op → Stamped Op → Bool
  touches e = by_past false (λ touches_before H x. touches_by touches_before e H x.past x.action)

  abbrev pub is_live : Text → History Op → Stamped Op → Bool
  is_live e H x = is_live_by (touches e) e H x

  -- the live adding records of an element
  abbrev pub live_records : Text → History Op → List (Stamped Op)
  live_records e H = filter (is_live e H) (all_records H)

  -- the elements with a live adding record, in byte order
  abbrev pub live_elements : History Op → List Text
  live_elements H = filter (λ e. list_any (is_live e H) (all_records H)) (text_set (filter_map (λ x. found ops.added x.action) (all_records H)))

  -- each record touches the element by its operation, or as a prune by what is live in its past
  abbrev pub TouchesFollowPasts : Text → History Op → Type 0
  TouchesFollowPasts e H = (k : ℕ) (x : Stamped Op) → slice_get (all_records H) k ≡ Some x → touches e H x ≡ touches_by (touches e) e H x.past x.action

  -- a record is live exactly where it adds the element and no later record touches that
  abbrev pub LivesUntouched : Text → History Op → Stamped Op → Type 0
  LivesUntouched e H x = is_live e H x ≡ (is_adding_by (touches e) e H x x.action && not (list_any (λ y. precedes x y && touches e H y) (all_records H)))
