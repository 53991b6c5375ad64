-- The meaning of sets that only grow and of registers, and whether a history has an operation: so a flag is on, and a key deleted.
use Rattle.std.specs.Prelude.{◌≡◌, ℕ, ◌+◌, max, List, [], Bool, true, false, ◌&&◌, not, ◌==◌, Option, None, Some, map, filter_map, fold, find, option_map, unwrap_or, slice_get}
use Rattle.std.specs.List.{list_any}
use Rattle.model_history.specs.Texts.{Text, text_set}
use Rattle.model_history.specs.History.{Action, Record, History, HasRecord, cut, by_past, Stamped, all_records}
use Rattle.model_history.specs.History.Action.{Operation, Prune}

-- a text that is written, and the writer's clock
pub record Assignment : Type 0 where
  pub text : Text
  pub now : ℕ

-- the greatest of the numbers, or 0
abbrev pub greatest : List ℕ → ℕ
greatest ns = fold max 0 ns

-- the timestamp of a write: the greater of its clock and one more than the greatest timestamp in its past
abbrev pub timestamp_after : ℕ → Option Assignment → ℕ
timestamp_after before None = 0
timestamp_after before (Some assignment) = max assignment.now (before + 1)

module _ {Op : Type 0} where
  -- what f finds in the operation of a record
  abbrev pub found : {X : Type 0} → (Op → Option X) → Action Op → Option X
  found f (Operation op) = f op
  found f (Prune r) = None

  -- the elements that are added, in byte order
  abbrev pub added_elements : (Op → Option Text) → History Op → List Text
  added_elements added H = text_set (filter_map (λ x. found added x.action) (all_records H))

  -- an operation that passes the test
  abbrev pub is_operation : (Op → Bool) → Action Op → Bool
  is_operation test (Operation op) = test op
  is_operation test (Prune r) = false

  -- whether some record is such an operation
  abbrev pub has_operation : (Op → Bool) → History Op → Bool
  has_operation test H = list_any (λ x. is_operation test x.action) (all_records H)

  abbrev pub timestamp : (Op → Option Assignment) → History Op → Stamped Op → ℕ
  timestamp assigned =
      by_past 0 (λ timestamp_before H x. timestamp_after (greatest (map (timestamp_before (cut H x.past)) (all_records (cut H x.past)))) (found assigned x.action))

  -- the greatest timestamp
  abbrev pub newest : (Op → Option Assignment) → History Op → ℕ
  newest assigned H = greatest (map (timestamp assigned H) (all_records H))

  -- the write with the greatest timestamp, and among these of the least origin
  abbrev pub winner : (Op → Option Assignment) → History Op → Option (Stamped Op)
  winner assigned H = find (λ x. not (newest assigned H == 0) && (timestamp assigned H x == newest assigned H)) (all_records H)

  abbrev pub winning_text : (Op → Option Assignment) → History Op → Text
  winning_text assigned H = unwrap_or (option_map (λ assignment. assignment.text) (unwrap_or (option_map (λ x. found assigned x.action) (winner assigned H)) None)) []

  -- the timestamp of each record is the one after the greatest in its past
  abbrev pub TimestampsFollowPasts : (Op → Option Assignment) → History Op → Type 0
  TimestampsFollowPasts assigned H =
      (k : ℕ) (x : Stamped Op) → slice_get (all_records H) k ≡ Some x → timestamp assigned H x ≡ timestamp_after (greatest (map (timestamp assigned (cut H x.past)) (all_records (cut H x.past)))) (found assigned x.action)

  -- some record is an operation that passes the test
  abbrev pub HasPassing : (Op → Bool) → History Op → Type 0
  HasPassing test H = (i : ℕ) × (k : ℕ) × (r : Record Op) × (op : Op) × HasRecord H i k r × (r.action ≡ Operation op) × (test op ≡ true)

  -- whichever record is an operation that passes the test, it is told that there is one
  abbrev pub TellsPassing : (Op → Bool) → History Op → Type 0
  TellsPassing test H = (i k : ℕ) (r : Record Op) (op : Op) → HasRecord H i k r → r.action ≡ Operation op → test op ≡ true → has_operation test H ≡ true
