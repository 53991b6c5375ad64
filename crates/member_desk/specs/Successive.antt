-- What one subscription is told at flush after flush.
--     tellings        the values that it is told, of those that are found
--     Differ        each shows something else than the one before it
--     Rise        each history is a part of those after it
--     last_of        the last one
--     said_over        what a desk says to one client of one key
--     SaysTellings        it says these values to each client that is subscribed
--     EndsAsFound, TellingsRise        the last one shows what was found last; they rise where what is found does
use Rattle.std.specs.Prelude.{◌≡◌, ◌≢◌, ℕ, List, [], ◌∷◌, ◌++◌, map, filter, ◌&&◌, ◌==◌, if◌then◌else◌, Option, Some, None, option_map}
use Rattle.std.specs.List.{AllByRecursion}
use Rattle.std.specs.Str.{bytes_eq}
use Rattle.model_history.specs.Texts.{Text}
use Rattle.model_history.specs.History.{History, IsPartOf}
use Rattle.model_kinds.specs.declared.shown.Shown.{Shown}
use Rattle.member_desk.specs.declared.followed.Followed.{Followed}
use Rattle.member_desk.specs.declared.notice.Notice.{Notice}
use Rattle.member_desk.specs.Notices.{is_news, notices_of, told_after}
use Rattle.member_desk.specs.Subscriptions.{AreInOrder, told_to}

module _ {V : Type 0} (shows : Text → V → Shown) (key : Text) where
  -- where this was told before; at each flush a value is found, or none
  abbrev pub tellings : Option V → List (Option V) → List V
  tellings told [] = []
  tellings told (None ∷ found) = tellings told found
  tellings told (Some now ∷ found) = if is_news shows key told now then now ∷ tellings (Some now) found else tellings (Some now) found

-- the values that are found
abbrev pub found_values : {V : Type 0} → List (Option V) → List V
found_values [] = []
found_values (None ∷ found) = found_values found
found_values (Some now ∷ found) = now ∷ found_values found

abbrev pub IsOther : Shown → List Shown → Type 0
IsOther shown [] = Unit {0}
IsOther shown (next ∷ more) = shown ≢ next

abbrev pub Differ : List Shown → Type 0
Differ [] = Unit {0}
Differ (shown ∷ more) = IsOther shown more × Differ more

abbrev pub Rise : {Op : Type 0} → List (History Op) → Type 0
Rise [] = Unit {0}
Rise (history ∷ more) = AllByRecursion (IsPartOf history) more × Rise more

abbrev pub last_of : Option Shown → List Shown → Option Shown
last_of told [] = told
last_of told (shown ∷ more) = last_of (Some shown) more

-- what notices say to one client of one key
abbrev pub said_to : Text → ℕ → List Notice → List Shown
said_to key number notices = map (λ notice. notice.shown) (filter (λ notice. bytes_eq notice.key key && (notice.client == number)) notices)

-- what they say at flush after flush, at each of which this is found
abbrev pub said_over : {V : Type 0} → (Text → V → Shown) → Text → ℕ → List (Followed V) → List (Text → Option V) → List Shown
said_over shows key number desk [] = []
said_over shows key number desk (found ∷ more) = said_to key number (notices_of shows found desk) ++ said_over shows key number (told_after found desk) more

module _ {V : Type 0} (shows : Text → V → Shown) where
  -- to each client of each key that is subscribed it says the values that the subscription is told
  abbrev pub SaysTellings : List (Followed V) → Type 0
  SaysTellings desk =
      (key : Text) (client : ℕ) (told : Option V) (flushes : List (Text → Option V)) → AreInOrder desk → told_to desk key client ≡ Some told
      → said_over shows key client desk flushes ≡ map (shows key) (tellings shows key told (map (λ found. found key) flushes))

  -- what is shown last is what was found last
  abbrev pub EndsAsFound : Text → Option V → List (Option V) → Type 0
  EndsAsFound key told found = last_of (option_map (shows key) told) (map (shows key) (tellings shows key told found)) ≡ last_of (option_map (shows key) told) (map (shows key) (found_values found))

-- histories that are told rise where those that are found do
abbrev pub TellingsRise : {Op : Type 0} → (Text → History Op → Shown) → Text → Type 0
TellingsRise {Op = Op} shows key = (told : Option (History Op)) (found : List (Option (History Op))) → Rise (found_values found) → Rise (tellings shows key told found)
