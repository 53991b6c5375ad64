-- Which records touch an element, by identity, and whether it is shown.
use Rattle.std.specs.Prelude.{◌≡◌, ℕ, zero, suc, ◌-◌, ◌<◌, ◌≤◌, ◌==◌, ◌&&◌, not, nat_le, if◌then◌else◌, List, [], ◌∷◌, ◌++◌, length, get_or, fold, Bool, true, false, None, Some, slice_get}
use Rattle.std.specs.List.{list_any}
use Rattle.model_history.specs.Table.{identities}
use Rattle.model_history.specs.Texts.{Text}
use Rattle.model_history.specs.Vector.{VersionVector}
use Rattle.model_history.specs.History.{Action, History, at}
use Rattle.model_history.specs.History.Action.{Operation, Prune}
use Rattle.model_kinds.specs.SixKinds.{set_operations, adds}
use Rattle.model_kinds.specs.declared.operation.Op.{Op}
use Rattle.theorem_latest.specs.Latest.{touches_at}
use Rattle.base_vectors.specs.Vectors.{number_at}
use Rattle.data_meaning.specs.declared.record.Record.{Record}
use Rattle.data_meaning.specs.Records.{action_of}
use Rattle.trace_values.specs.Rows.{row_of}

-- the numbers of those of the first so many records that pass a test
abbrev pub passing : (ℕ → Bool) → ℕ → List ℕ
passing test zero = []
passing test (suc k) = if test k then passing test k ++ suc k ∷ [] else passing test k

-- none is less than one before it
abbrev pub AreRising : List ℕ → Type 0
AreRising ns = (i j : ℕ) → i ≤ j → j < length ns → get_or ns i 0 ≤ get_or ns j 0

-- another number is at the end of an identity's, if a test holds, and they rise with it; and else nothing else is there
abbrev pub IsPushedIf : Bool → List (List ℕ) → List (List ℕ) → ℕ → ℕ → Type 0
IsPushedIf b old new id n = AreRising (row_of old id ++ n ∷ []) → (i : ℕ) → row_of new i ≡ (if b then (if i == id then row_of old i ++ n ∷ [] else row_of old i) else row_of old i)

-- the last of rising numbers that is no greater; 0 where there is none
abbrev pub last_counted : List ℕ → ℕ → ℕ
last_counted numbers count = fold (λ last n. if nat_le n count then n else last) 0 numbers

-- of each identity the numbers of the records that touch the element
abbrev pub AreTouches : Text → List (List ℕ) → History Op → Type 0
AreTouches e touches made = (i : ℕ) → row_of touches i ≡ passing (touches_at set_operations e made i) (at made i)

-- the last counted record of an identity that touches the element
abbrev pub last_at : List (List ℕ) → VersionVector → ℕ → ℕ
last_at touches known i = last_counted (row_of touches i) (known i)

-- how many records of an identity stand in the past of a record of another
abbrev pub past_at : List (List Record) → ℕ → ℕ → ℕ → ℕ
past_at rows j number i = elim (slice_get (row_of rows j) (number - 1)) [ None ↦ 0 | Some r ↦ number_at r.past i ]

-- the last counted record of j that touches the element has this record of i in its past
abbrev pub sees : List (List Record) → List (List ℕ) → VersionVector → ℕ → ℕ → ℕ → Bool
sees rows touches known i number j = not (last_at touches known j == 0) && nat_le number (past_at rows j (last_at touches known j) i)

-- a record that touches the element adds it
abbrev pub is_adding : Text → Action Op → Bool
is_adding e (Operation op) = adds op e
is_adding e (Prune r) = true

abbrev pub adds_at : List (List Record) → ℕ → ℕ → Text → Bool
adds_at rows i number e = elim (slice_get (row_of rows i) (number - 1)) [ None ↦ false | Some r ↦ is_adding e (action_of r.action) ]

-- one of the last counted records that touch the element has this record of i in its past
unfoldable pub is_seen : List (List Record) → List (List ℕ) → VersionVector → ℕ → ℕ → Bool
is_seen rows touches known i number = list_any (sees rows touches known i number) identities

-- the last counted record of i that touches the element adds it, and none of the last sees it
abbrev pub is_last_live : List (List Record) → List (List ℕ) → Text → VersionVector → ℕ → Bool
is_last_live rows touches e known i =
    not (last_at touches known i == 0) && adds_at rows i (last_at touches known i) e && not (is_seen rows touches known i (last_at touches known i))

unfoldable pub is_live : List (List Record) → List (List ℕ) → Text → VersionVector → Bool
is_live rows touches e known = list_any (is_last_live rows touches e known) identities

-- a record that is counted adds the element
unfoldable pub is_added : List (List ℕ) → VersionVector → Bool
is_added adds known = list_any (λ i. not (last_at adds known i == 0)) identities
