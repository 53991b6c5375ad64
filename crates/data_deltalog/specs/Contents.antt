-- What a log keeps, and what its records say of the answers.
--     LogParts        what contracts see of a log
--     AgreeBut        vectors with the same numbers, but perhaps at one identity
--     last_of        the last items of a list
--     before_with, appended        what was had of the others before the last record, and the log, with one record more
--     wanted        the records after a number
--     answer_by, combined_of, IsMadeOf        the answer that the kept records give, and the group that is made of them
--     IsLog        what is true of every log: its deltas are of its origin and kind, so that they can be combined
use Rattle.std.specs.Prelude.{◌≡◌, ◌≢◌, ℕ, ◌+◌, ◌-◌, ◌≤◌, ◌^◌, min, Bool, true, not, nat_le, nat_lt, if◌then◌else◌, List, [], ◌∷◌, ◌++◌, length, drop, fold, slice_get, Option, Some, None, is_some, unwrap_or}
use Rattle.std.specs.List.{list_any}
use Rattle.model_history.specs.Table.{with_at}
use Rattle.model_history.specs.Vector.{VersionVector}
use Rattle.base_vectors.specs.Vectors.{Numbers, number_at}
use Rattle.data_envelope.specs.Images.{GroupParts}
use Rattle.data_deltalog.specs.Answers.{Answer, most_kept}
use Rattle.data_deltalog.specs.Answers.Answer.{Nothing, TooOld, NoDelta, AsGroup}

-- the last items of a list
abbrev pub last_of : {X : Type 0} → ℕ → List X → List X
last_of n xs = drop (length xs - n) xs

-- the same numbers at all identities, but perhaps at one
abbrev pub AgreeBut : ℕ → VersionVector → VersionVector → Type 0
AgreeBut id one other = (i : ℕ) → i ≢ id → one i ≡ other i

-- whose records of a key of which kind, the number of the last, what its origin had of the others before it, and the deltas of the
-- last ones, oldest first, which a prune has not
pub record LogParts (Kind Delta : Type 0) : Type 0 where
  pub origin : ℕ
  pub kind : Kind
  pub last : ℕ
  pub before : Numbers
  pub records : List (Option Delta)

abbrev pub lacks_delta : {Delta : Type 0} → Option Delta → Bool
lacks_delta own = not (is_some own)

module _ {Kind Delta : Type 0} where
  -- a record brings what was had before it, unless the log has it
  abbrev pub before_with : LogParts Kind Delta → Option Numbers → Numbers
  before_with parts before = unwrap_or before parts.before

  -- with one more record
  abbrev pub appended : LogParts Kind Delta → Option Numbers → Option Delta → LogParts Kind Delta
  appended parts before delta = record parts { last = parts.last + 1; before = before_with parts before; records = last_of most_kept (parts.records ++ delta ∷ []) }

  -- the records after a number
  abbrev pub wanted : LogParts Kind Delta → ℕ → List (Option Delta)
  wanted parts after = last_of (parts.last - after) parts.records

  -- the record after the number has to be kept, and no record after it may lack its delta
  abbrev pub answer_by : LogParts Kind Delta → ℕ → Answer
  answer_by parts after =
      if nat_le parts.last after then Nothing
      else (if nat_lt (after + length parts.records) parts.last then TooOld
      else (if list_any lacks_delta (wanted parts after) then NoDelta else AsGroup))

module _ {Delta : Type 0} (combined : Delta → Delta → Delta) where
  abbrev pub both : Option Delta → Option Delta → Option Delta
  both (Some first) (Some later) = Some (combined first later)
  both (Some first) None = None
  both None later = None

  -- the deltas of all records as one, oldest first; nothing where one is lacking
  abbrev pub combined_of : List (Option Delta) → Option Delta
  combined_of [] = None
  combined_of (first ∷ later) = fold both first later

-- the group is that of the records after the number: what it needs is what the last of them had before it, and the records up to the number
pub record IsMadeOf {Kind Delta : Type 0} (combined : Delta → Delta → Delta) (parts : LogParts Kind Delta) (after : ℕ) (group : GroupParts Delta) : Type 0 where
  pub origin : group.origin ≡ parts.origin
  pub from : group.after ≡ after
  pub upto : group.upto ≡ parts.last
  pub needed : (i : ℕ) → number_at group.needed i ≡ with_at (number_at parts.before) parts.origin after i
  pub changes : combined_of combined (wanted parts after) ≡ Some group.changes

module _ {Kind Delta : Type 0} (IsOfOrigin : Delta → ℕ → Type 0) (fits : Kind → Delta → Bool) where
  -- a delta of an origin and of a kind
  pub record IsDeltaFor (kind : Kind) (origin : ℕ) (delta : Option Delta) : Type 0 where
    pub made : (some : Delta) → delta ≡ Some some → IsOfOrigin some origin
    pub of_kind : (some : Delta) → delta ≡ Some some → fits kind some ≡ true

  pub record AreDeltasFor (kind : Kind) (origin : ℕ) (records : List (Option Delta)) : Type 0 where
    pub each : (k : ℕ) (own : Option Delta) → slice_get records k ≡ Some own → IsDeltaFor kind origin own

  pub record IsLog (parts : LogParts Kind Delta) : Type 0 where
    pub count : length parts.records ≡ min parts.last most_kept
    pub small : parts.last ≤ 2 ^ 62
    pub deltas : AreDeltasFor parts.kind parts.origin parts.records
