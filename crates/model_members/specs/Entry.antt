-- The entry of a key: its history, and the marks of the identities that are to be pruned.
use Rattle.std.specs.Prelude.{◌≡◌, ℕ, ◌<◌, ◌≤◌, min, List, ◌++◌, take, drop, Bool, true, false, ◌&&◌, not, nat_lt, nat_le, ◌==◌, if◌then◌else◌, Option, None, Some, fold, find}
use Rattle.std.specs.List.{list_any, list_all}
use Rattle.model_history.specs.Table.{identities, with_at}
use Rattle.model_history.specs.Vector.{VersionVector, none_counted, join, first_lacking, IdentitySet, with_member, alone, united}
use Rattle.model_history.specs.History.{Action, Record, History, at, versions, union, continued, with_record, with_records, no_records, is_pruned}
use Rattle.model_history.specs.History.Action.{Operation, Prune}
use Rattle.model_meanings.specs.Refusal.{Shares}

-- that an identity is to be pruned: the view, who will prune it, and who has seen the mark
pub record Mark : Type 0 where
  pub view : ℕ
  pub owner : ℕ
  pub seen : IdentitySet

abbrev pub Marks : Type 0
Marks = ℕ → Option Mark

-- of two marks the greater view wins, and equal views unite who has seen them
abbrev pub newer_mark : Mark → Mark → Mark
newer_mark a b =
    if nat_lt a.view b.view then b else (if nat_lt b.view a.view then a
    else record { view = a.view; owner = min a.owner b.owner; seen = united a.seen b.seen })

abbrev pub merged_mark : Option Mark → Option Mark → Option Mark
merged_mark None b = b
merged_mark (Some a) None = Some a
merged_mark (Some a) (Some b) = Some (newer_mark a b)

-- the mark after a member with this view has seen it
abbrev pub seen_mark : ℕ → ℕ → Option Mark → Option Mark
seen_mark i view None = None
seen_mark i view (Some mark) = if nat_le mark.view view then Some (record mark { seen = with_member mark.seen i }) else Some mark

pub record Entry (Op : Type 0) : Type 0 where
  pub history : History Op
  pub marks : Marks

-- records of one origin, those numbered from after + 1 to upto
pub record Group (Op : Type 0) : Type 0 where
  pub origin : ℕ
  pub after : ℕ
  pub upto : ℕ
  pub group_records : List (Record Op)

-- a group of records of the log
pub record IsGroupOf {Op : Type 0} (log : History Op) (group : Group Op) : Type 0 where
  pub within : group.upto ≤ at log group.origin
  pub some : group.after < group.upto
  pub these : group.group_records ≡ drop group.after (take group.upto (log group.origin))

-- whether a group is taken
pub data Judgement : Type 0 where
  Wanted : Judgement
  Stale : Judgement
  Missing : ℕ → Judgement

-- the outcome of a prune tick for one identity
pub data Outcome : Type 0 where
  Marked : Outcome
  Performed : Outcome
  WaitingFor : ℕ → Outcome
  Blocked : Shares → Outcome
  Newer : Outcome

-- the first member that hasn't seen the mark
abbrev pub unseen : Mark → List ℕ → Option ℕ
unseen mark members = find (λ i. not (mark.seen i)) members

abbrev pub same_set : IdentitySet → IdentitySet → Bool
same_set s t = list_all (λ i. if s i then t i else not (t i)) identities

abbrev pub is_same_mark : Option Mark → Option Mark → Bool
is_same_mark None None = true
is_same_mark None (Some b) = false
is_same_mark (Some a) None = false
is_same_mark (Some a) (Some b) = (a.view == b.view) && (a.owner == b.owner) && same_set a.seen b.seen

module _ {Op : Type 0} where
  abbrev pub empty_entry : Entry Op
  empty_entry = record { history = no_records; marks = λ i. None }

  abbrev pub has_records : Entry Op → Bool
  has_records entry = list_any (λ i. nat_lt 0 (at entry.history i)) identities

  -- marks stay only for identities that the history has no prune of
  abbrev pub unpruned_marks : History Op → Marks → Marks
  unpruned_marks H marks i = if is_pruned H i then None else marks i

  -- both entries as one
  abbrev pub merged : Entry Op → Entry Op → Entry Op
  merged mine theirs =
      let H = union mine.history theirs.history in
      record { history = H; marks = unpruned_marks H (λ i. merged_mark (mine.marks i) (theirs.marks i)) }

  -- the entry after a member with this view has seen its marks
  abbrev pub seen_by : ℕ → ℕ → Entry Op → Entry Op
  seen_by i view entry = record entry { marks = λ r. seen_mark i view (entry.marks r) }

  -- the next record of a member, whose past is all that the member has
  abbrev pub with_action : Entry Op → ℕ → Action Op → Entry Op
  with_action entry i action = record entry { history = with_record entry.history i (record { action = action; past = versions entry.history }) }

  -- the entry after its owner pruned an identity
  abbrev pub with_prune : Entry Op → ℕ → ℕ → Entry Op
  with_prune entry owner r = with_action (record entry { marks = with_at entry.marks r None }) owner (Prune r)

  -- the records that a group's taker needs: all before the group's first, and all in the pasts of its records
  abbrev pub needs : Group Op → VersionVector
  needs group = with_at (fold (λ v (r : Record Op). join v r.past) none_counted group.group_records) group.origin group.after

  abbrev pub judged : Entry Op → Group Op → Judgement
  judged entry group =
      if nat_le group.upto (at entry.history group.origin) then Stale
      else elim (first_lacking (versions entry.history) (needs group)) [ None ↦ Wanted | Some i ↦ Missing i ]

  -- the entry with the records of a group
  abbrev pub with_group : Entry Op → Group Op → Entry Op
  with_group entry group =
      record entry { history = with_records entry.history group.origin (continued (entry.history group.origin) (take group.after (entry.history group.origin) ++ group.group_records)) }

  -- the records of an identity after a number, as a group
  abbrev pub group_after : Entry Op → ℕ → ℕ → Group Op
  group_after entry origin after =
      record { origin = origin; after = after; upto = at entry.history origin; group_records = drop after (entry.history origin) }

  abbrev pub is_prune : Action Op → Bool
  is_prune (Operation op) = false
  is_prune (Prune r) = true

  -- a history that only grew is the same where it has as many records of each identity
  abbrev pub is_unchanged : Entry Op → Entry Op → Bool
  is_unchanged old new =
      list_all (λ i. (at old.history i == at new.history i) && is_same_mark (old.marks i) (new.marks i)) identities

-- the outcome of a tick for one removed identity, and the entry after it
pub record Tick (Op : Type 0) : Type 0 where
  pub outcome : Outcome
  pub entry : Entry Op

module _ {Op : Type 0} (blocked : Option Shares) (leader view : ℕ) (members : List ℕ) (entry : Entry Op) (r : ℕ) where
  abbrev pub marked : Tick Op
  marked = record { outcome = Marked; entry = record entry { marks = with_at entry.marks r (Some (record { view = view; owner = leader; seen = alone leader })) } }

  -- the leader's tick for one removed identity: it makes the mark, or makes it anew for its own view, waits for who hasn't seen it, and prunes
  abbrev pub ticked : Tick Op
  ticked = elim (entry.marks r) [
    | None ↦ marked
    | Some mark ↦ if nat_lt mark.view view then marked else (if nat_lt view mark.view then record { outcome = Newer; entry = entry }
        else elim (unseen mark members) [
          | Some i ↦ record { outcome = WaitingFor i; entry = entry }
          | None ↦ elim blocked [
            | Some shares ↦ record { outcome = Blocked shares; entry = entry }
            | None ↦ record { outcome = Performed; entry = with_prune entry leader r }
          ]
        ])
  ]
