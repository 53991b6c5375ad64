-- What holds of marks and prunes in every run.
use Rattle.std.specs.Prelude.{◌≡◌, ◌≢◌, ℕ, ◌<◌, ◌≤◌, nat_lt, ◌==◌, ◌&&◌, if◌then◌else◌, IsTrue, List, [], ◌∷◌, Bool, true, false, Option, None, Some, IsSome, slice_get, find}
use Rattle.std.specs.Str.{bytes_eq}
use Rattle.model_history.specs.Texts.{Text}
use Rattle.model_members.specs.View.{View, is_member, leader, place_of}
use Rattle.model_history.specs.History.{Action, Record, History, at, union, no_records, is_pruned, HasRecord, IsPartOf, IsExactlyPruned}
use Rattle.model_members.specs.Entry.{Entry, Mark, Group}
use Rattle.model_members.specs.DataType.{Replication}
use Rattle.model_members.specs.Message.{Message, HasKeyed, entries_in, groups_in}
use Rattle.model_members.specs.Node.{KeyDecl, Node}
use Rattle.model_members.specs.World.{World, Event, happens, start, IsRun, views_of, message_at}

-- a member with this view stands in each mark whose view is at most its own
abbrev pub SeesMarks : {Op : Type 0} → ℕ → ℕ → Entry Op → Type 0
SeesMarks i view entry = (r : ℕ) (mark : Mark) → entry.marks r ≡ Some mark → mark.view ≤ view → mark.seen i ≡ true

-- a member of this identity that stands in the marks that it holds
pub record SeesItsMarks {Kind Op Shown : Type 0} (i : ℕ) (node : Node Kind Op Shown) : Type 0 where
  pub identity : node.identity ≡ i
  pub entries : (key : Text) → SeesMarks i node.view.number (node.entries key)

abbrev pub AllSeeTheirMarks : {Kind Op Shown : Type 0} → World Kind Op Shown → Type 0
AllSeeTheirMarks {Kind} {Op} {Shown} world = (i : ℕ) (node : Node Kind Op Shown) → world.nodes i ≡ Some node → SeesItsMarks i node

-- no mark stands beside a prune of the same identity
abbrev pub HasUnprunedMarks : {Op : Type 0} → Entry Op → Type 0
HasUnprunedMarks entry = (r : ℕ) (mark : Mark) → entry.marks r ≡ Some mark → is_pruned entry.history r ≡ false

-- HISTORY VARIABLES

-- a member that first stands in a mark: how many records of the removed identity it then has, and whether its history has a prune of it
pub record Standing : Type 0 where
  pub had : ℕ
  pub pruned : Bool

-- what a run has noted: all records ever made of each key; the number of the last view that an identity installed; for a key, a removed identity, a view and a member, how it stood when it first joined the seen set of a mark of that view; and in which view a record was made
pub record HistoryVariables (Op : Type 0) : Type 0 where
  pub made : Text → History Op
  pub installed : ℕ → ℕ
  pub joined : Text → (removed view member : ℕ) → Option Standing
  pub made_in : Text → (origin before : ℕ) → ℕ

abbrev pub first_of : {X : Type 0} → Option X → Option X → Option X
first_of (Some x) other = Some x
first_of None other = other

-- that a member stands in a mark of this view
abbrev pub joining : {Op : Type 0} → ℕ → ℕ → ℕ → Entry Op → Option Mark → Option Standing
joining r v t entry None = None
joining r v t entry (Some mark) = if (mark.view == v) && mark.seen t then Some (record { had = at entry.history r; pruned = is_pruned entry.history r }) else None

-- nothing is noted yet
abbrev pub nothing_noted : {Op : Type 0} → HistoryVariables Op
nothing_noted = record { made = λ key. no_records; installed = λ i. 0; joined = λ key r v t. None; made_in = λ key i before. 0 }

module _ {Kind Op Shown : Type 0} where
  -- that a running member does
  abbrev pub joined_by : Option (Node Kind Op Shown) → Text → ℕ → ℕ → ℕ → Option Standing
  joined_by None key r v t = None
  joined_by (Some node) key r v t = joining r v t (node.entries key) ((node.entries key).marks r)

  -- its own records, and the number of its view; those from before where it doesn't run
  abbrev pub own_records : Option (Node Kind Op Shown) → Text → ℕ → List (Record Op) → List (Record Op)
  own_records None key i before = before
  own_records (Some node) key i before = (node.entries key).history i

  abbrev pub view_number : Option (Node Kind Op Shown) → ℕ → ℕ
  view_number None before = before
  view_number (Some node) before = node.view.number

  -- the variables after an event that led to this world
  abbrev pub noted : HistoryVariables Op → World Kind Op Shown → HistoryVariables Op
  noted variables world =
      record {
        made = λ key i. own_records (world.nodes i) key i (variables.made key i);
        installed = λ i. view_number (world.nodes i) (variables.installed i);
        joined = λ key r v t. first_of (variables.joined key r v t) (joined_by (world.nodes t) key r v t);
        made_in = λ key i before. if nat_lt before (at (variables.made key) i) then variables.made_in key i before else view_number (world.nodes i) 0;
      }

  -- WHERE ENTRIES AND GROUPS STAND

  -- the key is declared, and durable
  abbrev pub IsDurable : World Kind Op Shown → Text → Type 0
  IsDurable world key = (decl : KeyDecl Kind) × (find (λ (d : KeyDecl Kind). bytes_eq d.name key) world.keys ≡ Some decl) × IsTrue decl.durable

  -- what the store of a running member's place holds of a durable key
  pub record HasStored (world : World Kind Op Shown) (i : ℕ) (node : Node Kind Op Shown) (key : Text) (entry : Entry Op) : Type 0 where
    pub runs : world.nodes i ≡ Some node
    pub durable : IsDurable world key
    pub stored : world.stores (place_of world.view i) key ≡ Some entry

  -- an entry that a running member holds, that a message to a running member from a member of its view holds, or that the store of a running member's place holds
  pub data HasEntry (world : World Kind Op Shown) (key : Text) (entry : Entry Op) : Type 0 where
    Held : (i : ℕ) (node : Node Kind Op Shown) → world.nodes i ≡ Some node → node.entries key ≡ entry → HasEntry world key entry
    Sent : (from to index : ℕ) (node : Node Kind Op Shown) (message : Message Op) → world.nodes to ≡ Some node → IsTrue (is_member node.view from)
        → message_at world from to index ≡ Some message → HasKeyed (entries_in message) key entry → HasEntry world key entry
    Kept : (i : ℕ) (node : Node Kind Op Shown) → HasStored world i node key entry → HasEntry world key entry

  -- a group in a message to a running member from a member of its view
  pub data HasGroup (world : World Kind Op Shown) (key : Text) (group : Group Op) : Type 0 where
    GroupSent : (from to index : ℕ) (node : Node Kind Op Shown) (message : Message Op) → world.nodes to ≡ Some node → IsTrue (is_member node.view from)
        → message_at world from to index ≡ Some message → HasKeyed (groups_in message) key group → HasGroup world key group

  -- the view of this number
  abbrev pub IsView : World Kind Op Shown → View → Type 0
  IsView world view = slice_get (views_of world) view.number ≡ Some view

module _ {Kind Op Shown : Type 0} (D : Replication Kind Op Shown) where
  -- the variables after more events
  abbrev pub variables_from : HistoryVariables Op → World Kind Op Shown → List (Event Op) → HistoryVariables Op
  variables_from variables world [] = variables
  variables_from variables world (event ∷ events) = variables_from (noted variables (happens D world event)) (happens D world event) events

  -- the variables of a run from its first world
  abbrev pub variables_of : World Kind Op Shown → List (Event Op) → HistoryVariables Op
  variables_of first events = variables_from (noted nothing_noted first) first events

-- it holds of the history variables and the last world of every run
abbrev pub InEveryRun : (Kind Op Shown : Type 0) → (HistoryVariables Op → World Kind Op Shown → Type 0) → Type 0
InEveryRun Kind Op Shown Holds =
    (D : Replication Kind Op Shown) (members : ℕ) (keys : List (KeyDecl Kind)) (events : List (Event Op)) (world : World Kind Op Shown)
    → IsRun D members keys events world → Holds (variables_of D (start members keys) events) world

-- WHAT HOLDS OF MARKS AND PRUNES

-- all members of a view have stood in marks of a removed identity with this view
abbrev pub AllJoined : {Op : Type 0} → HistoryVariables Op → Text → ℕ → View → Type 0
AllJoined variables key r view = (t : ℕ) → IsTrue (is_member view t) → IsSome (variables.joined key r view.number t)

-- one of them then had the record of it that has so many before
abbrev pub HadOne : {Op : Type 0} → HistoryVariables Op → Text → ℕ → View → ℕ → Type 0
HadOne variables key r view before = (t : ℕ) × (standing : Standing) × IsTrue (is_member view t) × (variables.joined key r view.number t ≡ Some standing) × (before < standing.had)

-- when a member first joined, its history had no prune of the removed identity
abbrev pub JoinedUnpruned : {Op : Type 0} → HistoryVariables Op → Type 0
JoinedUnpruned variables = (key : Text) (r v t : ℕ) (standing : Standing) → variables.joined key r v t ≡ Some standing → standing.pruned ≡ false

module _ {Kind Op Shown : Type 0} (variables : HistoryVariables Op) (world : World Kind Op Shown) where
  -- who stands in a mark has installed a view of at least its number
  abbrev pub SeenHaveInstalled : Type 0
  SeenHaveInstalled = (key : Text) (entry : Entry Op) (r t : ℕ) (mark : Mark) → HasEntry world key entry → entry.marks r ≡ Some mark → mark.seen t ≡ true → mark.view ≤ variables.installed t

  -- and what it had of the removed identity when it first joined is in the entry
  abbrev pub SeenAreKept : Type 0
  SeenAreKept = (key : Text) (entry : Entry Op) (r t : ℕ) (mark : Mark) → HasEntry world key entry → entry.marks r ≡ Some mark → mark.seen t ≡ true
      → (standing : Standing) × (variables.joined key r mark.view t ≡ Some standing) × (standing.had ≤ at entry.history r)

  -- once all members of a view have joined, no entry and no group has a record of the removed identity that none of them then had
  abbrev pub NoLateRecord : Type 0
  NoLateRecord = (key : Text) (entry : Entry Op) (r before : ℕ) (view : View) → IsView world view → AllJoined variables key r view → HasEntry world key entry → before < at entry.history r → HadOne variables key r view before

  -- a group has the records that are numbered up to its last
  abbrev pub NoLateGroup : Type 0
  NoLateGroup = (key : Text) (group : Group Op) (before : ℕ) (view : View) → IsView world view → AllJoined variables key group.origin view → HasGroup world key group → before < group.upto → HadOne variables key group.origin view before

  -- and none has a prune of it that was performed in an earlier view
  abbrev pub NoEarlierPrune : Type 0
  NoEarlierPrune = (key : Text) (entry : Entry Op) (r : ℕ) (view : View) (owner before : ℕ) (x : Record Op) → IsView world view → AllJoined variables key r view → HasEntry world key entry
      → HasRecord entry.history owner before x → x.action ≡ Action.Prune r → view.number ≤ variables.made_in key owner before

  -- who performed a prune led its view, from which the identity was gone and all of whose members had joined, each with no more of the identity's records than stand in the prune's past
  abbrev pub PrunesFollowMarks : Type 0
  PrunesFollowMarks = (key : Text) (r owner before : ℕ) (x : Record Op) → HasRecord (variables.made key) owner before x → x.action ≡ Action.Prune r
      → (view : View) × IsView world view × (variables.made_in key owner before ≡ view.number) × (leader view ≡ owner) × (r < view.given) × (is_member view r ≡ false)
      × ((t : ℕ) → IsTrue (is_member view t) → (standing : Standing) × (variables.joined key r view.number t ≡ Some standing) × (standing.had ≤ x.past r))

  -- two prunes of one identity that were performed in one view are one: the view has one leader
  abbrev pub OnePruneAView : Type 0
  OnePruneAView = (key : Text) (r owner before owner' before' : ℕ) (x y : Record Op) → HasRecord (variables.made key) owner before x → HasRecord (variables.made key) owner' before' y → x.action ≡ Action.Prune r → y.action ≡ Action.Prune r
      → variables.made_in key owner before ≡ variables.made_in key owner' before' → (owner ≡ owner') × (before ≡ before')

-- what a store holds is part of what its member holds
abbrev pub StoredIsHeld : {Kind Op Shown : Type 0} → World Kind Op Shown → Type 0
StoredIsHeld {Kind} {Op} {Shown} world = (i : ℕ) (node : Node Kind Op Shown) (key : Text) (entry : Entry Op) → HasStored world i node key entry → IsPartOf entry.history (node.entries key).history

-- a member whose history has a prune of an identity has installed a view that was made after this identity left
abbrev pub PrunersHaveInstalled : {Kind Op Shown : Type 0} → World Kind Op Shown → Type 0
PrunersHaveInstalled {Kind} {Op} {Shown} world =
    (i : ℕ) (node : Node Kind Op Shown) (key : Text) (r : ℕ) → world.nodes i ≡ Some node → is_pruned (node.entries key).history r ≡ true → (r < node.view.given) × (is_member node.view r ≡ false)

-- no group has a prune
abbrev pub GroupsHaveNoPrunes : {Kind Op Shown : Type 0} → World Kind Op Shown → Type 0
GroupsHaveNoPrunes {Kind} {Op} {Shown} world =
    (key : Text) (group : Group Op) (k r : ℕ) (x : Record Op) → HasGroup world key group → slice_get group.group_records k ≡ Some x → x.action ≢ Action.Prune r

-- the union of any two entries' histories of a key is exactly pruned
abbrev pub EntriesArePruned : {Kind Op Shown : Type 0} → World Kind Op Shown → Type 0
EntriesArePruned {Kind} {Op} {Shown} world = (key : Text) (a b : Entry Op) → HasEntry world key a → HasEntry world key b → IsExactlyPruned (union a.history b.history)

-- the union of any two running members' histories of a key is exactly pruned
abbrev pub UnionsArePruned : {Kind Op Shown : Type 0} → World Kind Op Shown → Type 0
UnionsArePruned {Kind} {Op} {Shown} world =
    (i j : ℕ) (a b : Node Kind Op Shown) (key : Text) → world.nodes i ≡ Some a → world.nodes j ≡ Some b → IsExactlyPruned (union (a.entries key).history (b.entries key).history)

-- no entry that a running member holds has a mark and a prune of one identity
abbrev pub AllHaveUnprunedMarks : {Kind Op Shown : Type 0} → World Kind Op Shown → Type 0
AllHaveUnprunedMarks {Kind} {Op} {Shown} world = (i : ℕ) (node : Node Kind Op Shown) (key : Text) → world.nodes i ≡ Some node → HasUnprunedMarks (node.entries key)

-- WHAT MEMBERS SHOW

-- two members have taken as many records of each identity
abbrev pub HaveTakenAsMany : {Kind Op Shown : Type 0} → Text → Node Kind Op Shown → Node Kind Op Shown → Type 0
HaveTakenAsMany key a b = (origin : ℕ) → at (a.entries key).history origin ≡ at (b.entries key).history origin

-- each record that one has of the key, the other has too
abbrev pub HasTakenAll : {Kind Op Shown : Type 0} → Text → Node Kind Op Shown → Node Kind Op Shown → Type 0
HasTakenAll {Op = Op} key a b = (origin before : ℕ) (r : Record Op) → HasRecord (b.entries key).history origin before r → HasRecord (a.entries key).history origin before r

-- two running members
abbrev pub AreRunning : {Kind Op Shown : Type 0} → World Kind Op Shown → ℕ → ℕ → Node Kind Op Shown → Node Kind Op Shown → Type 0
AreRunning world i j a b = (world.nodes i ≡ Some a) × (world.nodes j ≡ Some b)
