-- Members, links and stores, and what may happen to them.
use Rattle.std.specs.Prelude.{◌≡◌, ◌≢◌, ℕ, Bool, suc, ◌-◌, ◌<◌, ◌≤◌, List, [], ◌∷◌, ◌++◌, length, map, fold, nat_lt, ◌==◌, if◌then◌else◌, IsTrue, IsFalse, Option, None, Some, slice_get, find, option_map, option_and_then, unwrap_or}
use Rattle.std.specs.Str.{bytes_eq}
use Rattle.model_history.specs.Table.{identity_limit, with_at}
use Rattle.model_history.specs.Texts.{Text}
use Rattle.model_members.specs.View.{View, is_member, is_taken, place_of, without_member, with_joined, with_replaced, first_view}
use Rattle.model_members.specs.Entry.{Entry, empty_entry, seen_by}
use Rattle.model_members.specs.DataType.{Replication}
use Rattle.model_members.specs.Message.{Keyed, Message, Post, part_of}
use Rattle.model_members.specs.Node.{KeyDecl, KeyState, Node, Input, Fate, Output, Stepped, keyed_entry}
use Rattle.model_members.specs.Node.Fate.{NoStore, Stored}
use Rattle.model_members.specs.Step.{step, is_full, to_store}

-- all messages ever sent from one identity to another, and the number of the next one due
pub record Link (Op : Type 0) : Type 0 where
  pub messages : List (Message Op)
  pub next : ℕ

-- what a store holds of each key
abbrev pub Store : Type 0 → Type 0
Store Op = Text → Option (Entry Op)

-- the last view and the earlier ones, from view 0 on; running members by identity; links by sender and receiver; stores by place
pub record World (Kind Op Shown : Type 0) : Type 0 where
  pub keys : List (KeyDecl Kind)
  pub earlier : List View
  pub view : View
  pub nodes : ℕ → Option (Node Kind Op Shown)
  pub links : ℕ → ℕ → Link Op
  pub stores : ℕ → Store Op

-- what may happen
pub data Event (Op : Type 0) : Type 0 where
  InputAt : (at : ℕ) (input : Input Op) (fate : Fate) → Event Op
  Delivery : (from to index : ℕ) (fate : Fate) → Event Op
  Loss : (from to : ℕ) → Event Op
  Removal : (identity : ℕ) → Event Op
  Joining : (place : ℕ) → Event Op
  Restart : (identity : ℕ) → Event Op

-- a member takes an input, and its store does this
pub record Turn (Kind Op Shown : Type 0) : Type 0 where
  pub at : ℕ
  pub before : Node Kind Op Shown
  pub input : Input Op
  pub fate : Fate

abbrev pub Links : Type 0 → Type 0
Links Op = ℕ → ℕ → Link Op

module _ {Op : Type 0} where
  abbrev pub no_link : Link Op
  no_link = record { messages = []; next = 0 }

  abbrev pub with_link : Links Op → ℕ → ℕ → Link Op → Links Op
  with_link links from to link = with_at links from (with_at (links from) to link)

  -- the links after a member's posts
  abbrev pub with_post : ℕ → Links Op → Post Op → Links Op
  with_post from links post =
      let link = links from post.to in
      with_link links from post.to (record link { messages = link.messages ++ post.message ∷ [] })

  abbrev pub with_posts : Links Op → ℕ → List (Post Op) → Links Op
  with_posts links from posts = fold (with_post from) links posts

  -- the message due is taken or lost
  abbrev pub moved_on : Links Op → ℕ → ℕ → ℕ → Links Op
  moved_on links from to index =
      let link = links from to in
      if link.next == index then with_link links from to (record link { next = suc index }) else links

  abbrev pub no_entries : Store Op
  no_entries key = None

  -- the store after it took these entries, of each key at most one
  abbrev pub with_stored : List (Keyed (Entry Op)) → Store Op → Store Op
  with_stored [] store key = store key
  with_stored (e ∷ es) store key = if bytes_eq e.key key then Some e.item else with_stored es store key

  abbrev pub after_store : Fate → List (Keyed (Entry Op)) → Store Op → Store Op
  after_store Stored entries store = with_stored entries store
  after_store _ entries store = store

-- what a new member holds of a key: what its store has of a durable one, with its own identity in the marks
abbrev pub loaded_entry : {Kind Op : Type 0} → ℕ → View → Store Op → Option (KeyDecl Kind) → Entry Op
loaded_entry i view store None = empty_entry
loaded_entry i view store (Some key) = if key.durable then seen_by i view.number (unwrap_or (store key.name) empty_entry) else empty_entry

abbrev pub loaded_node : {Kind Op Shown : Type 0} → List (KeyDecl Kind) → ℕ → View → Store Op → Node Kind Op Shown
loaded_node keys i view store =
    record {
      identity = i;
      view = view;
      keys = keys;
      flushed = λ key peer. 0;
      open_operations = [];
      finished = [];
      next_op = 0;
      steps = 0;
      entries = λ name. loaded_entry i view store (find (λ (key : KeyDecl _). bytes_eq key.name name) keys);
    }

-- members 0 and up, with empty entries and stores
abbrev pub start : {Kind Op Shown : Type 0} → ℕ → List (KeyDecl Kind) → World Kind Op Shown
start members keys =
    record {
      keys = keys;
      earlier = [];
      view = first_view members;
      links = λ from to. no_link;
      stores = λ place. no_entries;
      nodes = λ i. if nat_lt i members then Some (loaded_node keys i (first_view members) no_entries) else None;
    }

module _ {Kind Op Shown : Type 0} where
  abbrev pub views_of : World Kind Op Shown → List View
  views_of world = world.earlier ++ world.view ∷ []

  abbrev pub message_at : World Kind Op Shown → ℕ → ℕ → ℕ → Option (Message Op)
  message_at world from to index = slice_get (world.links from to).messages index

  -- a running member's turn
  abbrev pub turn_at : World Kind Op Shown → ℕ → Input Op → Fate → Option (Turn Kind Op Shown)
  turn_at world i input fate = option_map (λ node. record { at = i; before = node; input = input; fate = fate }) (world.nodes i)

  -- which member takes which input with which fate in an event
  abbrev pub turn_of : World Kind Op Shown → Event Op → Option (Turn Kind Op Shown)
  turn_of world (InputAt i input fate) = turn_at world i input fate
  turn_of world (Delivery from to index fate) = option_and_then (λ message. turn_at world to (Input.Take from message) fate) (message_at world from to index)
  turn_of world _ = None

  -- the world after a member's step: the member, its posts on the links, and its place's store
  abbrev pub after_step : World Kind Op Shown → ℕ → Node Kind Op Shown → Fate → Stepped Kind Op Shown → World Kind Op Shown
  after_step world i old fate stepped =
      let place = place_of world.view i in
      record world {
        nodes = with_at world.nodes i (Some stepped.node);
        links = with_posts world.links i stepped.output.posts;
        stores = with_at world.stores place (after_store fate (map keyed_entry (to_store old stepped.node)) (world.stores place));
      }

  -- the world with one more view
  abbrev pub with_view : World Kind Op Shown → View → World Kind Op Shown
  with_view world view = record world { earlier = views_of world; view = view }

  abbrev pub stopped : World Kind Op Shown → ℕ → World Kind Op Shown
  stopped world i = record world { nodes = with_at world.nodes i None }

  -- a new member at a place
  abbrev pub started : World Kind Op Shown → View → ℕ → World Kind Op Shown
  started world view place =
      let i = view.given - 1 in
      record world { nodes = with_at world.nodes i (Some (loaded_node world.keys i view (world.stores place))) }

  abbrev pub joined_world : World Kind Op Shown → View → ℕ → World Kind Op Shown
  joined_world world view place = started (with_view (record world { stores = with_at world.stores place no_entries }) view) view place

  abbrev pub restarted_world : World Kind Op Shown → View → ℕ → ℕ → World Kind Op Shown
  restarted_world world view i place = started (with_view (stopped world i) view) view place

module _ {Kind Op Shown : Type 0} (D : Replication Kind Op Shown) where
  abbrev pub step_in : Turn Kind Op Shown → Stepped Kind Op Shown
  step_in turn = step D turn.before turn.input turn.fate

  -- what an event puts out: a member's output, where a member takes an input
  abbrev pub output_of : World Kind Op Shown → Event Op → Option (Output Op Shown)
  output_of world event = option_map (λ turn. (step_in turn).output) (turn_of world event)

  abbrev pub after_turn : World Kind Op Shown → Option (Turn Kind Op Shown) → World Kind Op Shown
  after_turn world None = world
  after_turn world (Some turn) = after_step world turn.at turn.before turn.fate (step_in turn)

  abbrev pub happens : World Kind Op Shown → Event Op → World Kind Op Shown
  happens world (InputAt i input fate) = after_turn world (turn_of world (InputAt i input fate))
  happens world (Delivery from to index fate) =
      after_turn (record world { links = moved_on world.links from to index }) (turn_of world (Delivery from to index fate))
  happens world (Loss from to) = record world { links = moved_on world.links from to (world.links from to).next }
  happens world (Removal i) = with_view (stopped world i) (without_member world.view i)
  happens world (Joining place) = joined_world world (with_joined world.view place) place
  happens world (Restart i) = restarted_world world (with_replaced world.view i) i (place_of world.view i)

  -- a whole run
  abbrev pub run : World Kind Op Shown → List (Event Op) → World Kind Op Shown
  run world [] = world
  run world (event ∷ events) = run (happens world event) events

  -- WHICH EVENTS ARE LAWFUL

  -- what a step has to store, whatever the store then does
  abbrev pub stores : Node Kind Op Shown → Input Op → List (KeyState Kind Op)
  stores node input = to_store node (step D node input Stored).node

  -- the store is called exactly where an entry of a durable key changes
  abbrev pub FitsFate : Node Kind Op Shown → Input Op → Fate → Type 0
  FitsFate node input NoStore = stores node input ≡ []
  FitsFate node input _ = stores node input ≢ []

  -- an installed view is one of the list. Messages come by deliveries, or in part: what one that was sent says of some keys
  abbrev pub IsGiven : World Kind Op Shown → (at : ℕ) → Input Op → Type 0
  IsGiven world i (Input.Take from message) = (index : ℕ) × (whole : Message Op) × (knows : Text → Bool) × (message_at world from i index ≡ Some whole) × (message ≡ part_of knows whole)
  IsGiven world i (Input.Install view) = (k : ℕ) × (slice_get (views_of world) k ≡ Some view)
  IsGiven world i _ = Unit {0}

  -- a running member that isn't full makes this step
  pub record StepsAt (world : World Kind Op Shown) (i : ℕ) (input : Input Op) (fate : Fate) : Type 0 where
    pub node : Node Kind Op Shown
    pub runs : world.nodes i ≡ Some node
    pub has_room : IsFalse (is_full D node)
    pub fate_fits : FitsFate node input fate

  abbrev pub IsLawful : World Kind Op Shown → Event Op → Type 0
  IsLawful world (InputAt i input fate) = IsGiven world i input × StepsAt world i input fate
  IsLawful world (Delivery from to index fate) =
      (message : Message Op) × (message_at world from to index ≡ Some message) × StepsAt world to (Input.Take from message) fate
  IsLawful world (Loss from to) = (world.links from to).next < length (world.links from to).messages
  IsLawful world (Removal i) = IsTrue (is_member world.view i) × (1 < length world.view.members)
  IsLawful world (Joining place) = (place < 8) × IsFalse (is_taken world.view place) × (world.view.given < identity_limit)
  IsLawful world (Restart i) = IsTrue (is_member world.view i) × (world.view.given < identity_limit)

  -- each event is lawful in the world before it
  abbrev pub AreLawful : World Kind Op Shown → List (Event Op) → Type 0
  AreLawful world [] = Unit {0}
  AreLawful world (event ∷ events) = IsLawful world event × AreLawful (happens world event) events

  -- A RUN: lawful events from members 0 and up with empty entries and stores, and the world that they lead to
  pub record IsRun (members : ℕ) (keys : List (KeyDecl Kind)) (events : List (Event Op)) (world : World Kind Op Shown) : Type 0 where
    pub some : 1 ≤ members
    pub few : members ≤ identity_limit
    pub lawful : AreLawful (start members keys) events
    pub leads : world ≡ run (start members keys) events
