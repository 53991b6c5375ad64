-- What threads leave: a history for each place. Sorted by stamp, then place, their entries are one run.
use Rattle.std.specs.Prelude.{◌≡◌, ℕ, ◌<◌, ◌⊎◌, List, [], ◌∷◌, length, map, filter, flat_map, suc, ◌==◌, if◌then◌else◌, IsFalse, IsTrue, Some, slice_get, ⊤}
use Rattle.std.specs.List.{AllByRecursion}
use Rattle.model_history.specs.Table.{with_at}
use Rattle.model_members.specs.View.{View, is_member, place_of}
use Rattle.model_members.specs.DataType.{Replication}
use Rattle.model_members.specs.Message.{Message, Post}
use Rattle.model_members.specs.Node.{Node, Input, Fate, Output}
use Rattle.model_members.specs.Node.Input.{Take, Install}
use Rattle.model_members.specs.Step.{step, is_full}
use Rattle.model_members.specs.World.{World, Event, views_of, run, FitsFate, AreLawful}
use Rattle.model_members.specs.World.Event.{InputAt, Delivery}

-- an entry of a member's history: who gave which input, what the store did, what the member answered, and the stamp
pub record Entry (Op Shown : Type 0) : Type 0 where
  pub client : ℕ
  pub input : Input Op
  pub fate : Fate
  pub output : Output Op Shown
  pub stamp : ℕ

-- an entry at the identity of its member
pub record Placed (Op Shown : Type 0) : Type 0 where
  pub at : ℕ
  pub entry : Entry Op Shown

-- a message with the stamp of the entry that posted or took it
pub record Passed (Op : Type 0) : Type 0 where
  pub message : Message Op
  pub stamp : ℕ

module _ {Op : Type 0} where
  abbrev pub taken_by : ℕ → ℕ → Input Op → List (Passed Op)
  taken_by i stamp (Take from message) = if from == i then record { message = message; stamp = stamp } ∷ [] else []
  taken_by i stamp _ = []

  -- each take is of the next post, which has a lower stamp
  abbrev pub AreHeard : List (Passed Op) → List (Passed Op) → Type 0
  AreHeard posts [] = ⊤
  AreHeard [] (take ∷ takes) = ⊥
  AreHeard (post ∷ posts) (take ∷ takes) = (take.message ≡ post.message) × (post.stamp < take.stamp) × AreHeard posts takes

  -- a take is the delivery of the next message of the section on its link
  abbrev pub event_of : (ℕ → ℕ → ℕ) → ℕ → Fate → Input Op → Event Op
  event_of due i fate (Take from message) = Delivery from i (due from i) fate
  event_of due i fate input = InputAt i input fate

  abbrev pub due_after : (ℕ → ℕ → ℕ) → ℕ → Input Op → ℕ → ℕ → ℕ
  due_after due i (Take from message) = with_at due from (with_at (due from) i (suc (due from i)))
  due_after due i _ = due

  -- an input of a client, which installs no other view than these, or a message of a member
  abbrev pub IsFromClients : View → List View → Input Op → Type 0
  IsFromClients view views (Take from message) = IsTrue (is_member view from)
  IsFromClients view views (Install other) = (k : ℕ) × (slice_get views k ≡ Some other)
  IsFromClients view views _ = Unit {0}

module _ {Op Shown : Type 0} where
  -- WHAT A HISTORY POSTED AND TOOK

  abbrev pub posted_to : ℕ → List (Entry Op Shown) → List (Passed Op)
  posted_to j entries =
      flat_map (λ (e : Entry Op Shown). map (λ (post : Post Op). record { message = post.message; stamp = e.stamp }) (filter (λ (post : Post Op). post.to == j) e.output.posts)) entries

  abbrev pub taken_from : ℕ → List (Entry Op Shown) → List (Passed Op)
  taken_from i entries = flat_map (λ (e : Entry Op Shown). taken_by i e.stamp e.input) entries

  -- stamps rise from above this number
  abbrev pub RiseAbove : ℕ → List (Entry Op Shown) → Type 0
  RiseAbove stamp [] = ⊤
  RiseAbove stamp (e ∷ entries) = (stamp < e.stamp) × RiseAbove e.stamp entries

  -- RUN ORDER

  abbrev pub ComesBefore : View → Placed Op Shown → Placed Op Shown → Type 0
  ComesBefore view a b = (a.entry.stamp < b.entry.stamp) ⊎ ((a.entry.stamp ≡ b.entry.stamp) × (place_of view a.at < place_of view b.at))

  -- the entries of one member in a list
  abbrev pub entries_at : ℕ → List (Placed Op Shown) → List (Entry Op Shown)
  entries_at i placed = map (λ (x : Placed Op Shown). x.entry) (filter (λ (x : Placed Op Shown). x.at == i) placed)

  abbrev pub AreSorted : View → List (Placed Op Shown) → Type 0
  AreSorted view [] = ⊤
  AreSorted view (x ∷ placed) = AllByRecursion (ComesBefore view x) placed × AreSorted view placed

  -- all entries of the members' histories, sorted by stamp, then place
  pub record IsRunOrder (view : View) (histories : ℕ → List (Entry Op Shown)) (placed : List (Placed Op Shown)) : Type 0 where
    pub sorted : AreSorted view placed
    pub whole : (i : ℕ) → IsTrue (is_member view i) → entries_at i placed ≡ histories i
    pub members : AllByRecursion (λ (x : Placed Op Shown). IsTrue (is_member view x.at)) placed

  -- EVENTS OF ENTRIES

  abbrev pub events_of : (ℕ → ℕ → ℕ) → List (Placed Op Shown) → List (Event Op)
  events_of due [] = []
  events_of due (x ∷ placed) = event_of due x.at x.entry.fate x.entry.input ∷ events_of (due_after due x.at x.entry.input) placed

module _ {Kind Op Shown : Type 0} where
  -- before a section, on each link the number of the message that is sent next
  abbrev pub sent_so_far : World Kind Op Shown → ℕ → ℕ → ℕ
  sent_so_far world from to = length (world.links from to).messages

module _ {Kind Op Shown : Type 0} (D : Replication Kind Op Shown) where
  -- each entry is a step of the member, and its output is what the member then answers
  abbrev pub AreSteps : Node Kind Op Shown → List (Entry Op Shown) → Type 0
  AreSteps before [] = ⊤
  AreSteps before (e ∷ entries) =
      let stepped = step D before e.input e.fate in
      IsFalse (is_full D before) × FitsFate D before e.input e.fate × (e.output ≡ stepped.output) × AreSteps stepped.node entries

  abbrev pub replayed : Node Kind Op Shown → List (Entry Op Shown) → Node Kind Op Shown
  replayed before [] = before
  replayed before (e ∷ entries) = replayed (step D before e.input e.fate).node entries

  -- what the cells and the locks of a section keep of the histories of its members
  pub record AreHistories (world : World Kind Op Shown) (histories : ℕ → List (Entry Op Shown)) : Type 0 where
    pub steps : (i : ℕ) → IsTrue (is_member world.view i) → (member : Node Kind Op Shown) × (world.nodes i ≡ Some member) × AreSteps member (histories i)
    pub given : (i : ℕ) → AllByRecursion (λ (e : Entry Op Shown). IsFromClients world.view (views_of world) e.input) (histories i)
    pub rise : (i : ℕ) → RiseAbove 0 (histories i)
    pub heard : (i j : ℕ) → IsTrue (is_member world.view i) → IsTrue (is_member world.view j) → AreHeard (posted_to j (histories i)) (taken_from i (histories j))

  -- the entries in run order are lawful events, and lead to the members that the histories replay
  pub record LeadTo (world : World Kind Op Shown) (histories : ℕ → List (Entry Op Shown)) (events : List (Event Op)) : Type 0 where
    pub lawful : AreLawful D world events
    pub members : (i : ℕ) (member : Node Kind Op Shown) → IsTrue (is_member world.view i) → world.nodes i ≡ Some member → (run D world events).nodes i ≡ Some (replayed member (histories i))

  -- the entries of such histories, in run order, are one run
  abbrev pub HistoriesAreRuns : Type 0
  HistoriesAreRuns =
      (world : World Kind Op Shown) (histories : ℕ → List (Entry Op Shown)) (placed : List (Placed Op Shown))
      → AreHistories world histories → IsRunOrder world.view histories placed → LeadTo world histories (events_of (sent_so_far world) placed)
