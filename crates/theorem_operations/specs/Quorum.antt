-- What a majority read has to do with an earlier majority write of its key.
use Rattle.std.specs.Prelude.{◌≡◌, ◌≢◌, ℕ, List, ◌∷◌, ◌++◌, Option, Some, find, option_map, slice_get}
use Rattle.std.specs.List.{AllByRecursion}
use Rattle.std.specs.Str.{bytes_eq}
use Rattle.model_history.specs.Texts.{Text}
use Rattle.model_history.specs.History.{Action, History, at, versions, HasRecord}
use Rattle.model_members.specs.DataType.{Replication, Meaning, meaning}
use Rattle.model_members.specs.Node.{KeyDecl, Node, Level, Input, Fate, Reply, Result, Finished, Output}
use Rattle.model_members.specs.Step.{value_reply, read_result}
use Rattle.model_members.specs.World.{World, Event, Turn, IsRun, IsLawful, run, start, happens, turn_of, step_in, output_of}

-- WORDS

-- the member has finished an operation, which ended so
abbrev pub HasFinished : {Kind Op Shown : Type 0} → Node Kind Op Shown → Finished Shown → Type 0
HasFinished node end = (k : ℕ) × (slice_get node.finished k ≡ Some end)

-- no member leaves, joins or restarts
abbrev pub KeepsMembers : {Op : Type 0} → Event Op → Type 0
KeepsMembers (Event.Removal i) = ⊥
KeepsMembers (Event.Joining place) = ⊥
KeepsMembers (Event.Restart i) = ⊥
KeepsMembers _ = Unit {0}

-- all running members have the last view installed
abbrev pub AllInstalled : {Kind Op Shown : Type 0} → World Kind Op Shown → Type 0
AllInstalled {Kind} {Op} {Shown} world = (t : ℕ) (node : Node Kind Op Shown) → world.nodes t ≡ Some node → node.view ≡ world.view

-- an update of a key at a majority
pub record MajorityWrite (Op : Type 0) : Type 0 where
  pub writer : ℕ
  pub key : Text
  pub operation : Op
  pub cap : ℕ
  pub fate : Fate

abbrev pub write_event : {Op : Type 0} → MajorityWrite Op → Event Op
write_event write = Event.InputAt write.writer (Input.Update write.key write.operation (Level.Majority write.cap)) write.fate

-- events, a majority write, events, a majority read of its key, and events
pub record WriteThenRead (Op : Type 0) : Type 0 where
  pub before : List (Event Op)
  pub write : MajorityWrite Op
  pub between : List (Event Op)
  pub reader : ℕ
  pub cap : ℕ
  pub fate : Fate
  pub after : List (Event Op)

module _ {Op : Type 0} (r : WriteThenRead Op) where
  abbrev pub read_event : Event Op
  read_event = Event.InputAt r.reader (Input.Get r.write.key (Level.Majority r.cap)) r.fate

  abbrev pub to_read : List (Event Op)
  to_read = r.before ++ write_event r.write ∷ r.between

  abbrev pub all_events : List (Event Op)
  all_events = to_read ++ read_event ∷ r.after

module _ {Kind Op Shown : Type 0} (D : Replication Kind Op Shown) where
  -- what a member replies in an event
  abbrev pub reply_in : World Kind Op Shown → Event Op → Option (Reply Shown)
  reply_in world event = option_map (λ (output : Output Op Shown). output.reply) (output_of D world event)

  -- in an event this member finishes an operation
  pub record Finishes (world : World Kind Op Shown) (event : Event Op) (i : ℕ) (end : Finished Shown) : Type 0 where
    pub turn : Turn Kind Op Shown
    pub takes : turn_of world event ≡ Some turn
    pub its : turn.at ≡ i
    pub ended : (step_in D turn).output.ended ≡ Some end

  -- the history has the record that an update makes in this world: its writer's next one of the key
  pub record HasWrite (world : World Kind Op Shown) (writer : ℕ) (key : Text) (operation : Op) (H : History Op) : Type 0 where
    pub node : Node Kind Op Shown
    pub runs : world.nodes writer ≡ Some node
    pub has : HasRecord H writer (at (node.entries key).history writer) (record { action = Action.Operation operation; past = versions (node.entries key).history })

  -- a write succeeds in this world, as is seen at its writer in a later one: it is answered Done, or its operation has finished there
  pub data HasSucceeded (world : World Kind Op Shown) (write : MajorityWrite Op) (later : World Kind Op Shown) : Type 0 where
    AtOnce : reply_in world (write_event write) ≡ Some Reply.Done → HasSucceeded world write later
    Afterwards : (op : ℕ) (node : Node Kind Op Shown) → reply_in world (write_event write) ≡ Some (Reply.Pending op)
        → later.nodes write.writer ≡ Some node → HasFinished node (record { op = op; result = Result.Wrote }) → HasSucceeded world write later

  module _ (members : ℕ) (keys : List (KeyDecl Kind)) (r : WriteThenRead Op) where
    -- the worlds before the write, before the read, and after all
    abbrev pub at_write : World Kind Op Shown
    at_write = run D (start members keys) r.before

    abbrev pub at_read : World Kind Op Shown
    at_read = run D (start members keys) (to_read r)

    abbrev pub at_end : World Kind Op Shown
    at_end = run D (start members keys) (all_events r)

    -- UNCHANGED MEMBERSHIP, AND A SUCCESS THAT IS SEEN: the events are a run, all running members have the last view installed before the write, no event from the write on changes who is a member, and the write has succeeded when the read begins
    pub record IsUnchanged : Type 0 where
      pub is_run : IsRun D members keys (all_events r) at_end
      pub installed : AllInstalled at_write
      pub between : AllByRecursion KeepsMembers r.between
      pub after : AllByRecursion KeepsMembers r.after
      pub succeeded : HasSucceeded at_write r.write at_read

    -- this is the meaning of what the reader has of the key in this world, and the write's record is in it
    pub record ShowsWrite (world : World Kind Op Shown) (means : Meaning Shown) : Type 0 where
      pub node : Node Kind Op Shown
      pub runs : world.nodes r.reader ≡ Some node
      pub decl : KeyDecl Kind
      pub declared : find (λ (d : KeyDecl Kind). bytes_eq d.name r.write.key) keys ≡ Some decl
      pub is : means ≡ meaning D.data_type decl.kind (node.entries r.write.key).history
      pub has : HasWrite at_write r.write.writer r.write.key r.write.operation (node.entries r.write.key).history

    -- what the read is answered at once shows the write
    abbrev pub ShowsAtOnce : Type 0
    ShowsAtOnce =
        (reply : Reply Shown) → reply_in at_read (read_event r) ≡ Some reply → ((op : ℕ) → reply ≢ Reply.Pending op)
        → (means : Meaning Shown) × (reply ≡ value_reply D (Some means)) × ShowsWrite (happens D at_read (read_event r)) means

    -- what a pending read finishes with at a later event shows the write
    abbrev pub ShowsLater : Type 0
    ShowsLater =
        (op : ℕ) → reply_in at_read (read_event r) ≡ Some (Reply.Pending op)
        → (event : Event Op) (end : Finished Shown) → IsLawful D at_end event → Finishes at_end event r.reader end → end.op ≡ op
        → (means : Meaning Shown) × (end.result ≡ read_result D (Some means)) × ShowsWrite (happens D at_end event) means

  -- it holds of every majority write and later majority read of its key, while membership stays unchanged and where the read's caller had seen that the write succeeded
  abbrev pub WhileUnchanged : (ℕ → List (KeyDecl Kind) → WriteThenRead Op → Type 0) → Type 0
  WhileUnchanged Holds = (members : ℕ) (keys : List (KeyDecl Kind)) (r : WriteThenRead Op) → IsUnchanged members keys r → Holds members keys r
