-- The majority gets of a run that may have clients, and the majority updates whose success their callers had seen, by the lines of its report.
--     Place, Stands, HadSeen        where a command's line stands in a report, and what its caller had seen
--     StandsAt, stands_before        where the run stands when a command comes, and before a step
--     IsSeenUntil        an update's success was seen, and membership stays unchanged
--     GetsIncludeSeen        what it tells is the meaning of a history that has the update's record
use Rattle.std.specs.Prelude.{◌≡◌, ◌≢◌, ℕ, zero, suc, ◌<◌, List, [], ◌∷◌, ◌++◌, length, Bool, true, false, ◌==◌, filter, Option, None, Some, find, slice_get}
use Rattle.std.specs.Str.{bytes_eq}
use Rattle.model_history.specs.Texts.{Text}
use Rattle.model_members.specs.DataType.{Replication, Meaning, meaning}
use Rattle.model_members.specs.Message.{Message}
use Rattle.model_members.specs.Node.{KeyDecl, Node, Reply, Result, Finished}
use Rattle.model_members.specs.Node.Level.{Majority}
use Rattle.model_members.specs.Step.{value_reply, read_result}
use Rattle.model_members.specs.World.{Event, start, run}
use Rattle.model_members.specs.Script.{Ask, Playing, ScriptStep, KeeperAnswers, opening}
use Rattle.model_members.specs.Script.Answer.{Replied}
use Rattle.model_members.specs.Script.Head.{Asked, DeliverHead}
use Rattle.theorem_operations.specs.Quorum.{AllInstalled, HasWrite}
use Rattle.theorem_sections.specs.Sections.{Client, Section, Line, Ending}
use Rattle.theorem_sections.specs.Runs.{RunStep, Plays, PlaysAll}
use Rattle.theorem_sections.specs.Runs.RunStep.{Plain, Threads}
use Rattle.theorem_client_operations.specs.Calls.{ComesAt}

-- WHERE A LINE STANDS

-- the number of its step, from 0; whose line it is, a client's or the script's own; and how many lines of theirs stand before it in the step
pub record Place : Type 0 where
  pub step : ℕ
  pub caller : Option ℕ
  pub number : ℕ

abbrev pub is_caller : Option ℕ → Option ℕ → Bool
is_caller None None = true
is_caller (Some c) (Some d) = c == d
is_caller _ _ = false

-- this line of a report stands there
pub record Stands {Op Shown : Type 0} (lines : List (List (Line Op Shown))) (place : Place) (line : Line Op Shown) : Type 0 where
  pub told : List (Line Op Shown)
  pub step : slice_get lines place.step ≡ Some told
  pub here : slice_get (filter (λ (l : Line Op Shown). is_caller place.caller l.client) told) place.number ≡ Some line

-- who made the second command had seen the line of the first: it is of an earlier step, or of an earlier command of the same client
pub data HadSeen (first second : Place) : Type 0 where
  EarlierStep : first.step < second.step → HadSeen first second
  OwnCommand : (c : ℕ) → first.step ≡ second.step → first.caller ≡ Some c → second.caller ≡ Some c → first.number < second.number → HadSeen first second

-- WHERE A RUN STANDS

module _ {Kind Op Shown : Type 0} (D : Replication Kind Op Shown) where
  -- in a step: before it, where the script itself asks; in a section, after the moves before a client's command, when the client has made so many
  abbrev pub StandsIn : (p : Playing Kind Op Shown) (step : RunStep Op) (lines : List (Line Op Shown)) (q : Playing Kind Op Shown) → Plays D p step lines q → Option ℕ → ℕ → Playing Kind Op Shown → Type 0
  StandsIn p (Plain (ScriptStep.Asks i ask)) lines q plays None number here = (here ≡ p) × (number ≡ 0)
  StandsIn p (Threads clients) lines q plays (Some c) number here =
      (there : Section Kind Op Shown) × (client : Client Op Shown) × ComesAt D p clients plays.0 c there client × (length client.made ≡ number) × (here ≡ there.playing)
  StandsIn p step lines q plays caller number here = ⊥

  abbrev pub stands_before : (p : Playing Kind Op Shown) (steps : List (RunStep Op)) (lines : List (List (Line Op Shown))) (last : Playing Kind Op Shown) → PlaysAll D p steps lines last → ℕ → Playing Kind Op Shown
  stands_before p [] lines last plays n = p
  stands_before p (step ∷ steps) lines last plays zero = p
  stands_before p (step ∷ steps) lines last plays (suc n) = stands_before plays.2 steps plays.1 last plays.4 n

  abbrev pub StandsAt : (p : Playing Kind Op Shown) (steps : List (RunStep Op)) (lines : List (List (Line Op Shown))) (last : Playing Kind Op Shown) → PlaysAll D p steps lines last → (n : ℕ) → Option ℕ → ℕ → Playing Kind Op Shown → Type 0
  StandsAt p [] lines last plays n caller number here = ⊥
  StandsAt p (step ∷ steps) lines last plays zero caller number here = StandsIn p step plays.0 plays.2 plays.3 caller number here
  StandsAt p (step ∷ steps) lines last plays (suc n) caller number here = StandsAt plays.2 steps plays.1 last plays.4 n caller number here

-- an update of a key at a majority, and a get of it at one, each with the place of its line
pub record SeenUpdate (Op : Type 0) : Type 0 where
  pub update : Place
  pub writer : ℕ
  pub key : Text
  pub operation : Op
  pub cap : ℕ
  pub get : Place
  pub reader : ℕ
  pub read_cap : ℕ

module _ {Op Shown : Type 0} (lines : List (List (Line Op Shown))) where
  -- the script's own line in a step: a message was delivered to a member, and by it this operation finished
  pub record TellsDelivery (place : Place) (i : ℕ) (end : Finished Shown) : Type 0 where
    pub line : Line Op Shown
    pub stands : Stands lines place line
    pub own : place.caller ≡ None
    pub from : ℕ
    pub index : ℕ
    pub message : Option (Message Op)
    pub delivered : line.head ≡ DeliverHead from i index message
    pub ended : line.ended ≡ Some (Ending.Ended end)

  module _ (r : SeenUpdate Op) where
    -- THE UPDATE'S SUCCESS WAS SEEN by whoever made the get: its line tells that it is done, at once or when its operation finished; or an earlier step than the get's tells so
    pub data SuccessIsSeen (line : Line Op Shown) : Type 0 where
      AtOnce : line.answer ≡ Replied Reply.Done → HadSeen r.update r.get → SuccessIsSeen line
      InItsLine : (op : ℕ) → line.answer ≡ Replied (Reply.Pending op) → line.ended ≡ Some (Ending.Ended (record { op = op; result = Result.Wrote })) → HadSeen r.update r.get → SuccessIsSeen line
      ByDelivery : (op : ℕ) (place : Place) → line.answer ≡ Replied (Reply.Pending op) → r.update.step < place.step → place.step < r.get.step
          → TellsDelivery place r.writer (record { op = op; result = Result.Wrote }) → SuccessIsSeen line

module _ {Kind Op Shown : Type 0} (D : Replication Kind Op Shown) (answers : KeeperAnswers) (members : ℕ) (keys : List (KeyDecl Kind)) (steps : List (RunStep Op)) (lines : List (List (Line Op Shown))) (last : Playing Kind Op Shown)
    (plays : PlaysAll D (opening answers members keys) steps lines last) where
  abbrev pub before : ℕ → Playing Kind Op Shown
  before = stands_before D (opening answers members keys) steps lines last plays

  module _ (r : SeenUpdate Op) where
    -- UNCHANGED MEMBERSHIP, AND A SUCCESS THAT WAS SEEN: the run stands here when the update comes, and there when the get does. All running members then have the last view installed, and it is still the last one when the step of this number is done
    pub record IsSeenUntil (n : ℕ) (here there : Playing Kind Op Shown) (update get : Line Op Shown) : Type 0 where
      pub updates : Stands lines r.update update
      pub asks : update.head ≡ Asked r.writer (Ask.Update r.key r.operation (Majority r.cap))
      pub gets : Stands lines r.get get
      pub reads : get.head ≡ Asked r.reader (Ask.Get r.key (Majority r.read_cap))
      pub comes : StandsAt D (opening answers members keys) steps lines last plays r.update.step r.update.caller r.update.number here
      pub reading : StandsAt D (opening answers members keys) steps lines last plays r.get.step r.get.caller r.get.number there
      pub succeeded : SuccessIsSeen lines r update
      pub installed : AllInstalled here.world
      pub unchanged : (before (suc n)).world.view ≡ here.world.view

    -- this is the meaning of what the reader has of the key after an event of the step of this number, and the update's record is in it
    pub record IncludesSeen (n : ℕ) (here : Playing Kind Op Shown) (means : Meaning Shown) : Type 0 where
      pub within : List (Event Op)
      pub rest : List (Event Op)
      pub way : (before (suc n)).events ≡ ((before n).events ++ within) ++ rest
      pub node : Node Kind Op Shown
      pub runs : (run D (start members keys) ((before n).events ++ within)).nodes r.reader ≡ Some node
      pub decl : KeyDecl Kind
      pub declared : find (λ (d : KeyDecl Kind). bytes_eq d.name r.key) keys ≡ Some decl
      pub is : means ≡ meaning D.data_type decl.kind (node.entries r.key).history
      pub has : HasWrite D here.world r.writer r.key r.operation (node.entries r.key).history

  -- WHILE MEMBERSHIP STAYS UNCHANGED, what the report tells of a majority get includes each majority update of its key whose success whoever made the get had seen: in its answer, in the end of a client's line, and in the script's own line by which its operation finished
  pub record GetsIncludeSeen : Type 0 where
    pub at_once : (r : SeenUpdate Op) (here there : Playing Kind Op Shown) (update get : Line Op Shown) → IsSeenUntil r r.get.step here there update get
        → (reply : Reply Shown) → get.answer ≡ Replied reply → ((op : ℕ) → reply ≢ Reply.Pending op) → (means : Meaning Shown) × (reply ≡ value_reply D (Some means)) × IncludesSeen r r.get.step here means
    pub in_its_line : (r : SeenUpdate Op) (here there : Playing Kind Op Shown) (update get : Line Op Shown) → IsSeenUntil r r.get.step here there update get
        → (op : ℕ) (end : Finished Shown) → get.answer ≡ Replied (Reply.Pending op) → get.ended ≡ Some (Ending.Ended end) → (means : Meaning Shown) × (end.result ≡ read_result D (Some means)) × IncludesSeen r r.get.step here means
    pub by_delivery : (r : SeenUpdate Op) (here there : Playing Kind Op Shown) (update get : Line Op Shown) (place : Place) → r.get.step < place.step → IsSeenUntil r place.step here there update get
        → (op : ℕ) (end : Finished Shown) → get.answer ≡ Replied (Reply.Pending op) → TellsDelivery lines place r.reader end → end.op ≡ op → (means : Meaning Shown) × (end.result ≡ read_result D (Some means)) × IncludesSeen r place.step here means

-- so it is in every run that the script may have
abbrev pub AllGetsIncludeSeen : {Kind Op Shown : Type 0} → Replication Kind Op Shown → KeeperAnswers → ℕ → List (KeyDecl Kind) → List (RunStep Op) → Type 0
AllGetsIncludeSeen {Kind} {Op} {Shown} D answers members keys steps =
    (lines : List (List (Line Op Shown))) (last : Playing Kind Op Shown) → (plays : PlaysAll D (opening answers members keys) steps lines last)
    → GetsIncludeSeen D answers members keys steps lines last plays
