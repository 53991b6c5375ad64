-- What holds of each run of a script that may have clients, whatever their schedule and whatever the keepers answer.
--     SettlesAreSo        what a settle from here tells is so, and it leaves a settled world
--     TellsSettle        a run's lines tell such a settle
--     ReadsIncludeWrites        what a majority read shows includes the majority writes whose success was seen
--     OfEveryRunOfSix, SettlesAreTold        of every run of every script; what the lines of each tell of a settle
--     HasHeadline, OfEverySpelled        what holds of the run that a report tells; of every script that bytes spell
use Rattle.std.specs.Prelude.{◌≡◌, ◌≢◌, ℕ, ◌*◌, ◌-◌, ◌≤◌, List, [], ◌∷◌, ◌++◌, length, map, None, Some}
use Rattle.std.specs.List.{AllByRecursion}
use Rattle.model_history.specs.Table.{identity_limit}
use Rattle.model_history.specs.Texts.{Text}
use Rattle.model_members.specs.DataType.{Replication, Meaning}
use Rattle.model_members.specs.Node.{KeyDecl, Finished, Reply}
use Rattle.model_members.specs.Step.{value_reply, read_result}
use Rattle.model_members.specs.Script.{KeeperAnswers, Playing, ScriptStep, Answer, Head, opening, settle}
use Rattle.model_members.specs.World.{Event, start, happens}
use Rattle.model_kinds.specs.SixKinds.{six_kinds}
use Rattle.model_kinds.specs.declared.kind.Kind.{Kind}
use Rattle.model_kinds.specs.declared.operation.Op.{Op}
use Rattle.model_kinds.specs.declared.shown.Shown.{Shown}
use Rattle.data_value.specs.DataSpelled.{history_byte, history_spelled}
use Rattle.member_node.specs.Members.{spelled_groups}
use Rattle.theorem_runs.specs.Runs.{OfEveryScript}
use Rattle.theorem_operations.specs.Quorum.{WriteThenRead, AllInstalled, KeepsMembers, HasSucceeded, Finishes, ShowsWrite, all_events, read_event, reply_in, at_write, at_read, at_end}
use Rattle.theorem_sections.specs.Sections.{Line}
use Rattle.theorem_sections.specs.Runs.{RunStep, IsRunStep, PlaysAll}
use Rattle.theorem_settling.specs.Settling.{IsSettled, HasBlocked, settle_answer}
use Rattle.theorem_digests.specs.Digests.{DistinctDigests}
use Rattle.theorem_headline.specs.Headline.{TheHeadline}
use Rattle.script_reading.specs.declared.clients.Clients.{Clients}
use Rattle.script_reading.specs.declared.script.Script.{Script}
use Rattle.script_reading.specs.Reading.{Spells}
use Rattle.world_members.specs.Threads.{run_step_of}
use Rattle.report_lines.specs.Run.{IsReport, decl_of, in_order}

-- values of the six kinds, whose digests are the SHA-1 of their spellings
abbrev pub six : Replication Kind Op Shown
six = spelled_groups six_kinds history_byte history_spelled

-- the keys of a script as the model has them, in the byte order of their names
abbrev pub keys_of : Script → List (KeyDecl Kind)
keys_of script = map decl_of (in_order script.keys)

-- no two different spellings that running members have of one key have one SHA-1, in any world of these events of the script
abbrev pub DistinctOf : Script → List (Event Op) → Type 0
DistinctOf script = DistinctDigests six history_byte history_spelled (start script.members (keys_of script))

abbrev pub Lines : Type 0
Lines = List (List (Line Op Shown))

-- what a settle from here tells
abbrev pub settle_told : Playing Kind Op Shown → Line Op Shown
settle_told p = record { client = None; head = Head.SettleHead; answer = settle_answer six p; posts = []; ended = None }

module _ (members : ℕ) (keys : List (KeyDecl Kind)) where
  -- ---- settles

  -- A SETTLE FROM HERE THAT IS DONE sends at most 12 messages for each member of the last view but the leader, its second number is how many outcomes of its second tick are Blocked, and it leaves a settled world, where digests are distinct until its end
  pub record SettlesAreSo (p : Playing Kind Op Shown) : Type 0 where
    pub few : (messages blocked : ℕ) → settle_answer six p ≡ Answer.Settled messages blocked → messages ≤ 12 * (length p.world.view.members - 1)
    pub second_number : (messages blocked : ℕ) → settle_answer six p ≡ Answer.Settled messages blocked → HasBlocked six p blocked
    pub settled : (messages blocked : ℕ) → settle_answer six p ≡ Answer.Settled messages blocked
        → DistinctDigests six history_byte history_spelled (start members keys) (settle six p).events → IsSettled six (settle six p).world

  -- behind the lines of these steps of a run stands the line of a settle, what it tells is so, and the run goes on from it
  pub record TellsSettle (answers : KeeperAnswers) (front rest : List (RunStep Op)) (lines : Lines) (last : Playing Kind Op Shown) : Type 0 where
    pub early : Lines
    pub late : Lines
    pub p : Playing Kind Op Shown
    pub plays : PlaysAll six (opening answers members keys) front early p
    pub told : lines ≡ early ++ (settle_told p ∷ []) ∷ late
    pub goes_on : PlaysAll six (record (settle six p) { lines = [] }) rest late last
    pub so : SettlesAreSo p

  -- ---- majority reads

  -- These stand first among the events of a run. All running members have the last view installed before the write, no event from the write on changes who is a member, and the write has succeeded when the read begins
  pub record IsSeen (events : List (Event Op)) (r : WriteThenRead Op) (rest : List (Event Op)) : Type 0 where
    pub way : events ≡ all_events r ++ rest
    pub installed : AllInstalled (at_write six members keys r)
    pub between : AllByRecursion KeepsMembers r.between
    pub after : AllByRecursion KeepsMembers r.after
    pub succeeded : HasSucceeded six (at_write six members keys r) r.write (at_read six members keys r)

  -- WHAT A MAJORITY READ SHOWS includes the write's record: it is the meaning of what the reader then has. Its value comes at once, or where its operation finishes
  pub record ReadsIncludeWrites (events : List (Event Op)) : Type 0 where
    pub at_once : (r : WriteThenRead Op) (rest : List (Event Op)) → IsSeen events r rest
        → (reply : Reply Shown) → reply_in six (at_read six members keys r) (read_event r) ≡ Some reply → ((op : ℕ) → reply ≢ Reply.Pending op)
        → (means : Meaning Shown) × (reply ≡ value_reply six (Some means)) × ShowsWrite six members keys r (happens six (at_read six members keys r) (read_event r)) means
    pub later : (r : WriteThenRead Op) (event : Event Op) (rest : List (Event Op)) → IsSeen events r (event ∷ rest)
        → (op : ℕ) → reply_in six (at_read six members keys r) (read_event r) ≡ Some (Reply.Pending op)
        → (end : Finished Shown) → Finishes six (at_end six members keys r) event r.reader end → end.op ≡ op
        → (means : Meaning Shown) × (end.result ≡ read_result six (Some means)) × ShowsWrite six members keys r (happens six (at_end six members keys r) event) means

-- it holds of every run of every script that may have clients, over values of the six kinds: of how many members it begins with, its keys, and where it ends
abbrev pub OfEveryRunOfSix : (ℕ → List (KeyDecl Kind) → Playing Kind Op Shown → Type 0) → Type 0
OfEveryRunOfSix Holds =
    OfEveryScript IsRunStep (λ answers members keys steps. (lines : Lines) (last : Playing Kind Op Shown) → PlaysAll six (opening answers members keys) steps lines last → Holds members keys last)

-- the lines of every run of a script that has a settle behind its first steps tell such a settle there
abbrev pub SettlesAreTold : Type 0
SettlesAreTold =
    (answers : KeeperAnswers) (members : ℕ) (keys : List (KeyDecl Kind)) (front rest : List (RunStep Op)) → 1 ≤ members → members ≤ identity_limit → AllByRecursion IsRunStep front
    → (lines : Lines) (last : Playing Kind Op Shown) → PlaysAll six (opening answers members keys) (front ++ RunStep.Plain ScriptStep.Settle ∷ rest) lines last
    → TellsSettle members keys answers front rest lines last

-- where the text is a report of the script, the headline holds of the run that it tells
abbrev pub HasHeadline : Script → KeeperAnswers → Text → Type 0
HasHeadline script answers text =
    (report : IsReport six_kinds history_byte history_spelled answers script text)
    → TheHeadline six answers script.members (keys_of script) (map run_step_of script.steps) report.lines report.last report.plays (DistinctOf script)

-- it holds of every script that bytes spell, whatever the keepers answer, and of every text
abbrev pub OfEverySpelled : (Script → KeeperAnswers → Text → Type 0) → Type 0
OfEverySpelled Holds = (clients : Clients) (bytes : List ℕ) (script : Script) (answers : KeeperAnswers) (text : Text) → Spells clients bytes script → Holds script answers text
