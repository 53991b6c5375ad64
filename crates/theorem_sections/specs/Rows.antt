-- Worked scripts with client threads, and their reports.
use Rattle.std.specs.Prelude.{◌≡◌, ◌⊎◌, ℕ, List, [], ◌∷◌, ◌++◌, codes, flat_map}
use Rattle.model_history.specs.Texts.{Text}
use Rattle.model_kinds.specs.declared.kind.Kind.{Kind}
use Rattle.model_kinds.specs.declared.operation.Op.{Op}
use Rattle.model_kinds.specs.ShownText.{shown_text}
use Rattle.model_kinds.specs.declared.kind.Kind.TheVariants.{GCounter}
use Rattle.model_kinds.specs.declared.operation.Op.TheVariants.{Increment}
use Rattle.model_members.specs.Node.{KeyDecl}
use Rattle.model_members.specs.Node.Level.{Local, Majority}
use Rattle.model_members.specs.Report.{line_of}
use Rattle.model_members.specs.Script.{none_fails, KeeperAnswers}
use Rattle.model_rows.specs.Words.{data_type, key, durable_key, failing_at}
use Rattle.theorem_sections.specs.Sections.{Command, command_to, commands_of}
use Rattle.model_members.specs.Script.ScriptStep.{Round}
use Rattle.model_members.specs.Script.Ask.{Update, Get, Flush, Gossip, Tick, Install}
use Rattle.theorem_sections.specs.Runs.{RunStep, HasReport}
use Rattle.theorem_sections.specs.Runs.RunStep.{Plain, Threads}

abbrev pub has_report : KeeperAnswers → ℕ → List (KeyDecl Kind) → List (RunStep Op) → Text → Type 0
has_report = HasReport data_type shown_text

-- the script has this report and no other
pub record HasOneReport (answers : KeeperAnswers) (members : ℕ) (keys : List (KeyDecl Kind)) (steps : List (RunStep Op)) (text : Text) : Type 0 where
  pub has : has_report answers members keys steps text
  pub only : (other : Text) → has_report answers members keys steps other → other ≡ text

abbrev pub pending_update : List (Command Op)
pending_update = command_to 0 (Update (codes "n") (Increment 1) (Majority 0)) ∷ command_to 1 (Get (codes "n") Local) ∷ command_to 0 (Get (codes "n") Local) ∷ []

abbrev pub one_client_text : Text
one_client_text =
    flat_map line_of
    (codes "1 client 0 update 0 n pending 0 sent 1:write 2:write finished 0 done"
    ∷ codes "1 client 0 get 1 n value 1"
    ∷ codes "1 client 0 get 0 n value 1"
    ∷ codes "final view 0"
    ∷ codes "member 0 place 0 view 0"
    ∷ codes "n 1 known 0:1 marks -"
    ∷ codes "member 1 place 1 view 0"
    ∷ codes "n 1 known 0:1 marks -"
    ∷ codes "member 2 place 2 view 0"
    ∷ codes "n 1 known 0:1 marks -"
    ∷ [])

abbrev pub OneClient : Type 0
OneClient = HasOneReport none_fails 3 (key (codes "n") GCounter ∷ []) (Threads (pending_update ∷ []) ∷ []) one_client_text

abbrev pub other_commands : List (Command Op)
other_commands = command_to 0 (Update (codes "n") (Increment 2) Local) ∷ command_to 0 Flush ∷ command_to 1 (Get (codes "n") Local) ∷ command_to 1 (Gossip 0) ∷ command_to 0 Tick ∷ command_to 0 (Install 0) ∷ []

abbrev pub other_commands_text : Text
other_commands_text =
    flat_map line_of
    (codes "1 client 0 update 0 n done"
    ∷ codes "1 client 0 flush 0 done sent 1:deltas/1/0"
    ∷ codes "1 client 0 get 1 n value 2"
    ∷ codes "1 client 0 gossip 1 0 done sent 0:status/1"
    ∷ codes "1 client 0 tick 0 done"
    ∷ codes "1 client 0 install 0 view 0 old view"
    ∷ codes "final view 0"
    ∷ codes "member 0 place 0 view 0"
    ∷ codes "n 2 known 0:1 marks -"
    ∷ codes "member 1 place 1 view 0"
    ∷ codes "n 2 known 0:1 marks -"
    ∷ [])

abbrev pub OtherCommands : Type 0
OtherCommands = HasOneReport none_fails 2 (key (codes "n") GCounter ∷ []) (Threads (other_commands ∷ []) ∷ []) other_commands_text

abbrev pub timed_out_write : List (Command Op)
timed_out_write = command_to 0 (Update (codes "d") (Increment 1) (Majority 0)) ∷ []

abbrev pub timed_out_text : Text
timed_out_text =
    flat_map line_of
    (codes "1 client 0 update 0 d pending 0 sent 1:write finished 0 timed out"
    ∷ codes "final view 0"
    ∷ codes "member 0 place 0 view 0"
    ∷ codes "d 1 known 0:1 marks -"
    ∷ codes "member 1 place 1 view 0"
    ∷ codes "d 1 known 0:1 marks -"
    ∷ [])

-- the keeper of place 1 fails at its first store, so member 1 answers that it has not stored
abbrev pub TimedOutWrite : Type 0
TimedOutWrite = HasOneReport (failing_at 1 (1 ∷ [])) 2 (durable_key (codes "d") GCounter ∷ []) (Threads (timed_out_write ∷ []) ∷ []) timed_out_text

-- after it a round has nothing to deliver: what member 1 answered was heard before the timeout
abbrev pub nack_heard_text : Text
nack_heard_text =
    flat_map line_of
    (codes "1 client 0 update 0 d pending 0 sent 1:write finished 0 timed out"
    ∷ codes "2 round nothing"
    ∷ codes "final view 0"
    ∷ codes "member 0 place 0 view 0"
    ∷ codes "d 1 known 0:1 marks -"
    ∷ codes "member 1 place 1 view 0"
    ∷ codes "d 1 known 0:1 marks -"
    ∷ [])

abbrev pub NackHeard : Type 0
NackHeard = HasOneReport (failing_at 1 (1 ∷ [])) 2 (durable_key (codes "d") GCounter ∷ []) (Threads (timed_out_write ∷ []) ∷ Plain Round ∷ []) nack_heard_text

abbrev pub majority_get : List (Command Op)
majority_get = command_to 0 (Update (codes "n") (Increment 1) (Majority 0)) ∷ command_to 1 (Get (codes "n") (Majority 0)) ∷ []

abbrev pub majority_get_text : Text
majority_get_text =
    flat_map line_of
    (codes "1 client 0 update 0 n pending 0 sent 1:write finished 0 done"
    ∷ codes "1 client 0 get 1 n pending 0 sent 0:read finished 0 value 1"
    ∷ codes "final view 0"
    ∷ codes "member 0 place 0 view 0"
    ∷ codes "n 1 known 0:1 marks -"
    ∷ codes "member 1 place 1 view 0"
    ∷ codes "n 1 known 0:1 marks -"
    ∷ [])

-- a majority get of a client includes its majority update, and no timeout comes while an answer is on its way
abbrev pub MajorityGet : Type 0
MajorityGet = HasOneReport none_fails 2 (key (codes "n") GCounter ∷ []) (Threads (majority_get ∷ []) ∷ []) majority_get_text

abbrev pub racing : List (List (Command Op))
racing = (command_to 0 (Update (codes "n") (Increment 1) Local) ∷ []) ∷ (command_to 0 (Get (codes "n") Local) ∷ []) ∷ []

abbrev pub racing_text : Text → Text
racing_text found =
    flat_map line_of
    (codes "1 client 0 update 0 n done"
    ∷ (codes "1 client 1 get 0 n " ++ found)
    ∷ codes "final view 0"
    ∷ codes "member 0 place 0 view 0"
    ∷ codes "n 1 known 0:1 marks -"
    ∷ [])

-- the script has these two reports and no other
pub record HasTwoReports (answers : KeeperAnswers) (members : ℕ) (keys : List (KeyDecl Kind)) (steps : List (RunStep Op)) (first second : Text) : Type 0 where
  pub has : has_report answers members keys steps first
  pub has_too : has_report answers members keys steps second
  pub only : (other : Text) → has_report answers members keys steps other → (other ≡ first) ⊎ (other ≡ second)

-- a client that reads while another writes finds what was written, or doesn't: both reports are right
abbrev pub Racing : Type 0
Racing = HasTwoReports none_fails 1 (key (codes "n") GCounter ∷ []) (Threads racing ∷ []) (racing_text (codes "not found")) (racing_text (codes "value 1"))

abbrev pub two_writers : List (List (Command Op))
two_writers = commands_of (record { command = command_to 0 (Update (codes "n") (Increment 1) Local); times = 3 } ∷ []) ∷ commands_of (record { command = command_to 1 (Update (codes "n") (Increment 1) Local); times = 2 } ∷ []) ∷ []

abbrev pub two_writers_text : Text
two_writers_text =
    flat_map line_of
    (codes "1 client 0 update 0 n done"
    ∷ codes "1 client 0 update 0 n done"
    ∷ codes "1 client 0 update 0 n done"
    ∷ codes "1 client 1 update 1 n done"
    ∷ codes "1 client 1 update 1 n done"
    ∷ codes "final view 0"
    ∷ codes "member 0 place 0 view 0"
    ∷ codes "n 3 known 0:3 marks -"
    ∷ codes "member 1 place 1 view 0"
    ∷ codes "n 2 known 1:2 marks -"
    ∷ [])

-- two clients that write at two members have one report, in whatever order they write
abbrev pub TwoWriters : Type 0
TwoWriters = HasOneReport none_fails 2 (key (codes "n") GCounter ∷ []) (Threads two_writers ∷ []) two_writers_text
