-- A worked script that meets every premise of the headline, those within its parts too: a client, a member that leaves, a settle over digests that tell entries apart, and an input that is refused.
use Rattle.std.specs.Prelude.{◌≡◌, ℕ, List, [], ◌∷◌, true, None, Some, option_map}
use Rattle.model_history.specs.History.{is_pruned}
use Rattle.model_members.specs.Node.{Node, Reply, Result}
use Rattle.model_members.specs.Node.Level.{Local, Majority}
use Rattle.model_members.specs.World.{start}
use Rattle.model_members.specs.Script.{Playing, ScriptStep, none_fails, opening}
use Rattle.model_members.specs.Script.Answer.{Replied}
use Rattle.model_members.specs.Script.Ask.{Update, Get}
use Rattle.theorem_operations.specs.Borders.{small_keys, the_key}
use Rattle.theorem_sections.specs.Runs.{RunStep, PlaysAll}
use Rattle.theorem_sections.specs.Runs.RunStep.{Plain, Threads}
use Rattle.theorem_sections.specs.Sections.{Command, Line, Ending, Move, Section, IsSection, command_to}
use Rattle.theorem_client_operations.specs.Completing.{IsUndisturbed}
use Rattle.theorem_client_operations.specs.Seen.{Stands, SeenUpdate, IsSeenUntil}
use Rattle.theorem_settling.specs.Settling.{BlockedStays, DigestsTellFrom}
use Rattle.theorem_digests.specs.Borders.{spelled_whole}
use Rattle.theorem_headline.specs.Headline.{TellsSettle, before_step}

abbrev pub One : Type 0
One = Unit {0}

-- the client updates at member 0, and then gets at member 1
abbrev pub worked_client : List (Command One)
worked_client = command_to 0 (Update the_key tt (Majority 0)) ∷ command_to 1 (Get the_key (Majority 0)) ∷ []

-- then a key is asked for that nobody declared, member 0 leaves, and the other two settle
abbrev pub worked_script : List (RunStep One)
worked_script = Threads (worked_client ∷ []) ∷ Plain (ScriptStep.Asks 1 (Get [] Local)) ∷ Plain (ScriptStep.Remove 0) ∷ Plain ScriptStep.Settle ∷ []

abbrev pub worked_start : Playing One One ℕ
worked_start = opening none_fails 3 small_keys

abbrev pub worked_read : SeenUpdate One
worked_read = record {
  update = record { step = 0; caller = Some 0; number = 0 };
  writer = 0;
  key = the_key;
  operation = tt;
  cap = 0;
  get = record { step = 0; caller = Some 0; number = 1 };
  reader = 1;
  read_cap = 0;
}

-- EVERY PREMISE IS MET, over the one key whose digests are the spellings themselves
pub record HeadlineIsMet : Type 0 where
  pub blocked : BlockedStays spelled_whole
  pub lines : List (List (Line One ℕ))
  pub last : Playing One One ℕ
  pub plays : PlaysAll spelled_whole worked_start worked_script lines last
  -- the client had seen its majority update done, and its majority get tells a value
  pub here : Playing One One ℕ
  pub there : Playing One One ℕ
  pub update : Line One ℕ
  pub get : Line One ℕ
  pub seen : IsSeenUntil spelled_whole none_fails 3 small_keys worked_script lines last plays worked_read 0 here there update get
  pub value : get.ended ≡ Some (Ending.Ended (record { op = 0; result = Result.ReadValue 1 }))
  -- nothing disturbs the client's section
  pub moves : List Move
  pub end : Section One One ℕ
  pub section : IsSection spelled_whole worked_start (worked_client ∷ []) moves end
  pub undisturbed : IsUndisturbed spelled_whole worked_start end
  -- an input is refused
  pub line : Line One ℕ
  pub refused : Stands lines (record { step = 1; caller = None; number = 0 }) line × (line.answer ≡ Replied Reply.UnknownKey)
  -- the settle is done after eight messages, and blocks nothing
  pub settles : TellsSettle spelled_whole none_fails 3 small_keys worked_script lines last plays 3 8 0
  -- digests tell entries apart until then
  pub digests : DigestsTellFrom spelled_whole (start 3 small_keys) (before_step spelled_whole none_fails 3 small_keys worked_script lines last plays 4).events
  -- so it leaves a settled world, in which the member that left is pruned
  pub pruned : option_map (λ (node : Node One One ℕ). is_pruned (node.entries the_key).history 0) (last.world.nodes 1) ≡ Some true
