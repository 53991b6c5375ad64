-- Where what explains a line stands.
--     TellsInStep        an event of the step of a number puts out this line
--     GoesOnFromSettle        a settle stands among the lines of a run, and the run goes on from what it leaves
use Rattle.std.specs.Prelude.{◌≡◌, ℕ, suc, List, [], ◌∷◌, ◌++◌}
use Rattle.model_members.specs.DataType.{Replication, Meaning}
use Rattle.model_members.specs.Node.{KeyDecl}
use Rattle.model_members.specs.World.{Event, start, run, output_of}
use Rattle.model_members.specs.Script.{KeeperAnswers, Playing, ScriptStep, Told, opening, settle, output_lines}
use Rattle.model_kinds.specs.declared.kind.Kind.{Kind}
use Rattle.model_kinds.specs.declared.operation.Op.{Op}
use Rattle.model_kinds.specs.declared.shown.Shown.{Shown}
use Rattle.theorem_operations.specs.Scripts.{UpdateThenGet, IncludesUpdate, before_step}
use Rattle.theorem_sections.specs.Runs.{RunStep, PlaysAll}
use Rattle.top_call.specs.EachRun.{Lines, SettlesAreSo, TellsSettle, six, settle_told}

module _ {Kinds Operation Value : Type 0} (D : Replication Kinds Operation Value) (answers : KeeperAnswers) (members : ℕ) (keys : List (KeyDecl Kinds)) (steps : List (ScriptStep Operation)) where
  -- behind all events of the steps before, this step has an event that puts out the line
  pub record TellsInStep (n : ℕ) (line : Told Operation Value) : Type 0 where
    pub within : List (Event Operation)
    pub event : Event Operation
    pub rest : List (Event Operation)
    pub of_step : (before_step D answers members keys steps (suc n)).events ≡ ((before_step D answers members keys steps n).events ++ within) ++ event ∷ rest
    pub tells : output_lines D line.head (output_of D (run D (start members keys) ((before_step D answers members keys steps n).events ++ within)) event) ≡ line ∷ []

-- the first steps lead to where the settle is, what it tells is so and stands behind their lines, and the other lines and the end are those of the run from there
pub record GoesOnFromSettle (members : ℕ) (keys : List (KeyDecl Kind)) (answers : KeeperAnswers) (front rest : List (RunStep Op)) (lines : Lines) (last : Playing Kind Op Shown) : Type 0 where
  pub early : Lines
  pub late : Lines
  pub before : Playing Kind Op Shown
  pub plays : PlaysAll six (opening answers members keys) front early before
  pub told : lines ≡ early ++ (settle_told before ∷ []) ∷ late
  pub so : SettlesAreSo members keys before
  pub goes_on : PlaysAll six (record (settle six before) { lines = [] }) rest late last

-- the event that explains what a majority get is told is one of the step whose line that is
abbrev pub GetsTellInTheirStep : {Kinds Operation Value : Type 0} → Replication Kinds Operation Value → Type 0
GetsTellInTheirStep {Kinds} {Operation} {Value} D =
    (answers : KeeperAnswers) (members : ℕ) (keys : List (KeyDecl Kinds)) (steps : List (ScriptStep Operation)) (r : UpdateThenGet Operation) (n : ℕ) (line : Told Operation Value) (means : Meaning Value)
    → IncludesUpdate D answers members keys steps r n line means → TellsInStep D answers members keys steps n line

-- a run whose lines tell a settle goes on from what it leaves
abbrev pub RunsGoOn : Type 0
RunsGoOn =
    (members : ℕ) (keys : List (KeyDecl Kind)) (answers : KeeperAnswers) (front rest : List (RunStep Op)) (lines : Lines) (last : Playing Kind Op Shown)
    → TellsSettle members keys answers front rest lines last → GoesOnFromSettle members keys answers front rest lines last
