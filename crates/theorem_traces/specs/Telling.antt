-- What a trace tells of a world: all records made, and what each running member holds of each key. What it is of a run.
use Rattle.std.specs.Prelude.{◌≡◌, ℕ, List, Some, slice_get}
use Rattle.model_history.specs.Texts.{Text}
use Rattle.model_members.specs.DataType.{Replication}
use Rattle.model_members.specs.Node.{KeyDecl, Node}
use Rattle.model_members.specs.World.{World}
use Rattle.model_members.specs.Script.{ScriptStep, KeeperAnswers, opening, played_all}
use Rattle.theorem_runs.specs.Logs.{HasLogs}
use Rattle.model_traces.specs.Traces.{TraceState, IsLawful, nothing_traced, after_lines}
use Rattle.model_traces.specs.Runs.{trace_of}

pub record TellsHeld {Kind Op Shown : Type 0} (keys : List (KeyDecl Kind)) (state : TraceState Op) (world : World Kind Op Shown) : Type 0 where
  pub logs : HasLogs state.made world
  pub held : (i : ℕ) (node : Node Kind Op Shown) (key : KeyDecl Kind) → world.nodes i ≡ Some node → (k : ℕ) × (slice_get keys k ≡ Some key) → state.held i key.name ≡ (node.entries key.name).history

module _ {Kind Op Shown : Type 0} (D : Replication Kind Op Shown) (value_text : Shown → Text) (members : ℕ) (keys : List (KeyDecl Kind)) (answers : KeeperAnswers) (steps : List (ScriptStep Op)) where
  -- the trace of the script's run is lawful
  abbrev pub HasLawfulTrace : Type 0
  HasLawfulTrace = IsLawful D.data_type value_text (trace_of D value_text answers members keys steps)

  -- the trace of the script's run tells all records that were made, and what each member holds that runs at its end
  abbrev pub TellsRun : Type 0
  TellsRun = TellsHeld keys (after_lines nothing_traced (trace_of D value_text answers members keys steps).lines) (played_all D (opening answers members keys) steps).world
