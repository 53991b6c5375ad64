-- What sections play are lawful runs: each move is a plain step of a script.
use Rattle.std.proofs.Common.{ℕ, sym, subst, List, [], ◌∷◌, Option, None, Some}
use Rattle.std.specs.Prelude.{slice_get}
use Rattle.std.specs.List.{AllByRecursion}
use Rattle.model_members.specs.DataType.{Replication}
use Rattle.model_members.specs.Node.{KeyDecl}
use Rattle.model_members.specs.World.{IsRun}
use Rattle.model_members.specs.Script.{ScriptStep, IsStep, Playing, last_of}
use Rattle.theorem_runs.proofs.Playing.{step_is_run}
use Rattle.theorem_sections.specs.Sections.{Command, Client, Made, Section, Move, Line, step_of, pending_op, opened, commanded, commanded_by, timed_out, timed_out_made, timed_out_op, moved, moved_all}
use Rattle.theorem_sections.specs.Sections.Move.{NextCommand, NextMessage, ItsTimeout}
use Rattle.theorem_sections.specs.Runs.{RunStep, IsRunStep, Plays, PlaysAll}

pub command_is_step : {Op : Type 0} (command : Command Op) → IsStep (step_of command)
command_is_step command = tt

module _ {Kind Op Shown : Type 0} (D : Replication Kind Op Shown) (members : ℕ) (keys : List (KeyDecl Kind)) where
  abbrev pub Runs : Playing Kind Op Shown → Type 0
  Runs p = IsRun D members keys p.events p.world

  commanded_by_runs : (s : Section Kind Op Shown) (c : ℕ) (client : Client Op Shown) (commands : List (Command Op)) → Runs s.playing → Runs (commanded_by D s c client commands).playing
  commanded_by_runs s c client [] runs = runs
  commanded_by_runs s c client (command ∷ rest) runs = step_is_run D members keys s.playing (step_of command) (command_is_step command) runs

  commanded_runs : (s : Section Kind Op Shown) (c : ℕ) (client : Option (Client Op Shown)) → Runs s.playing → Runs (commanded D s c client).playing
  commanded_runs s c None runs = runs
  commanded_runs s c (Some client) runs = commanded_by_runs s c client client.to_come runs

  timed_out_op_runs : (s : Section Kind Op Shown) (c : ℕ) (client : Client Op Shown) (i : ℕ) (op : Option ℕ) → Runs s.playing → Runs (timed_out_op D s c client i op).playing
  timed_out_op_runs s c client i None runs = runs
  timed_out_op_runs s c client i (Some op) runs = step_is_run D members keys s.playing (ScriptStep.Timeout i op) tt runs

  timed_out_made_runs : (s : Section Kind Op Shown) (c : ℕ) (client : Client Op Shown) (made : Option (Made Op Shown)) → Runs s.playing → Runs (timed_out_made D s c client made).playing
  timed_out_made_runs s c client None runs = runs
  timed_out_made_runs s c client (Some made) runs = timed_out_op_runs s c client made.at (pending_op made.line.answer) runs

  timed_out_runs : (s : Section Kind Op Shown) (c : ℕ) (client : Option (Client Op Shown)) → Runs s.playing → Runs (timed_out D s c client).playing
  timed_out_runs s c None runs = runs
  timed_out_runs s c (Some client) runs = timed_out_made_runs s c client (last_of client.made) runs

  pub moved_runs : (s : Section Kind Op Shown) (m : Move) → Runs s.playing → Runs (moved D s m).playing
  moved_runs s (NextCommand c) runs = commanded_runs s c (slice_get s.clients c) runs
  moved_runs s (NextMessage from to) runs = step_is_run D members keys s.playing (ScriptStep.Deliver from to (Some (s.due from to))) tt runs
  moved_runs s (ItsTimeout c) runs = timed_out_runs s c (slice_get s.clients c) runs

  pub moved_all_runs : (s : Section Kind Op Shown) (ms : List Move) → Runs s.playing → Runs (moved_all D s ms).playing
  moved_all_runs s [] runs = runs
  moved_all_runs s (m ∷ ms) runs = moved_all_runs (moved D s m) ms (moved_runs s m runs)

  pub plays_runs : (p q : Playing Kind Op Shown) (s : RunStep Op) (lines : List (Line Op Shown)) → IsRunStep s → Plays D p s lines q → Runs p → Runs q
  plays_runs p q (RunStep.Plain s) lines ok h runs = subst Runs (sym h.1) (step_is_run D members keys p s ok runs)
  plays_runs p q (RunStep.Threads clients) lines ok h runs =
      subst Runs (sym h.4) (subst (λ (end : Section Kind Op Shown). Runs end.playing) (sym h.2.leads) (moved_all_runs (opened p clients) h.0 runs))

  pub all_run : (p last : Playing Kind Op Shown) (steps : List (RunStep Op)) (lines : List (List (Line Op Shown))) → AllByRecursion IsRunStep steps → PlaysAll D p steps lines last → Runs p → Runs last
  all_run p last [] lines ok h runs = subst Runs (sym h.1) runs
  all_run p last (s ∷ steps) lines ok h runs = all_run h.2 last steps h.1 ok.1 h.4 (plays_runs p h.2 s h.0 ok.0 h.3 runs)
