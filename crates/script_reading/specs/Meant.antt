-- What a script's steps are in the model: only levels are written otherwise there.
use Rattle.model_members.specs.Script.{Ask as asked, ScriptStep}
use Rattle.model_kinds.specs.declared.operation.Op.{Op}
use Rattle.member_quorum.specs.Levels.{level_meant}
use Rattle.script_reading.specs.declared.ask.Ask.{Ask}
use Rattle.script_reading.specs.declared.ask.Ask.TheVariants.{Update, Get, Flush, Gossip, Tick, Install}
use Rattle.script_reading.specs.declared.script.Step.{Step}
use Rattle.script_reading.specs.declared.script.Step.TheVariants as form

abbrev pub ask_of : Ask → asked Op
ask_of (Update key op level) = asked.Update key op (level_meant level)
ask_of (Get key level) = asked.Get key (level_meant level)
ask_of Flush = asked.Flush
ask_of (Gossip to) = asked.Gossip to
ask_of Tick = asked.Tick
ask_of (Install view) = asked.Install view

abbrev pub step_of : Step → ScriptStep Op
step_of (form.Ask at ask) = ScriptStep.Asks at (ask_of ask)
step_of (form.Deliver from to index) = ScriptStep.Deliver from to index
step_of (form.Lose from to) = ScriptStep.Lose from to
step_of form.Round = ScriptStep.Round
step_of (form.Timeout at op) = ScriptStep.Timeout at op
step_of (form.Remove id) = ScriptStep.Remove id
step_of (form.Join place) = ScriptStep.Join place
step_of (form.Restart id) = ScriptStep.Restart id
step_of form.Settle = ScriptStep.Settle
