use Rattle.std.proofs.Common.{take}
use Rattle.report_lines.specs.Telling.{PassesSteps}
use Rattle.report_lines.proofs.playing.untold_steps.Given as goal

abbrev pub invariant-loop-step : goal.invariant-loop-step
invariant-loop-step g l = PassesSteps g.T.SpelledData (take l.step-index l.steps) l.initial.world l.world
