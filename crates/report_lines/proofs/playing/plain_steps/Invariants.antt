use Rattle.std.proofs.Common.{take, string_bytes}
use Rattle.report_lines.specs.Telling.{TellsSteps}
use Rattle.report_lines.proofs.playing.plain_steps.Given as goal

abbrev pub invariant-loop-i : goal.invariant-loop-i
invariant-loop-i g l = TellsSteps g.T.SpelledData (take l.i l.steps) l.initial.world l.world (string_bytes l.text)
