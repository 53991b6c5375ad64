use Rattle.std.proofs.Common.{take, string_bytes}
use Rattle.report_followers.specs.Watching.{WatchesSteps}
use Rattle.report_followers.proofs.playing.all_steps.Given as goal

abbrev pub invariant-loop-i : goal.invariant-loop-i
invariant-loop-i g l = WatchesSteps g.T.SpelledData (take l.i l.steps) l.initial.world l.world l.desks (string_bytes l.text)
