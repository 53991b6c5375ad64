use Rattle.std.proofs.Common.{take}
use Rattle.trace_recorder.specs.Saw.{IsFormed}
use Rattle.trace_played.specs.Seeing.{TracesSteps}
use Rattle.trace_played.proofs.tracing.traced_steps.Given as goal

abbrev pub invariant-loop-step : goal.invariant-loop-step
invariant-loop-step g l = TracesSteps g.T.SpelledData (take l.step-index l.steps) l.initial.world l.world l.initial.recorder l.recorder × (IsFormed l.initial.recorder → IsFormed l.recorder)
