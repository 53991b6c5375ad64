use Rattle.std.proofs.Common.{sym, subst}
use Rattle.world_members.specs.Steps.{Plays}
use Rattle.world_members.proofs.Answering.{match_err}
use Rattle.trace_played.proofs.SeenRuns.{step_traced}
use Rattle.trace_played.proofs.tracing.traced_step.Goals as goal

pub returns-in_err-events-clause-traced : goal.returns-in_err-events-clause-traced
returns-in_err-events-clause-traced g c = match_err _ _ c.from_residual.result c.from_residual.ensures.0 c.in_err-events.ensures.kept

pub returns-clause-traced : goal.returns-clause-traced
returns-clause-traced g c =
    step_traced g.T.SpelledData c.args.step.now c.args.world.now c.step.new.self c.as_slice.result.now (subst (Plays g.T.SpelledData c.args.step.now c.args.world.now c.step.new.self) (sym c.as_slice.ensures) c.in_ok-events.ensures)
    c.see_step.result c.args.recorder.now c.see_step.new.recorder c.see_step.ensures.saw
