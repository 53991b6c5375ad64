use Rattle.std.proofs.Common.{◌≡◌, ◌<◌, ◌≤◌, ◌+◌, ◌∷◌, ◌++◌, [], suc, length, take, sym, ap, subst, ◌∙◌, arith}
use Rattle.std.proofs.lemmas.List.{take_more, take_all, length-take-le}
use Rattle.std.proofs.lemmas.List.Elements.{All-take}
use Rattle.script_reading.specs.WellFormed.{IsAllowed}
use Rattle.script_reading.specs.declared.clients.Clients.TheVariants.{Refused}
use Rattle.world_members.proofs.Answering.{match_err}
use Rattle.report_lines.proofs.Runs.{ArePlain}
use Rattle.report_lines.proofs.Stages.{kept_further_on}
use Rattle.trace_played.specs.Seeing.{TracesSteps}
use Rattle.trace_played.proofs.SeenRuns.{first_traced, next_traced}
use Rattle.trace_played.proofs.tracing.traced_steps.Goals as goal

pub loop-step-init : goal.loop-step-init
loop-step-init g c = (first_traced g.T.SpelledData c.args.world.now c.args.recorder.now, λ formed. formed)

pub loop-step-preserved : goal.loop-step-preserved
loop-step-preserved g c =
    let steps = c.args.steps.now in
    let i = c.loop-step.step-index in
    let here : i < length steps = omega (arith, c.loop-step-test.true) in
    let count : i + 1 ≡ suc (length (take i steps)) = let n = length-take-le i steps (omega (arith, here)) in omega (arith, n) in
    let plain : ArePlain (take i steps) = All-take (IsAllowed Refused) i steps c.requires.plain in (
      subst (λ done. TracesSteps g.T.SpelledData done c.args.world.now c.traced_step.new.world c.args.recorder.now c.traced_step.new.recorder) (sym (take_more steps i c.step-item.result here ∙ ap (λ s. take i steps ++ s ∷ []) (sym c.step-item.is ∙ c.in-Plain.is)))
          (next_traced g.T.SpelledData (take i steps) c.in-Plain.step (i + 1) count c.args.world.now c.loop-step.world c.traced_step.new.world c.args.recorder.now c.loop-step.recorder c.traced_step.new.recorder plain c.loop-step.invariant.0 c.in_ok-traced_step-in-Plain.ensures.traced),
      λ formed. c.in_ok-traced_step-in-Plain.ensures.formed (c.loop-step.invariant.1 formed),
    )

pub returns-in_err-traced_step-in-Plain-clause-traced : goal.returns-in_err-traced_step-in-Plain-clause-traced
returns-in_err-traced_step-in-Plain-clause-traced g c =
    let passes = c.loop-step.invariant.0.passes in
    match_err _ _ c.from_residual.result c.from_residual.ensures.0 (kept_further_on g.T.SpelledData c.args.world.now c.loop-step.world c.traced_step.new.world passes.1.given passes.1.kept c.in_err-traced_step-in-Plain.ensures.traced)

pub returns-clause-traced : goal.returns-clause-traced
returns-clause-traced g c =
    let steps = c.args.steps.now in
    let done : length steps ≤ c.loop-step.step-index = omega (arith, c.loop-step-test.false) in
    subst (λ ss. TracesSteps g.T.SpelledData ss c.args.world.now c.loop-step.world c.args.recorder.now c.loop-step.recorder) (take_all c.loop-step.step-index steps done) c.loop-step.invariant.0
