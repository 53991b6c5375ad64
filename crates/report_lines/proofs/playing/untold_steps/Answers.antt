use Rattle.std.proofs.Common.{◌≡◌, ◌<◌, ◌≤◌, ◌+◌, ◌∷◌, ◌++◌, [], suc, length, take, sym, ap, subst, ◌∙◌, arith}
use Rattle.std.proofs.lemmas.List.{take_more, take_all, length-take-le}
use Rattle.world_members.proofs.Answering.{match_err}
use Rattle.report_lines.specs.Telling.{PassesSteps}
use Rattle.report_lines.proofs.Stages.{kept_further_on, first_passed, next_passed}
use Rattle.report_lines.proofs.playing.untold_steps.Goals as goal

pub loop-step-init : goal.loop-step-init
loop-step-init g c = first_passed g.T.SpelledData c.args.world.now

pub loop-step-preserved : goal.loop-step-preserved
loop-step-preserved g c =
    let steps = c.args.steps.now in
    let i = c.loop-step.step-index in
    let here : i < length steps = omega (arith, c.loop-step-test.true) in
    let count : i + 1 ≡ suc (length (take i steps)) = let n = length-take-le i steps (omega (arith, here)) in omega (arith, n) in
    subst (λ done. PassesSteps g.T.SpelledData done c.args.world.now c.step.new.self) (sym (take_more steps i c.step-item.result here ∙ ap (λ s. take i steps ++ s ∷ []) (sym c.step-item.is ∙ c.in-Plain.is)))
    (next_passed g.T.SpelledData (take i steps) c.in-Plain.step (i + 1) count c.args.world.now c.loop-step.world c.step.new.self _ c.loop-step.invariant c.in_ok-step-in-Plain.ensures)

pub returns-in_err-step-in-Plain : goal.returns-in_err-step-in-Plain
returns-in_err-step-in-Plain g c =
    let passes = c.loop-step.invariant in
    match_err _ _ c.from_residual.result c.from_residual.ensures.0 (kept_further_on g.T.SpelledData c.args.world.now c.loop-step.world c.step.new.self passes.1.given passes.1.kept c.in_err-step-in-Plain.ensures.kept)

pub returns : goal.returns
returns g c =
    let steps = c.args.steps.now in
    let done : length steps ≤ c.loop-step.step-index = omega (arith, c.loop-step-test.false) in
    subst (λ ss. PassesSteps g.T.SpelledData ss c.args.world.now c.loop-step.world) (take_all c.loop-step.step-index steps done) c.loop-step.invariant
