use Rattle.std.proofs.Common.{◌≡◌, ◌++◌, ◌<◌, ◌≤◌, ◌+◌, ◌∷◌, [], suc, length, take, sym, ap, subst, ◌∙◌, string_bytes, arith}
use Rattle.std.proofs.lemmas.List.{take_more, take_all, length-take-le}
use Rattle.script_reading.specs.declared.clients.RunStep.TheVariants as form
use Rattle.world_members.proofs.Answering.{match_err}
use Rattle.report_lines.specs.Telling.{TellsSteps}
use Rattle.report_lines.proofs.Stages.{kept_further_on, first_steps, next_steps}
use Rattle.report_lines.proofs.playing.plain_steps.Goals as goal

pub loop-i-init : goal.loop-i-init
loop-i-init g c = first_steps g.T.SpelledData c.args.world.now (string_bytes c.args.text.now) c.requires.empty

pub loop-i-preserved : goal.loop-i-preserved
loop-i-preserved g c =
    let steps = c.args.steps.now in
    let i = c.loop-i.i in
    let here : i < length steps = omega (arith, c.loop-i-test.true) in
    let count : i + 1 ≡ suc (length (take i steps)) = let n = length-take-le i steps (omega (arith, here)) in omega (arith, n) in
    subst (λ done. TellsSteps g.T.SpelledData done c.args.world.now c.plain_step.new.world (string_bytes c.plain_step.new.text))
    (sym (take_more steps i c.index-steps-i.result here ∙ ap (λ s. take i steps ++ s ∷ []) (sym c.index-steps-i.is ∙ c.in-Plain.is)))
    (next_steps g.T.SpelledData (take i steps) (form.Plain c.in-Plain.step) (i + 1) count c.args.world.now c.loop-i.world c.plain_step.new.world (string_bytes c.loop-i.text) (string_bytes c.plain_step.new.text) c.loop-i.invariant c.in_ok-plain_step-in-Plain.ensures)

pub returns-in_err-plain_step-in-Plain : goal.returns-in_err-plain_step-in-Plain
returns-in_err-plain_step-in-Plain g c =
    let stage = c.loop-i.invariant in
    match_err _ _ c.from_residual.result c.from_residual.ensures.0 (kept_further_on g.T.SpelledData c.args.world.now c.loop-i.world c.plain_step.new.world stage.given stage.kept c.in_err-plain_step-in-Plain.ensures)

pub returns : goal.returns
returns g c =
    let steps = c.args.steps.now in
    let done : length steps ≤ c.loop-i.i = omega (arith, c.loop-i-test.false) in
    subst (λ ss. TellsSteps g.T.SpelledData ss c.args.world.now c.loop-i.world (string_bytes c.loop-i.text)) (take_all c.loop-i.i steps done) c.loop-i.invariant
