use Rattle.std.proofs.Common.{◌≡◌, ◌++◌, ◌<◌, ◌≤◌, ◌+◌, ◌∷◌, [], suc, length, take, sym, ap, subst, ◌∙◌, string_bytes, arith}
use Rattle.std.proofs.lemmas.List.{take_more, take_all, length-take-le}
use Rattle.report_lines.specs.Telling.{TellsSteps}
use Rattle.report_lines.proofs.Stages.{all_kept, first_steps, next_steps, back_further}
use Rattle.report_lines.proofs.sections.steps_told.Goals as goal

pub loop-i-init : goal.loop-i-init
loop-i-init g c = first_steps g.T.SpelledData c.args.first (string_bytes c.args.text.now) c.requires.empty

pub returns-in-Err : goal.returns-in-Err
returns-in-Err g c =
    let stage = c.loop-i.invariant in
    back_further c.args.first c.loop-i.world c.in-Err.keepers.items (all_kept g.T.SpelledData c.args.first c.loop-i.world stage.given stage.kept) c.in-Err.ensures

pub loop-i-preserved : goal.loop-i-preserved
loop-i-preserved g c =
    let steps = c.args.steps.now in
    let i = c.loop-i.i in
    let here : i < length steps = omega (arith, c.loop-i-test.true) in
    let step = c.index-steps-i.result in
    let count : i + 1 ≡ suc (length (take i steps)) = let n = length-take-le i steps (omega (arith, here)) in omega (arith, n) in
    subst (λ done. TellsSteps g.T.SpelledData done c.args.first c.in-Ok.next (string_bytes c.one_step.new.text)) (sym (take_more steps i step here ∙ ap (λ s. take i steps ++ s ∷ []) (sym c.index-steps-i.is)))
    (next_steps g.T.SpelledData (take i steps) step (i + 1) count c.args.first c.loop-i.world c.in-Ok.next (string_bytes c.loop-i.text) (string_bytes c.one_step.new.text) c.loop-i.invariant c.in-Ok.ensures)

pub returns : goal.returns
returns g c =
    let steps = c.args.steps.now in
    let done : length steps ≤ c.loop-i.i = omega (arith, c.loop-i-test.false) in
    subst (λ ss. TellsSteps g.T.SpelledData ss c.args.first c.loop-i.world (string_bytes c.loop-i.text)) (take_all c.loop-i.i steps done) c.loop-i.invariant
