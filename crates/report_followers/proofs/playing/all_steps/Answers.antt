use Rattle.std.proofs.Common.{◌≡◌, ◌++◌, ◌<◌, ◌≤◌, ◌+◌, ◌∷◌, [], length, take, sym, ap, subst, ◌∙◌, string_bytes, arith}
use Rattle.std.proofs.lemmas.List.{take_more, take_all, length-take-le}
use Rattle.std.proofs.lemmas.List.Elements.{All-take}
use Rattle.script_reading.specs.WellFormed.{IsAllowed}
use Rattle.script_reading.specs.declared.clients.Clients.TheVariants.{Following}
use Rattle.world_members.proofs.Answering.{match_err}
use Rattle.report_lines.proofs.Stages.{kept_further_on}
use Rattle.report_followers.specs.Steps.{watch_steps}
use Rattle.report_followers.specs.Watching.{WatchesSteps}
use Rattle.report_followers.proofs.Going.{first_watched, next_watched}
use Rattle.report_followers.proofs.Lists.{steps_count}
use Rattle.report_followers.proofs.playing.all_steps.Goals as goal

pub loop-i-init : goal.loop-i-init
loop-i-init g c = first_watched g.T.SpelledData c.args.world.now c.args.desks.now (string_bytes c.args.text.now) c.requires.empty c.requires.nobody

pub loop-i-preserved : goal.loop-i-preserved
loop-i-preserved g c =
    let steps = c.args.steps.now in
    let i = c.loop-i.i in
    let here : i < length steps = omega (arith, c.loop-i-test.true) in
    let number : 1 + length (watch_steps (take i steps)) ≡ i + 1 =
    let n = length-take-le i steps (omega (arith, here)) in
    let k = steps_count (take i steps) (All-take (IsAllowed Following) i steps c.requires.following) in
    omega (arith, n, k) in
    subst (λ done. WatchesSteps g.T.SpelledData done c.args.world.now c.one_step.new.world c.one_step.new.desks (string_bytes c.one_step.new.text))
    (sym (take_more steps i c.index-steps-i.result here ∙ ap (λ s. take i steps ++ s ∷ []) (sym c.index-steps-i.is)))
    (next_watched g.T.SpelledData (take i steps) c.index-steps-i.result (i + 1) number c.args.world.now c.loop-i.world c.one_step.new.world c.loop-i.desks c.one_step.new.desks (string_bytes c.loop-i.text) (string_bytes c.one_step.new.text)
    c.loop-i.invariant c.in_ok-one_step.ensures)

pub returns-in_err-one_step : goal.returns-in_err-one_step
returns-in_err-one_step g c =
    let stage = c.loop-i.invariant in
    match_err _ _ c.from_residual.result c.from_residual.ensures.0 (kept_further_on g.T.SpelledData c.args.world.now c.loop-i.world c.one_step.new.world stage.given stage.kept c.in_err-one_step.ensures)

pub returns : goal.returns
returns g c =
    let steps = c.args.steps.now in
    let done : length steps ≤ c.loop-i.i = omega (arith, c.loop-i-test.false) in
    subst (λ ss. WatchesSteps g.T.SpelledData ss c.args.world.now c.loop-i.world c.loop-i.desks (string_bytes c.loop-i.text)) (take_all c.loop-i.i steps done) c.loop-i.invariant
