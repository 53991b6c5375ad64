use Rattle.std.proofs.Common.{◌<◌, ◌≤◌, ◌∙◌, length, arith, subst, ap, sym, refl}
use Rattle.thread_cell.specs.Entries.{history_at}
use Rattle.model_members.specs.View.{Member}
use Rattle.thread_run_order.specs.Finishing.{ArePassedTo}
use Rattle.thread_run_order.proofs.Finishing.{all_passed_more, all_passed_whole, place_at, read_at}
use Rattle.thread_run_order.proofs.passing.pass_all.Goals as goal

pub loop-member-init : goal.loop-member-init
loop-member-init g c = λ a b. refl

pub loop-member-preserved : goal.loop-member-preserved
loop-member-preserved g c =
    let members = c.members-member-items.result.now in
    let view = c.args.view.now in
    let sound = c.members-member-items.ensures.sound in
    let within : c.loop-member.member-index < length members = omega (arith, c.loop-member-test.true) in
    let there = read_at members view.members c.loop-member.member-index c.member-item.result within c.member-item.is c.members-member-items.ensures.members in
    let small : c.member.inside.place < 8 = subst (λ n. n < 8) (sym (ap (λ (m : Member). m.place) c.member.view_is)) (place_at view sound c.loop-member.member-index c.member-item.result there) in
    all_passed_more {keeping = g.K.Keeper} view sound c.loop-member.member-index c.member-item.result there (history_at c.args.histories.now) c.args.links.now c.loop-member.links c.pass_to.new.links c.loop-member.invariant
    (subst (λ i. ArePassedTo {keeping = g.K.Keeper} view i (history_at c.args.histories.now c.member-item.result.place) c.loop-member.links c.pass_to.new.links) (ap (λ (m : Member). m.identity) c.member.view_is)
    (subst (λ es. ArePassedTo {keeping = g.K.Keeper} view c.member.inside.id es c.loop-member.links c.pass_to.new.links) (c.history_of.ensures small ∙ ap (λ (m : Member). history_at c.args.histories.now m.place) c.member.view_is) c.in_ok-pass_to.ensures))

pub returns : goal.returns
returns g c =
    let members = c.members-member-items.result.now in
    let all : length members ≤ c.loop-member.member-index = omega (arith, c.loop-member-test.false) in
    all_passed_whole {keeping = g.K.Keeper} c.args.view.now c.loop-member.member-index (subst (λ ms. length ms ≤ c.loop-member.member-index) c.members-member-items.ensures.members all) (history_at c.args.histories.now) c.args.links.now c.loop-member.links c.loop-member.invariant
