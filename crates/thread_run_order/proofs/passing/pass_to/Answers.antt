use Rattle.std.proofs.Common.{◌<◌, ◌≤◌, length, arith, subst, ap}
use Rattle.model_members.specs.View.{Member}
use Rattle.world_places.specs.Channels.{ChangesOne}
use Rattle.thread_run_order.specs.Section.{taken_from}
use Rattle.thread_run_order.specs.Finishing.{after_taken}
use Rattle.thread_run_order.proofs.Finishing.{passed_none, passed_first, passed_more, passed_whole, read_at}
use Rattle.thread_run_order.proofs.passing.pass_to.Goals as goal

pub returns-then-takes_none : goal.returns-then-takes_none
returns-then-takes_none g c = passed_none {keeping = g.K.Keeper} c.args.view.now c.args.to c.args.history.now c.args.links.now (c.takes_none.ensures c.if-takes_none.true)

pub loop-member-init : goal.loop-member-init
loop-member-init g c = passed_first {keeping = g.K.Keeper} c.args.view.now c.members-member-items.ensures.sound c.args.to c.args.history.now c.args.links.now

pub loop-member-preserved : goal.loop-member-preserved
loop-member-preserved g c =
    let members = c.members-member-items.result.now in
    let within : c.loop-member.member-index < length members = omega (arith, c.loop-member-test.true) in
    passed_more {keeping = g.K.Keeper} c.args.view.now c.members-member-items.ensures.sound c.loop-member.member-index c.args.to c.member-item.result
    (read_at members c.args.view.now.members c.loop-member.member-index c.member-item.result within c.member-item.is c.members-member-items.ensures.members) c.args.history.now c.args.links.now c.loop-member.links c.pass_on.new.links c.loop-member.invariant
    (subst (λ i. ChangesOne (after_taken (length (taken_from {keeping = g.K.Keeper} i c.args.history.now))) i c.args.to c.loop-member.links c.pass_on.new.links) (ap (λ (m : Member). m.identity) c.member.view_is) c.in_ok-pass_on.ensures)

pub returns : goal.returns
returns g c =
    let members = c.members-member-items.result.now in
    let all : length members ≤ c.loop-member.member-index = omega (arith, c.loop-member-test.false) in
    passed_whole {keeping = g.K.Keeper} c.args.view.now c.loop-member.member-index (subst (λ ms. length ms ≤ c.loop-member.member-index) c.members-member-items.ensures.members all) c.args.to c.args.history.now c.args.links.now c.loop-member.links c.loop-member.invariant
