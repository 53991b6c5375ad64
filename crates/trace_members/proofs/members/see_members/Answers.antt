use Rattle.std.proofs.Common.{◌<◌, ◌≤◌, length, flat_map, sym, ap, subst, ◌∙◌, arith}
use Rattle.std.proofs.lemmas.List.{take_all}
use Rattle.trace_entries.specs.Seeing.{Sees}
use Rattle.trace_entries.proofs.SeenLines.{sees_nothing, sees_next, formed_both}
use Rattle.trace_members.proofs.SeenMembers.{member_seen, view_seen, last_is}
use Rattle.trace_members.proofs.members.see_members.Goals as goal

pub loop-member-init : goal.loop-member-init
loop-member-init g c = (λ D kinds logs here same stands. sees_nothing c.args.recorder.now, λ formed. formed)

pub loop-member-preserved : goal.loop-member-preserved
loop-member-preserved g c =
    let members = c.members-member-items.result.now in
    let inside : c.loop-member.member-index < length members = omega (arith, c.loop-member-test.true) in (
      λ D kinds logs here same stands.
          sees_next (member_seen D c.args.look here) members c.loop-member.member-index c.member-item.result c.args.recorder.now c.loop-member.recorder c.see_seat.new.recorder inside c.member-item.is
          (c.loop-member.invariant.0 D kinds logs here same stands)
          (subst (Sees c.loop-member.recorder c.see_seat.new.recorder) (ap (member_seen D c.args.look here) c.member.view_is) (c.in_ok-see_seat.ensures.saw D kinds logs here same stands)),
      formed_both c.args.recorder.now c.loop-member.recorder c.see_seat.new.recorder c.loop-member.invariant.1 c.in_ok-see_seat.ensures.formed,
    )

pub returns-clause-saw : goal.returns-clause-saw
returns-clause-saw g c = λ D kinds logs here same stands.
    let members = c.members-member-items.result.now in
    let done : length members ≤ c.loop-member.member-index = omega (arith, c.loop-member-test.false) in
    subst (Sees c.args.recorder.now c.loop-member.recorder)
    (ap (flat_map (member_seen D c.args.look here)) (take_all c.loop-member.member-index members done ∙ c.members-member-items.ensures.members)
    ∙ view_seen D c.args.look here c.last.result.now (sym (last_is here c.views.result.now (stands.views ∙ sym c.views.ensures)) ∙ sym c.last.ensures.last))
    (c.loop-member.invariant.0 D kinds logs here same stands)

pub returns-clause-formed : goal.returns-clause-formed
returns-clause-formed g c = c.loop-member.invariant.1
