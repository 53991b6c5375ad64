use Rattle.std.proofs.Common.{◌≡◌, ◌<◌, ap, sym, ◌∙◌, arith}
use Rattle.model_history.specs.Table.{identity_limit}
use Rattle.base_vectors.proofs.Walks.{any_identity, none_more, any_at_end}
use Rattle.data_markers.specs.Marks.{mark_of}
use Rattle.member_acceptance.specs.Naming.{is_late, has_late_mark}
use Rattle.member_acceptance.proofs.naming.has_late_mark.Goals as goal
use Rattle.member_acceptance.proofs.naming.has_late_mark.Goals.{in-Some+else-is_late, in_default}

pub returns-then-is_late : goal.returns-then-is_late
unfolding has_late_mark
returns-then-is_late c =
    let few : c.in-Some.removed < identity_limit = omega (arith, c.in-Some.ensures.value) in
    sym (any_identity (λ r. is_late c.args.view (mark_of c.args.markers.now r)) c.in-Some.removed few (sym c.is_late.ensures ∙ c.if-is_late.true))

pub loop-number-preserved : goal.loop-number-preserved
loop-number-preserved c = elim c.match-new.branch [
  | in-Some+else-is_late w ↦
      none_more (λ r. is_late c.args.view (mark_of c.args.markers.now r)) c.loop-number.number c.loop-number.invariant
      (ap (λ r. is_late c.args.view (mark_of c.args.markers.now r)) (sym w.in-Some.ensures.value) ∙ sym w.is_late.ensures ∙ w.if-is_late.false)
  | in_default w ↦ absurd (let no = w.in_default.ensures.variant.1 c.loop-number-test.true in cc)
]

pub returns : goal.returns
unfolding has_late_mark
returns c =
    let all : c.loop-number.number ≡ identity_limit = omega arith in
    sym c.loop-number.invariant ∙ any_at_end (λ r. is_late c.args.view (mark_of c.args.markers.now r)) c.loop-number.number all
