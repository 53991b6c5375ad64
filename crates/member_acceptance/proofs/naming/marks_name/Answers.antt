use Rattle.std.proofs.Common.{◌≡◌, ◌<◌, ◌≤◌, ap, sym, ◌∙◌, arith}
use Rattle.model_history.specs.Table.{identity_limit}
use Rattle.base_vectors.proofs.Walks.{any_identity, none_more, any_end}
use Rattle.data_markers.specs.Marks.{mark_of}
use Rattle.member_acceptance.specs.Naming.{names_at}
use Rattle.member_acceptance.proofs.naming.marks_name.Goals as goal
use Rattle.member_acceptance.proofs.naming.marks_name.Goals.{in-Some+else-names_at, in_default}

pub returns-then-names_at : goal.returns-then-names_at
returns-then-names_at c =
    let few : c.in-Some.removed < identity_limit = omega (arith, c.in-Some.ensures.value, c.loop-number-test.true, c.limit-number-end.ensures.range) in
    sym (any_identity (λ r. names_at r (mark_of c.args.markers.now r) c.args.id) c.in-Some.removed few (sym c.names_at.ensures ∙ c.if-names_at.true))

pub loop-number-preserved : goal.loop-number-preserved
loop-number-preserved c = elim c.match-new.branch [
  | in-Some+else-names_at w ↦
      none_more (λ r. names_at r (mark_of c.args.markers.now r) c.args.id) c.loop-number.number c.loop-number.invariant
      (ap (λ r. names_at r (mark_of c.args.markers.now r) c.args.id) (sym w.in-Some.ensures.value) ∙ sym w.names_at.ensures ∙ w.if-names_at.false)
  | in_default w ↦ absurd (let no = w.in_default.ensures.variant.1 (omega (arith, c.loop-number-test.true, c.limit-number-end.ensures.range)) in cc)
]

pub returns : goal.returns
returns c =
    let few : c.loop-number.number ≤ identity_limit = omega (arith, c.loop-number.auto.number-end, c.limit-number-end.ensures.range) in
    sym c.loop-number.invariant ∙ any_end (λ r. names_at r (mark_of c.args.markers.now r) c.args.id) c.loop-number.number few
    (λ r from. ap (λ o. names_at r o c.args.id) (c.limit-number-end.ensures.above r (omega (arith, c.loop-number-test.false, from))))
