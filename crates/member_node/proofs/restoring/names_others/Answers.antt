use Rattle.std.proofs.Common.{◌≡◌, ◌<◌, not, ap, sym, ◌∙◌, arith, ◌&&◌}
use Rattle.member_node.proofs.Common.{identity_limit, parts_of}
use Rattle.base_vectors.proofs.Walks.{any_identity, none_more, any_at_end}
use Rattle.member_node.specs.Restoring.{is_earlier, is_named}
use Rattle.member_node.proofs.restoring.names_others.Goals as goal
use Rattle.member_node.proofs.restoring.names_others.Goals.{in-Some+else-names_other, in_default}

pub returns-then-names_other : goal.returns-then-names_other
returns-then-names_other g c =
    let few : c.in-Some.other < identity_limit = omega (arith, c.in-Some.ensures.value) in
    sym (any_identity (λ i. not (is_earlier c.args.id c.args.given i) && is_named g.T.Replica.mentioned (parts_of c.args.entry.now) i) c.in-Some.other few (sym c.names_other.ensures ∙ c.if-names_other.true))

pub loop-number-preserved : goal.loop-number-preserved
loop-number-preserved g c = elim c.match-new.branch [
  | in-Some+else-names_other w ↦
      none_more (λ i. not (is_earlier c.args.id c.args.given i) && is_named g.T.Replica.mentioned (parts_of c.args.entry.now) i) c.loop-number.number c.loop-number.invariant
      (ap (λ i. not (is_earlier c.args.id c.args.given i) && is_named g.T.Replica.mentioned (parts_of c.args.entry.now) i) (sym w.in-Some.ensures.value) ∙ sym w.names_other.ensures ∙ w.if-names_other.false)
  | in_default w ↦ absurd (let no = w.in_default.ensures.variant.1 c.loop-number-test.true in cc)
]

pub returns : goal.returns
returns g c =
    let all : c.loop-number.number ≡ identity_limit = omega arith in
    sym c.loop-number.invariant ∙ any_at_end (λ i. not (is_earlier c.args.id c.args.given i) && is_named g.T.Replica.mentioned (parts_of c.args.entry.now) i) c.loop-number.number all
