use Rattle.std.proofs.Common.{◌≡◌, ◌<◌, ap, sym, ◌∙◌, arith}
use Rattle.std.specs.Prelude.{nat_le, ◌&&◌}
use Rattle.model_history.specs.Table.{identity_limit}
use Rattle.base_vectors.proofs.Walks.{any_identity, none_more, any_at_end}
use Rattle.data_envelope.specs.Words.{parts_of}
use Rattle.member_acceptance.specs.Naming.{is_named, names_later}
use Rattle.member_acceptance.proofs.naming.names_later.Goals as goal
use Rattle.member_acceptance.proofs.naming.names_later.Goals.{in-Some+else-names_ungiven, in_default}

pub returns-then-names_ungiven : goal.returns-then-names_ungiven
unfolding names_later
returns-then-names_ungiven g c =
    let few : c.in-Some.id < identity_limit = omega (arith, c.in-Some.ensures.value) in
    sym (any_identity (λ i. nat_le c.args.given i && is_named g.T.Replica.mentioned (parts_of c.args.entry.now) i) c.in-Some.id few (sym c.names_ungiven.ensures ∙ c.if-names_ungiven.true))

pub loop-number-preserved : goal.loop-number-preserved
loop-number-preserved g c = elim c.match-new.branch [
  | in-Some+else-names_ungiven w ↦
      none_more (λ i. nat_le c.args.given i && is_named g.T.Replica.mentioned (parts_of c.args.entry.now) i) c.loop-number.number c.loop-number.invariant
      (ap (λ i. nat_le c.args.given i && is_named g.T.Replica.mentioned (parts_of c.args.entry.now) i) (sym w.in-Some.ensures.value) ∙ sym w.names_ungiven.ensures ∙ w.if-names_ungiven.false)
  | in_default w ↦ absurd (let no = w.in_default.ensures.variant.1 c.loop-number-test.true in cc)
]

pub returns : goal.returns
unfolding names_later
returns g c =
    let all : c.loop-number.number ≡ identity_limit = omega arith in
    sym c.loop-number.invariant ∙ any_at_end (λ i. nat_le c.args.given i && is_named g.T.Replica.mentioned (parts_of c.args.entry.now) i) c.loop-number.number all
