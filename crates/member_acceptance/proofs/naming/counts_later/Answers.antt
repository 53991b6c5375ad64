use Rattle.std.proofs.Common.{◌≡◌, ◌<◌, ap, sym, ◌∙◌, arith}
use Rattle.std.specs.Prelude.{nat_le, nat_lt, ◌&&◌}
use Rattle.model_history.specs.Table.{identity_limit}
use Rattle.base_vectors.proofs.Walks.{any_identity, none_more, any_at_end}
use Rattle.base_vectors.specs.Vectors.{number_at}
use Rattle.member_acceptance.specs.Naming.{counts_later}
use Rattle.member_acceptance.proofs.naming.counts_later.Goals as goal
use Rattle.member_acceptance.proofs.naming.counts_later.Goals.{in-Some+else-counts_ungiven, in_default}

pub returns-then-counts_ungiven : goal.returns-then-counts_ungiven
unfolding counts_later
returns-then-counts_ungiven c =
    let few : c.in-Some.id < identity_limit = omega (arith, c.in-Some.ensures.value) in
    sym (any_identity (λ i. nat_le c.args.given i && nat_lt 0 (number_at c.args.numbers.now i)) c.in-Some.id few (sym c.counts_ungiven.ensures ∙ c.if-counts_ungiven.true))

pub loop-number-preserved : goal.loop-number-preserved
loop-number-preserved c = elim c.match-new.branch [
  | in-Some+else-counts_ungiven w ↦
      none_more (λ i. nat_le c.args.given i && nat_lt 0 (number_at c.args.numbers.now i)) c.loop-number.number c.loop-number.invariant
      (ap (λ i. nat_le c.args.given i && nat_lt 0 (number_at c.args.numbers.now i)) (sym w.in-Some.ensures.value) ∙ sym w.counts_ungiven.ensures ∙ w.if-counts_ungiven.false)
  | in_default w ↦ absurd (let no = w.in_default.ensures.variant.1 c.loop-number-test.true in cc)
]

pub returns : goal.returns
unfolding counts_later
returns c =
    let all : c.loop-number.number ≡ identity_limit = omega arith in
    sym c.loop-number.invariant ∙ any_at_end (λ i. nat_le c.args.given i && nat_lt 0 (number_at c.args.numbers.now i)) c.loop-number.number all
