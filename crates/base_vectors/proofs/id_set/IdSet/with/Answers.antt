use Rattle.std.proofs.Common.{ap, ◌∙◌, arith, bit_or, ◌%◌, ◌^◌}
use Rattle.std.proofs.lemmas.Nat.{one_shl}
use Rattle.base_vectors.specs.IdSets.{members_in}
use Rattle.base_vectors.proofs.Sets.{members_in-with}
use Rattle.base_vectors.proofs.SetWords.{with_id, with_is_set}
use Rattle.base_vectors.proofs.id_set.IdSet.with.Goals as goal

pub invariant_of-result : goal.invariant_of-result
invariant_of-result c = rw (c.from.ensures, one_shl (c.number-number.result % 64) 64 (omega arith)) (with_is_set c.self.inside.words c.number-number.result c.self.invariant (omega arith))

pub returns-clause-bits : goal.returns-clause-bits
returns-clause-bits c = rw (c.from.ensures, one_shl (c.number-number.result % 64) 64 (omega arith)) (
    with_id c.self.inside.words c.number-number.result c.self.invariant (omega arith)
    ∙ ap (λ n. bit_or n (2 ^ c.number-number.result)) c.self.view_is ∙ ap (λ k. bit_or c.args.self (2 ^ k)) c.number-number.ensures.value)

pub returns-clause-members : goal.returns-clause-members
returns-clause-members c = λ i. ap (λ n. members_in n i) (returns-clause-bits c) ∙ members_in-with c.args.self c.args.id i
