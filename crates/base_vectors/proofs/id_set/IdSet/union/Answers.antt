use Rattle.std.proofs.Common.{ap, ◌∙◌, bit_or}
use Rattle.base_vectors.specs.IdSets.{members_in, bits_of}
use Rattle.base_vectors.proofs.Sets.{members_in-or}
use Rattle.base_vectors.proofs.SetWords.{or_of_words, or_is_set}
use Rattle.base_vectors.proofs.id_set.IdSet.union.Goals as goal

pub invariant_of-result : goal.invariant_of-result
invariant_of-result c = or_is_set c.self.inside.words c.other.inside.words c.self.invariant c.other.invariant

pub returns-clause-bits : goal.returns-clause-bits
returns-clause-bits c = or_of_words c.self.inside.words c.other.inside.words c.self.invariant c.other.invariant
    ∙ ap (λ n. bit_or n (bits_of c.other.inside.words)) c.self.view_is ∙ ap (bit_or c.args.self) c.other.view_is

pub returns-clause-members : goal.returns-clause-members
returns-clause-members c = λ i. ap (λ n. members_in n i) (returns-clause-bits c) ∙ members_in-or c.args.self c.args.other i
