use Rattle.std.proofs.Common.{ap, ◌∙◌, arith}
use Rattle.base_vectors.specs.IdSets.{members_in, member_count, bits_of}
use Rattle.base_vectors.proofs.Sets.{ones_are_members}
use Rattle.base_vectors.proofs.SetWords.{ones_of_words}
use Rattle.base_vectors.proofs.Readings.{count_small}
use Rattle.base_vectors.proofs.id_set.IdSet.len.Goals as goal

pub returns-clause-value : goal.returns-clause-value
returns-clause-value c = ones_of_words c.self.inside.words c.self.invariant ∙ ones_are_members (bits_of c.self.inside.words) c.self.invariant.members
    ∙ ap (λ n. member_count (members_in n)) c.self.view_is

pub returns-clause-range : goal.returns-clause-range
returns-clause-range c =
    let members = ones_of_words c.self.inside.words c.self.invariant ∙ ones_are_members (bits_of c.self.inside.words) c.self.invariant.members in
    omega (arith, members, count_small (members_in (bits_of c.self.inside.words)))
