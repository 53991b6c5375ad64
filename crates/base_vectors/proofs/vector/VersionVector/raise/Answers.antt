use Rattle.base_vectors.proofs.Seqs.{seqs_raised, either_way}
use Rattle.base_vectors.proofs.vector.VersionVector.raise.Goals as goal

pub invariant_of-self : goal.invariant_of-self
invariant_of-self c = either_way c.raise.result c.self.inside.numbers c.raise.new.self _ c.raise.ensures.ok c.raise.ensures.err c.self.invariant (seqs_raised _ _ _ c.requires.1 c.self.invariant)
