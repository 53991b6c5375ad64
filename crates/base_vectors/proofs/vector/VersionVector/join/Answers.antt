use Rattle.base_vectors.proofs.Seqs.{seqs_joined, either_way}
use Rattle.base_vectors.proofs.vector.VersionVector.join.Goals as goal

pub invariant_of-self : goal.invariant_of-self
invariant_of-self c = either_way c.join.result c.self.inside.numbers c.join.new.self _ c.join.ensures.ok c.join.ensures.err c.self.invariant (seqs_joined _ _ c.self.invariant c.other.invariant)
