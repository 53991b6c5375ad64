use Rattle.base_vectors.proofs.Seqs.{seqs_empty}
use Rattle.base_vectors.proofs.vector.VersionVector.new.Goals as goal

pub invariant_of-result : goal.invariant_of-result
invariant_of-result c = seqs_empty c.new.result c.new.ensures
