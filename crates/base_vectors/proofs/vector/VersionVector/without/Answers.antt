use Rattle.std.proofs.Common.{subst, sym}
use Rattle.base_vectors.specs.Kept.{AreSeqs}
use Rattle.base_vectors.proofs.Seqs.{seqs_removed}
use Rattle.base_vectors.proofs.vector.VersionVector.without.Goals as goal

pub invariant_of-self : goal.invariant_of-self
invariant_of-self c = subst AreSeqs (sym c.without.ensures) (seqs_removed _ _ c.self.invariant)
