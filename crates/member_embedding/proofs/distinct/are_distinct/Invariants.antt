use Rattle.member_embedding.specs.Names.{AreDistinctBelow}
use Rattle.member_embedding.proofs.distinct.are_distinct.Given as goal

abbrev pub invariant-loop-index : goal.invariant-loop-index
invariant-loop-index g l = AreDistinctBelow (λ decl. decl.key) l.index l.keys
