use Rattle.std.proofs.Common.{length, ◌-◌, ◌+◌}
use Rattle.data_orset.specs.Placing.{key_of}
use Rattle.data_orset.proofs.Merging.{IsMerging}
use Rattle.data_orset.proofs.dots.merged.Given as goal

abbrev pub invariant-loop-here : goal.invariant-loop-here
invariant-loop-here g l = IsMerging l.both (λ p. g.M.Rule.keeps l.my_rule (key_of p)) (λ p. g.T.Rule.keeps l.their_rule (key_of p)) l.mine l.theirs l.all l.here l.there

abbrev pub decreases-loop-here : goal.decreases-loop-here
decreases-loop-here g l = (length l.mine - l.here) + (length l.theirs - l.there)
