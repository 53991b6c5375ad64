use Rattle.std.proofs.Common.{◌≡◌, ◌++◌, drop}
use Rattle.std.specs.List.{filter}
use Rattle.data_orset.specs.Placing.{key_of}
use Rattle.data_orset.proofs.dots.append_kept.Given as goal

abbrev pub invariant-loop-index : goal.invariant-loop-index
invariant-loop-index g l = l.all ++ filter (λ p. g.R.Rule.keeps l.rule (key_of p)) (drop l.index l.dots) ≡ l.fn.all ++ filter (λ p. g.R.Rule.keeps l.rule (key_of p)) (drop l.from l.dots)
