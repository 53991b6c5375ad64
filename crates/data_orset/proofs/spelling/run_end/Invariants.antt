use Rattle.std.proofs.Common.{◌≡◌, ◌+◌, drop}
use Rattle.data_orset.specs.Placing.{nth}
use Rattle.data_orset.specs.Runs.{run}
use Rattle.data_orset.proofs.spelling.run_end.Given as goal

abbrev pub invariant-loop-end : goal.invariant-loop-end
invariant-loop-end l = l.end + run (nth l.dots l.start).element (drop l.end l.dots) ≡ l.start + run (nth l.dots l.start).element (drop l.start l.dots)
