use Rattle.std.proofs.Common.{◌≡◌}
use Rattle.data_meaning.specs.Touching.{touching}
use Rattle.data_meaning.proofs.touches.touching.Given as goal

abbrev pub invariant-loop-record : goal.invariant-loop-record
invariant-loop-record l = l.touching.items ≡ touching l.records l.element l._record-index
