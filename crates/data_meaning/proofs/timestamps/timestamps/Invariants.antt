use Rattle.std.proofs.Common.{◌≡◌, ◌+◌, ◌≤◌, All}
use Rattle.model_meanings.specs.Refusal.{greatest_share}
use Rattle.data_meaning.specs.Stamping.{timestamps}
use Rattle.data_meaning.proofs.timestamps.timestamps.Given as goal

abbrev pub invariant-loop-record : goal.invariant-loop-record
invariant-loop-record l = record {
  value : l.timestamps.items ≡ timestamps l.records l._record-index;
  range : All (λ t. t ≤ greatest_share + l._record-index) l.timestamps.items;
}
