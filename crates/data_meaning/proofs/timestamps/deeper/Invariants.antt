use Rattle.std.proofs.Common.{◌≡◌, ℕ, ◌+◌, ◌≤◌, take, map, All}
use Rattle.std.specs.List.{zip}
use Rattle.model_meanings.specs.Refusal.{greatest_share}
use Rattle.data_meaning.specs.Stamping.{timestamp_by}
use Rattle.data_meaning.proofs.timestamps.deeper.Given as goal

abbrev pub invariant-loop-record : goal.invariant-loop-record
invariant-loop-record l = record {
  value : l.more.items ≡ map (λ r. timestamp_by (zip l.records l.timestamps) r.past r.action) (take l.record-index l.records);
  range : (limit : ℕ) → greatest_share ≤ limit → All (λ t. t ≤ limit) l.timestamps → All (λ t. t ≤ limit + 1) l.more.items;
}
