use Rattle.std.proofs.Common.{rules}
use Rattle.std.specs.Prelude.{nat_le}
use Rattle.std.proofs.lemmas.List.Sorted.{IsPartitionPoint-from_clause}
use Rattle.trace_values.proofs.RisingLaws.{parted, last_none, last_some}
use Rattle.trace_values.proofs.rising.last_counted.Goals as goal

pub returns-then-place-eq0 : goal.returns-then-place-eq0
returns-then-place-eq0 c =
    let facts = c.partition_point-place.ensures in
    last_none c.args.numbers.now c.args.count c.partition_point-place.result facts.bound
    (IsPartitionPoint-from_clause (λ n. nat_le n c.args.count) c.args.numbers.now c.partition_point-place.result facts.partitioned (parted c.args.numbers.now c.args.count c.requires) (λ a r f' k. search rules))
    c.if-place-eq0.true

pub returns-else-place-eq0 : goal.returns-else-place-eq0
returns-else-place-eq0 c =
    let facts = c.partition_point-place.ensures in
    last_some c.args.numbers.now c.args.count c.partition_point-place.result facts.bound
    (IsPartitionPoint-from_clause (λ n. nat_le n c.args.count) c.args.numbers.now c.partition_point-place.result facts.partitioned (parted c.args.numbers.now c.args.count c.requires) (λ a r f' k. search rules))
    c.if-place-eq0.false
