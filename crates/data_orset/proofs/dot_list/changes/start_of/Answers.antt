use Rattle.std.proofs.Common.{rules, nat_lt}
use Rattle.std.proofs.lemmas.List.Sorted.{IsPartitionPoint-from_clause}
use Rattle.data_orset.proofs.SpotOrder.{bound_is, places_parted}
use Rattle.data_orset.proofs.dot_list.changes.start_of.Goals as goal

pub returns : goal.returns
returns c =
    let facts = c.partition_point.ensures in
    bound_is (λ s. nat_lt s.place c.args.place) c.args.spots.now c.partition_point.result facts.bound
    (IsPartitionPoint-from_clause (λ s. nat_lt s.place c.args.place) c.args.spots.now c.partition_point.result facts.partitioned (places_parted c.args.spots.now c.args.place c.requires) (λ a r f' k. search rules))
