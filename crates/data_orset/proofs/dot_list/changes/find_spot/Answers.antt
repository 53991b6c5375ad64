use Rattle.std.proofs.Common.{◌≡◌, rules}
use Rattle.std.proofs.lemmas.Fn.{always_returns_same}
use Rattle.data_orset.specs.Spots.{spot_order}
use Rattle.data_orset.proofs.SpotOrder.{spot_found}
use Rattle.data_orset.proofs.dot_list.changes.find_spot.Goals as goal

pub returns : goal.returns
returns c =
    let facts = c.binary_search_by.ensures in
    spot_found c.args.spots.now c.args.spot.now c.binary_search_by.result c.requires facts.bound
    (facts.position (λ y. spot_order y c.args.spot.now) (always_returns_same _ (λ a r. r ≡ spot_order a.0.now c.args.spot.now) _ (λ a r f' k. search rules)))
