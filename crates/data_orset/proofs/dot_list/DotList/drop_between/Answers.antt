use Rattle.std.proofs.Common.{List, map, ap, ◌∙◌}
use Rattle.data_orset.specs.declared.dot_list.Spot.{Spot}
use Rattle.data_orset.specs.Spots.{placed_in}
use Rattle.data_orset.proofs.Tables.{placed_cut}
use Rattle.data_orset.proofs.dot_list.DotList.drop_between.Goals as goal

pub returns : goal.returns
returns c =
    ap (λ (ss : List Spot). map (placed_in c.self.inside.texts.items) ss) c.cut.ensures ∙ placed_cut c.self.inside.texts.items c.self.inside.spots.items c.args.self.now c.args.start c.args.end c.self.view_is
