use Rattle.std.proofs.Common.{ap, sym, ◌∙◌}
use Rattle.std.specs.List.{list_any}
use Rattle.std.specs.Str.{bytes_eq}
use Rattle.data_orset.specs.Placing.{Placed}
use Rattle.data_orset.specs.Spots.{placed_in}
use Rattle.data_orset.proofs.Changes.{any_map}
use Rattle.data_orset.proofs.dot_list.DotList.forget.Goals as goal

pub forget-requires-clause-unused : goal.forget-requires-clause-unused
forget-requires-clause-unused c =
    sym (any_map (λ (p : Placed). bytes_eq c.args.element.now p.element) (placed_in c.self.inside.texts.items) c.self.inside.spots.items)
    ∙ ap (list_any (λ (p : Placed). bytes_eq c.args.element.now p.element)) c.self.view_is ∙ c.requires
