use Rattle.std.proofs.Common.{List, map, ap, take, drop, ◌++◌, ◌∷◌, ◌∙◌}
use Rattle.model_history.specs.Texts.{Text}
use Rattle.data_orset.specs.declared.dot_list.Spot.{Spot}
use Rattle.data_orset.specs.Placing.{at_dot}
use Rattle.data_orset.specs.Spots.{placed_in}
use Rattle.data_orset.proofs.Tables.{placed_put}
use Rattle.data_orset.proofs.dot_list.DotList.replace.Goals as goal

pub returns-clause-ok : goal.returns-clause-ok
returns-clause-ok c =
    let spot : Spot = record { place = c.in_ok-place.place; dot = c.args.dot.now } in
    ap (λ (ss : List Spot). map (placed_in c.intern.new.texts.items) ss) c.in_ok-replace.ensures.ok
    ∙ placed_put c.intern.new.texts.items c.intern.new.spots.items c.args.self.now c.args.start c.args.end spot (c.in_ok-place.ensures.same ∙ c.self.view_is)
    ∙ ap (λ (e : Text). take c.args.start c.args.self.now ++ at_dot c.args.dot.now e ∷ drop c.args.end c.args.self.now) c.in_ok-place.ensures.place.1
