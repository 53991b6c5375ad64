use Rattle.std.proofs.Common.{◌+◌, List, subst, ap, ◌∙◌, refl}
use Rattle.data_orset.specs.declared.dot_list.Spot.{Spot}
use Rattle.data_orset.specs.Spots.{dots_in, IsAlone}
use Rattle.data_orset.proofs.Tables.{placed_cut}
use Rattle.data_orset.proofs.SpotOrder.{unused_after}
use Rattle.data_orset.proofs.dot_list.changes.drop_spot.Goals as goal

pub drop_text-requires-clause-unused : goal.drop_text-requires-clause-unused
drop_text-requires-clause-unused c =
    unused_after c.args.texts.now.items c.args.spots.now.items c.args.index c.requires.spots c.requires.dots c.requires.inside
    (subst (λ (ss : List Spot). IsAlone ss c.args.index) c.deref.ensures.value (c.is_alone-alone.ensures c.if-alone.true)) c.remove-spot.new.self.items c.remove-spot.result c.remove-spot.ensures.value c.remove-spot.ensures.by_index.2

pub returns-then-alone-clause-rest : goal.returns-then-alone-clause-rest
returns-then-alone-clause-rest c =
    c.drop_text.ensures.same ∙ ap (dots_in c.args.texts.now.items) c.remove-spot.ensures.by_index.2 ∙ placed_cut c.args.texts.now.items c.args.spots.now.items _ c.args.index (c.args.index + 1) refl

pub returns-else-alone-clause-rest : goal.returns-else-alone-clause-rest
returns-else-alone-clause-rest c =
    ap (dots_in c.args.texts.now.items) c.remove-spot.ensures.by_index.2 ∙ placed_cut c.args.texts.now.items c.args.spots.now.items _ c.args.index (c.args.index + 1) refl
