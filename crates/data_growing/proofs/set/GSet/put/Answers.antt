use Rattle.std.proofs.Common.{[], ◌∷◌, ◌++◌, ap, ◌∙◌}
use Rattle.std.specs.List.{insert}
use Rattle.data_growing.proofs.Merging.{rising_either, rising_of_set}
use Rattle.data_growing.proofs.set.GSet.put.Goals as goal

pub invariant_of-self : goal.invariant_of-self
invariant_of-self c =
    rising_either _ (insert c.self.inside.elements.items c.args.index c.copied-copy.result) c.self.inside.elements.items _ c.insert.ensures.items
    (rising_of_set _ (c.args.self.now ++ c.args.element.now ∷ []) (ap (insert c.self.inside.elements.items c.args.index) c.copied-copy.ensures ∙ ap (λ xs. insert xs c.args.index c.args.element.now) c.self.view_is ∙ c.requires.sorted))
    c.self.invariant
