use Rattle.std.proofs.Common.{ap, ◌∙◌, ◌++◌}
use Rattle.data_orset.specs.Placing.{nth}
use Rattle.base_bytes.specs.Spelling.{text_spelled}
use Rattle.data_orset.specs.Elements.{dot_spelled}
use Rattle.data_orset.proofs.Passes.{spelled_next, element_is}
use Rattle.data_orset.proofs.spelling.spell_element.Goals as goal

pub loop-index-preserved : goal.loop-index-preserved
loop-index-preserved c =
    spelled_next c.args.dots.now c.loop-index.index c.args.end c.loop-index.into.items c.spell_dot.new.into.items _ c.loop-index-test.true c.requires.within
    (c.in_ok-spell_dot.ensures ∙ ap (λ d. c.loop-index.into.items ++ dot_spelled d) c.dot.ensures) c.loop-index.invariant

pub returns : goal.returns
returns c =
    element_is c.args.dots.now c.args.start c.args.end c.loop-index.index (nth c.args.dots.now c.args.start).element c.args.into.now.items c.spell.new.into.items c.spell-2.new.into.items c.loop-index.into.items
    c.requires.some c.requires.within c.loop-index-test.false (c.in_ok-spell.ensures.ok ∙ ap (λ e. c.args.into.now.items ++ text_spelled e) c.element.ensures) c.in_ok-spell-2.ensures.ok c.loop-index.invariant
