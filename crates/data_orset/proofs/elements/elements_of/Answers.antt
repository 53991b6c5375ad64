use Rattle.std.proofs.Common.{arith, List, [], ◌∷◌, ◌++◌, take, sym, ◌∙◌, ap, if◌then◌else◌}
use Rattle.model_history.specs.Texts.{Text, text_set}
use Rattle.data_orset.specs.Keeping.{texts_of}
use Rattle.data_orset.specs.Placing.{nth}
use Rattle.data_orset.proofs.ElementsInOrder.{elements_more}
use Rattle.data_orset.proofs.Tables.{nth_at}
use Rattle.data_orset.proofs.elements.elements_of.Goals as goal

pub loop-index-preserved : goal.loop-index-preserved
loop-index-preserved c =
    c.in_ok-append_text.ensures ∙ ap (λ (all : List Text). all ++ (if c.is_first.result then c.element.result.now ∷ [] else [])) c.loop-index.invariant
    ∙ ap (λ (e : Text). text_set (texts_of (take c.loop-index.index c.args.dots.now)) ++ (if c.is_first.result then e ∷ [] else [])) c.element.ensures
    ∙ sym (elements_more c.args.dots.now c.loop-index.index (nth c.args.dots.now c.loop-index.index) c.is_first.result c.requires (omega (arith, c.loop-index-test.true, c.len-index-end.ensures)) (nth_at c.args.dots.now c.loop-index.index (omega (arith, c.loop-index-test.true, c.len-index-end.ensures))) c.is_first.ensures)
