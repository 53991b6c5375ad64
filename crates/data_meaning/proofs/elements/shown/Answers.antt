use Rattle.std.proofs.Common.{◌++◌, [], ◌∷◌, List, filter, take, ap, sym, ◌∙◌}
use Rattle.std.proofs.lemmas.List.{take_all, take_more}
use Rattle.std.proofs.lemmas.List.Elements.{filter-append}
use Rattle.model_history.specs.Texts.{Text}
use Rattle.data_meaning.specs.Touching.{is_shown}
use Rattle.data_meaning.proofs.elements.shown.Goals as goal

pub loop-element-preserved : goal.loop-element-preserved
loop-element-preserved c =
    let before : List Text = take c.loop-element.element-index c.args.elements.now in
    c.in_ok-append_shown.ensures ∙ ap (λ (ts : List Text). ts ++ filter (is_shown c.args.records.now) (c.element-item.result ∷ [])) c.loop-element.invariant
    ∙ sym (filter-append (is_shown c.args.records.now) before (c.element-item.result ∷ []))
    ∙ ap (filter (is_shown c.args.records.now)) (ap (λ (t : Text). before ++ t ∷ []) c.element-item.is ∙ sym (take_more c.args.elements.now c.loop-element.element-index c.element-item.result c.loop-element-test.true))

pub returns : goal.returns
returns c = c.loop-element.invariant ∙ ap (filter (is_shown c.args.records.now)) (take_all c.loop-element.element-index c.args.elements.now c.loop-element-test.false)
