use Rattle.std.proofs.Common.{◌≡◌, ◌<◌, ◌+◌, ℕ, List, [], ◌∷◌, ◌++◌, length, get_or, take, ap, sym, ◌∙◌}
use Rattle.std.specs.List.{flat_map}
use Rattle.std.proofs.lemmas.List.{append-nil, flat_map_more, take_all, take_more}
use Rattle.std.proofs.lemmas.List.Elements.{recursion_from_All}
use Rattle.model_history.specs.Texts.{Text}
use Rattle.base_bytes.specs.Spelling.{IsText, number_spelled, text_spelled}
use Rattle.data_growing.proofs.spelling.spelled_texts.Goals as goal

one_more : (texts : List Text) (i : ℕ) (text : Text) (before now after : List ℕ) → i < length texts → text ≡ get_or texts i text → now ≡ before ++ flat_map text_spelled (take i texts) → after ≡ now ++ text_spelled text
    → after ≡ before ++ flat_map text_spelled (take (i + 1) texts)
one_more texts i text before now after lt at so_far more =
    more ∙ ap (λ (bytes : List ℕ). bytes ++ text_spelled text) so_far ∙ flat_map_more text_spelled before (take i texts) text
    ∙ ap (λ (ts : List Text). before ++ flat_map text_spelled ts) (ap (λ (t : Text). take i texts ++ t ∷ []) at ∙ sym (take_more texts i text lt))

pub returns-in_err-spelled-clause-texts : goal.returns-in_err-spelled-clause-texts
returns-in_err-spelled-clause-texts c = recursion_from_All IsText c.args.texts.now c.room.ensures

pub returns-in_err-spell-clause-texts : goal.returns-in_err-spell-clause-texts
returns-in_err-spell-clause-texts c = recursion_from_All IsText c.args.texts.now c.room.ensures

pub loop-text-init : goal.loop-text-init
loop-text-init c =
    c.in_ok-spell.ensures.ok ∙ ap (λ (bytes : List ℕ). bytes ++ number_spelled (length c.args.texts.now)) c.in_ok-spelled.ensures.items ∙ sym (append-nil (number_spelled (length c.args.texts.now)))

pub loop-text-preserved : goal.loop-text-preserved
loop-text-preserved c =
    one_more c.args.texts.now c.loop-text.text-index c.text-item.result (number_spelled (length c.args.texts.now)) c.loop-text.spelled.items c.spell-in-loop-text.new.into.items c.loop-text-test.true c.text-item.is c.loop-text.invariant c.in_ok-spell-2.ensures.ok

pub returns-in_err-spell-2-clause-texts : goal.returns-in_err-spell-2-clause-texts
returns-in_err-spell-2-clause-texts c = recursion_from_All IsText c.args.texts.now c.room.ensures

pub returns-clause-texts : goal.returns-clause-texts
returns-clause-texts c = recursion_from_All IsText c.args.texts.now c.room.ensures

pub returns-clause-spelled : goal.returns-clause-spelled
returns-clause-spelled c =
    c.loop-text.invariant ∙ ap (λ (ts : List Text). number_spelled (length c.args.texts.now) ++ flat_map text_spelled ts) (take_all c.loop-text.text-index c.args.texts.now c.loop-text-test.false)
