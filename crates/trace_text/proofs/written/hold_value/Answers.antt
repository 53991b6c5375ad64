use Rattle.std.proofs.Common.{[], ◌∷◌, codes, ap, ◌∙◌}
use Rattle.std.proofs.lemmas.Result.{IfOk-weaker}
use Rattle.serde_json.specs.Data.{array}
use Rattle.serde_json.specs.View.{items_of}
use Rattle.script_generated.specs.Texts.{fields, at_said, do_said, key_said}
use Rattle.trace_text.proofs.written.hold_value.Goals as goal

pub returns : goal.returns
returns c =
    IfOk-weaker c.hold_object.result _ _ (λ value e. e ∙ ap (λ known. fields (at_said c.args.at ∷ do_said (codes "hold") ∷ key_said c.args.key.now ∷ (codes "known", known) ∷ []))
    (c.list_value.ensures ∙ ap (λ ds. array (items_of ds)) c.in_ok-known_pairs.ensures)) c.hold_object.ensures
