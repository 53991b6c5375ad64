use Rattle.std.proofs.Common.{[], ◌∷◌, codes, map, ap, ap₂, sym, ◌∙◌}
use Rattle.std.proofs.lemmas.Simd.{map-map}
use Rattle.std.proofs.lemmas.Result.{IfOk-weaker}
use Rattle.serde_json.specs.Data.{array}
use Rattle.serde_json.specs.View.{items_of}
use Rattle.script_generated.specs.Texts.{fields}
use Rattle.trace_lines.specs.Meant.{key_meant, line_meant}
use Rattle.trace_text.specs.Texts.{key_data, line_data}
use Rattle.trace_text.proofs.text.trace_value.Goals as goal

pub returns : goal.returns
returns c =
    IfOk-weaker c.trace_object.result _ _ (λ value e. e ∙ ap₂ (λ keys lines. fields ((codes "keys", keys) ∷ (codes "lines", lines) ∷ []))
    (c.list_value-keys.ensures ∙ ap (λ ds. array (items_of ds)) (c.in_ok-keys_value.ensures ∙ ap (map (λ key. key_data (key_meant key))) c.as_slice.ensures ∙ sym (map-map key_data key_meant c.args.trace.now.keys)))
    (c.list_value-lines.ensures ∙ ap (λ ds. array (items_of ds)) (c.in_ok-lines_value.ensures ∙ ap (map (λ line. line_data (line_meant line))) c.as_slice-2.ensures ∙ sym (map-map line_data line_meant c.args.trace.now.lines)))) c.trace_object.ensures
