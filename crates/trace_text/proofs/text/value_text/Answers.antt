use Rattle.std.proofs.Common.{[], ◌∷◌, ◌++◌, ap, ◌∙◌}
use Rattle.serde_json.specs.Written.{has_float, compact_text}
use Rattle.trace_lines.specs.Meant.{trace_meant}
use Rattle.trace_text.specs.Texts.{trace_text}
use Rattle.trace_text.proofs.NoFloats.{no_float}
use Rattle.trace_text.proofs.text.value_text.Goals as goal

pub returns : goal.returns
unfolding trace_text
returns c =
    let plain = ap has_float c.in_ok-trace_value.ensures ∙ no_float (trace_meant c.args.trace.now) in
    let compact = c.in_ok-text.ensures.text plain ∙ ap compact_text c.in_ok-trace_value.ensures in
    c.in_ok-push_str.ensures.bytes ∙ ap (λ bytes. bytes ++ 10 ∷ []) compact
