use Rattle.std.proofs.Common.{ap, ◌∙◌, ◌++◌}
use Rattle.model_kinds.specs.ShownText.{shown_text}
use Rattle.trace_checker.proofs.key_history.KeyHistory.shown.Goals as goal

pub returns : goal.returns
returns c = λ made H told known_is.
    c.in_ok-push_shown.ensures ∙ ap (λ t. t ++ shown_text c.in_ok-value.value) c.new-text.ensures.bytes ∙ ap shown_text (c.in_ok-value.ensures made H told known_is)
