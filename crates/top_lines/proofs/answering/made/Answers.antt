use Rattle.std.proofs.Common.{◌++◌, ap, ◌∙◌}
use Rattle.std.proofs.lemmas.Result.{err_from_is_err_and}
use Rattle.top_lines.specs.Texts.{output_text}
use Rattle.top_lines.specs.Answering.Makes.{made}
use Rattle.top_lines.specs.Answering.IsUntold.{made_untold}
use Rattle.top_lines.proofs.answering.made.Goals as goal

pub returns-in_err-push_output-in-Ok : goal.returns-in_err-push_output-in-Ok
returns-in_err-push_output-in-Ok g c =
    let p = err_from_is_err_and c.from_residual.result c.from_residual.ensures.1 in
    rw p.1 (made_untold c.in-Ok.output c.in-Ok.ensures.step)

pub returns-in_ok-push_output-in-Ok : goal.returns-in_ok-push_output-in-Ok
returns-in_ok-push_output-in-Ok g c =
    made c.in-Ok.output _ c.in-Ok.ensures.step (c.forget.ensures.same, c.forget.ensures.stands)
    (c.in_ok-push_output-in-Ok.ensures ∙ ap (λ t. t ++ output_text g.T.Replica g.T.SpelledData g.T.SpelledDelta c.in-Ok.output) c.new-text.ensures.bytes)
