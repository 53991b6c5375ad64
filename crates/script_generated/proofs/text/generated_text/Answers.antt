use Rattle.std.proofs.Common.{◌≡◌, ◌++◌, ◌∷◌, [], ap, ◌∙◌, string_bytes, arith}
use Rattle.script_generated.specs.declared.text.TheConstants.{HEAD, TAIL}
use Rattle.script_generated.proofs.Joined.{pieces, one_more, joined}
use Rattle.script_generated.proofs.text.generated_text.Goals as goal

pub loop-done-preserved : goal.loop-done-preserved
loop-done-preserved c =
    c.in_ok-push_str.ensures.bytes ∙ ap (λ t. t ++ 44 ∷ []) c.in_ok-push_step.ensures
    ∙ one_more c.loop-done.done HEAD.now (string_bytes c.loop-done.text) c.loop-done.invariant

pub returns : goal.returns
returns c =
    let all : c.loop-done.done ≡ c.args.n = omega arith in
    c.in_ok-push_str-2.ensures.bytes ∙ ap (λ t. t ++ TAIL.now) (c.loop-done.invariant ∙ ap (λ n. HEAD.now ++ pieces n) all) ∙ joined c.args.n
