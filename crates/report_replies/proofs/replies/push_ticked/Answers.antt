use Rattle.std.proofs.Common.{◌≤◌, ◌++◌, length, flat_map, string_bytes, ap, ◌∙◌, arith, append_assoc}
use Rattle.std.proofs.lemmas.List.{take_all}
use Rattle.report_replies.specs.Replies.{outcome_text}
use Rattle.report_replies.proofs.Words.{ticked_words}
use Rattle.report_replies.proofs.replies.push_ticked.Goals as goal

pub returns : goal.returns
returns c =
    let outcomes = c.args.outcomes.now in
    let text = string_bytes c.args.text.now in
    let done : length outcomes ≤ c.loop-told.told-index = omega (arith, c.loop-told-test.false) in
    c.loop-told.invariant ∙ ap (λ os. string_bytes c.push_str.new.self ++ flat_map outcome_text os) (take_all c.loop-told.told-index outcomes done)
    ∙ ap (λ t. t ++ flat_map outcome_text outcomes) c.in_ok-push_str.ensures.bytes
    ∙ append_assoc text c.args.end.now (flat_map outcome_text outcomes)
    ∙ ap (λ t. text ++ t) (ticked_words c.args.end.now outcomes)
