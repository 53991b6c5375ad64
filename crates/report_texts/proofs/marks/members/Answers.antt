use Rattle.std.proofs.Common.{◌≤◌, decimal, ap, sym, ◌∙◌, map, string_bytes, arith}
use Rattle.model_history.specs.Table.{identity_limit}
use Rattle.base_vectors.specs.IdSets.{members_in}
use Rattle.base_vectors.proofs.Readings.{members_end}
use Rattle.report_texts.proofs.Ranges.{member_words, pushed, member_more, no_member}
use Rattle.report_texts.proofs.marks.members.Goals as goal
use Rattle.report_texts.proofs.marks.members.Goals.{in-Some+then-has+in_ok-number_text+in_ok-push, in-Some+else-has, in_default}

pub loop-number-preserved : goal.loop-number-preserved
loop-number-preserved c =
    let n = c.loop-number.number in
    let set = members_in c.args.set in
    elim c.match-new.branch [
      | in-Some+then-has+in_ok-number_text+in_ok-push w ↦
          pushed c.loop-number.texts c.match-new.texts w.in_ok-number_text.field-0 (member_words set n) (decimal n) c.loop-number.invariant w.in_ok-number_text.ensures (w.texts-is ∙ w.in_ok-push.ensures.ok)
          ∙ member_more set n (ap set (sym w.in-Some.ensures.value) ∙ sym w.has.ensures ∙ w.if-has.true)
      | in-Some+else-has w ↦ ap (map string_bytes) w.texts-is ∙ c.loop-number.invariant ∙ no_member set n (ap set (sym w.in-Some.ensures.value) ∙ sym w.has.ensures ∙ w.if-has.false)
      | in_default w ↦ absurd (let no = w.in_default.ensures.variant.1 (omega (arith, c.loop-number-test.true, c.limit-number-end.ensures.range)) in cc)
    ]

pub returns : goal.returns
returns c =
    let few : c.loop-number.number ≤ identity_limit = omega (arith, c.loop-number.auto.number-end, c.limit-number-end.ensures.range) in
    c.loop-number.invariant ∙ ap (map decimal) (members_end (members_in c.args.set) c.loop-number.number few (λ i from. c.limit-number-end.ensures.above i (omega (arith, c.loop-number-test.false, from))))
