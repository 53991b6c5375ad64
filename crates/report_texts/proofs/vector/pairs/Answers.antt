use Rattle.std.proofs.Common.{◌≤◌, not, ◌==◌, ap, ◌∙◌, map, string_bytes, arith}
use Rattle.model_history.specs.Table.{identity_limit}
use Rattle.model_history.specs.History.{at}
use Rattle.base_vectors.proofs.Readings.{members_end}
use Rattle.report_texts.specs.Pairs.{pair_word}
use Rattle.report_texts.proofs.Ranges.{pushed_pair, no_pair}
use Rattle.report_texts.proofs.vector.pairs.Goals as goal
use Rattle.report_texts.proofs.vector.pairs.Goals.{in-Some+then-seq-gt0+in_ok-pair+in_ok-push, in-Some+else-seq-gt0, in_default}

pub loop-number-preserved : goal.loop-number-preserved
loop-number-preserved g c = λ log entry stands.
    let n = c.loop-number.number in
    let before = c.loop-number.invariant log entry stands in
    elim c.match-new.branch [
      | in-Some+then-seq-gt0+in_ok-pair+in_ok-push w ↦
          pushed_pair (at entry.history) n w.at-seq.result c.loop-number.pairs c.match-new.pairs w.in_ok-pair.field-0 before
          (w.at-seq.ensures.image log entry stands ∙ ap (at entry.history) w.in-Some.ensures.value) w.if-seq-gt0.true w.in_ok-pair.ensures (w.pairs-is ∙ w.in_ok-push.ensures.ok)
      | in-Some+else-seq-gt0 w ↦ ap (map string_bytes) w.pairs-is ∙ before ∙ no_pair (at entry.history) n w.at-seq.result (w.at-seq.ensures.image log entry stands ∙ ap (at entry.history) w.in-Some.ensures.value) w.if-seq-gt0.false
      | in_default w ↦ absurd (let no = w.in_default.ensures.variant.1 (omega (arith, c.loop-number-test.true, c.limit-number-end.ensures.range)) in cc)
    ]

pub returns : goal.returns
returns g c = λ log entry stands.
    let few : c.loop-number.number ≤ identity_limit = omega (arith, c.loop-number.auto.number-end, c.limit-number-end.ensures.range) in
    c.loop-number.invariant log entry stands ∙ ap (map (pair_word (at entry.history))) (members_end (λ i. not (at entry.history i == 0)) c.loop-number.number few
    (λ i from. ap (λ n. not (n == 0)) (c.limit-number-end.ensures.image log entry stands i (omega (arith, c.loop-number-test.false, from)))))
