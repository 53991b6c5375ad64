use Rattle.std.proofs.Common.{◌≡◌, ap, ◌∙◌, arith}
use Rattle.std.specs.List.{range_with_len}
use Rattle.base_vectors.specs.Vectors.{number_at}
use Rattle.trace_values.specs.Writes.{newest_of}
use Rattle.trace_values.proofs.WriteLaws.{newest_more}
use Rattle.trace_values.proofs.writes.newest.Goals as goal
use Rattle.trace_values.proofs.writes.newest.Goals.{in-Some, in_default}

pub loop-number-preserved : goal.loop-number-preserved
loop-number-preserved c = elim c.match-new.branch [
  | in-Some w ↦
      newest_more c.args.writes.now (number_at c.args.known.now) c.loop-number.number w.in-Some.id w.at.result c.loop-number.newest c.match-new.newest w.no_write.result w.last_of.result c.loop-number.invariant
      w.in-Some.ensures.value w.at.ensures.value w.no_write.ensures w.last_of.ensures (w.newest-is ∙ w.max-newest.ensures)
  | in_default w ↦ absurd (let no = w.in_default.ensures.variant.1 (omega (arith, c.loop-number-test.true)) in cc)
]

pub returns : goal.returns
returns c =
    let last : c.loop-number.number ≡ 255 = omega (arith, c.loop-number.auto.number-end, c.loop-number-test.false) in
    c.loop-number.invariant ∙ ap (λ n. newest_of c.args.writes.now (number_at c.args.known.now) (range_with_len 0 n)) last
