use Rattle.std.proofs.Common.{◌≡◌, ap, ◌∙◌, arith}
use Rattle.std.specs.List.{range_with_len}
use Rattle.base_vectors.specs.Vectors.{number_at}
use Rattle.trace_values.specs.Sums.{counted_sums}
use Rattle.trace_values.proofs.SumLaws.{sums_more}
use Rattle.trace_values.proofs.sums.sums_of.Goals as goal
use Rattle.trace_values.proofs.sums.sums_of.Goals.{in-Some+in_ok-sums, in_default}

pub loop-number-preserved : goal.loop-number-preserved
loop-number-preserved c = elim c.match-new.branch [
  | in-Some+in_ok-sums w ↦
      sums_more c.args.rows.now (number_at c.args.known.now) c.loop-number.number w.in-Some.id w.at.result w.no_sums.result w.last_of.result c.loop-number.sums c.match-new.sums c.loop-number.invariant
      w.in-Some.ensures.value w.at.ensures.value w.no_sums.ensures w.last_of.ensures (w.sums-is ∙ w.in_ok-sums.ensures)
  | in_default w ↦ absurd (let no = w.in_default.ensures.variant.1 (omega (arith, c.loop-number-test.true)) in cc)
]

pub returns : goal.returns
returns c =
    let last : c.loop-number.number ≡ 255 = omega (arith, c.loop-number.auto.number-end, c.loop-number-test.false) in
    c.loop-number.invariant ∙ ap (λ n. counted_sums c.args.rows.now (number_at c.args.known.now) (range_with_len 0 n)) last
