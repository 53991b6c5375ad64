use Rattle.std.proofs.Common.{◌≡◌, ◌<◌, length, false, ap, sym, ◌∙◌, ◌+◌, drop, arith}
use Rattle.std.specs.Str.{bytes_eq}
use Rattle.data_orset.specs.Placing.{nth}
use Rattle.data_orset.specs.Runs.{run}
use Rattle.data_orset.proofs.Tables.{nth_at}
use Rattle.data_orset.proofs.Runs.{run_starts, run_stops}
use Rattle.data_orset.proofs.spelling.run_end.Goals as goal

pub returns-then-not-same_element-clause-place : goal.returns-then-not-same_element-clause-place
returns-then-not-same_element-clause-place c =
    let first = nth c.args.dots.now c.args.start in
    let next = nth c.args.dots.now c.loop-end.end in
    let differs : bytes_eq first.element next.element ≡ false = sym c.same_element.ensures ∙ c.if-not-same_element.true in
    let inside : c.loop-end.end < length c.args.dots.now = omega (arith, c.loop-end-test.true, c.len-end-end.ensures) in
    run_stops first.element c.args.dots.now c.loop-end.end (c.args.start + run first.element (drop c.args.start c.args.dots.now)) next inside (nth_at c.args.dots.now c.loop-end.end inside) differs c.loop-end.invariant
    ∙ ap (λ k. c.args.start + k) (sym (run_starts c.args.dots.now c.args.start first c.requires (nth_at c.args.dots.now c.args.start c.requires)))
