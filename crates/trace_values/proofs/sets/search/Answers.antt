use Rattle.std.proofs.Common.{◌+◌, ◌-◌, ◌/◌, ◌<◌, length, sym, arith}
use Rattle.data_growing.proofs.Searching.{between_less, between_greater, found, belongs}
use Rattle.trace_values.specs.Elements.{names}
use Rattle.trace_values.proofs.ElementLaws.{name_read, long_names}
use Rattle.trace_values.proofs.sets.search.Goals as goal

pub loop-low-preserved-in-Less : goal.loop-low-preserved-in-Less
loop-low-preserved-in-Less c =
    let lt = c.loop-low-test.true in
    let order = c.loop-low.invariant.0 in
    let within = c.loop-low.invariant.1 in
    let small : c.loop-low.low + (c.loop-low.high - c.loop-low.low) / 2 < length c.args.elements.now = omega (arith, lt, within) in (
      omega (arith, lt, order),
      within,
      λ rising. between_less (names c.args.elements.now) c.args.name.now _ c.loop-low.low c.loop-low.high (c.loop-low.low + (c.loop-low.high - c.loop-low.low) / 2) rising (omega arith) (omega (arith, lt))
          (name_read c.args.elements.now _ c.index-elements-middle.result _ small) (sym c.in-Less.ensures) (c.loop-low.invariant.2 rising),
    )

pub returns-in-Equal-clause-found : goal.returns-in-Equal-clause-found
returns-in-Equal-clause-found c = λ rising.
    let lt = c.loop-low-test.true in
    let within = c.loop-low.invariant.1 in
    let small : c.loop-low.low + (c.loop-low.high - c.loop-low.low) / 2 < length c.args.elements.now = omega (arith, lt, within) in
    let long = long_names c.args.elements.now in
    found (names c.args.elements.now) c.args.name.now _ (c.loop-low.low + (c.loop-low.high - c.loop-low.low) / 2) (omega (arith, small, long)) (name_read c.args.elements.now _ c.index-elements-middle.result _ small) (sym c.in-Equal.ensures)

pub loop-low-preserved : goal.loop-low-preserved
loop-low-preserved c =
    let lt = c.loop-low-test.true in
    let order = c.loop-low.invariant.0 in
    let within = c.loop-low.invariant.1 in
    let small : c.loop-low.low + (c.loop-low.high - c.loop-low.low) / 2 < length c.args.elements.now = omega (arith, lt, within) in (
      omega (arith, lt, order),
      omega (arith, small),
      λ rising. between_greater (names c.args.elements.now) c.args.name.now _ c.loop-low.low c.loop-low.high (c.loop-low.low + (c.loop-low.high - c.loop-low.low) / 2) rising (omega arith) (omega (arith, lt))
          (name_read c.args.elements.now _ c.index-elements-middle.result _ small) (sym c.in-Greater.ensures) (c.loop-low.invariant.2 rising),
    )

pub returns-clause-found : goal.returns-clause-found
returns-clause-found c = λ rising. belongs (names c.args.elements.now) c.args.name.now c.loop-low.low c.loop-low.high rising c.loop-low-test.false (c.loop-low.invariant.2 rising)
