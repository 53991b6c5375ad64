use Rattle.std.proofs.Common.{◌+◌, ◌-◌, ◌/◌, sym, arith}
use Rattle.data_growing.proofs.Searching.{between_less, between_greater, found, belongs}
use Rattle.data_growing.proofs.elements.search.Goals as goal

pub loop-low-preserved-in-Less : goal.loop-low-preserved-in-Less
loop-low-preserved-in-Less c =
    let lt = c.loop-low-test.true in
    let within = c.loop-low.invariant.within in
    between_less c.args.texts.now c.args.text.now c.index-texts-middle.result c.loop-low.low c.loop-low.high (c.loop-low.low + (c.loop-low.high - c.loop-low.low) / 2) c.requires (omega arith) (omega arith)
    c.index-texts-middle.is (sym c.in-Less.ensures) c.loop-low.invariant

pub returns-in-Equal : goal.returns-in-Equal
returns-in-Equal c =
    let lt = c.loop-low-test.true in
    let within = c.loop-low.invariant.within in
    found c.args.texts.now c.args.text.now c.index-texts-middle.result (c.loop-low.low + (c.loop-low.high - c.loop-low.low) / 2) (omega arith)
    c.index-texts-middle.is (sym c.in-Equal.ensures)

pub loop-low-preserved : goal.loop-low-preserved
loop-low-preserved c =
    let lt = c.loop-low-test.true in
    let within = c.loop-low.invariant.within in
    between_greater c.args.texts.now c.args.text.now c.index-texts-middle.result c.loop-low.low c.loop-low.high (c.loop-low.low + (c.loop-low.high - c.loop-low.low) / 2) c.requires (omega arith) (omega arith)
    c.index-texts-middle.is (sym c.in-Greater.ensures) c.loop-low.invariant

pub returns : goal.returns
returns c = belongs c.args.texts.now c.args.text.now c.loop-low.low c.loop-low.high c.requires c.loop-low-test.false c.loop-low.invariant
