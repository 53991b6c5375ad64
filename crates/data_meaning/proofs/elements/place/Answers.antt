use Rattle.std.proofs.Common.{sym}
use Rattle.data_meaning.proofs.TextPlaces.{search_less, search_equal, search_greater}
use Rattle.data_meaning.proofs.elements.place.Goals as goal

pub loop-index-preserved : goal.loop-index-preserved
loop-index-preserved c =
    search_greater c.args.texts.now c.args.text.now c.index-texts-index.result c.loop-index.index c.loop-index-test.true c.index-texts-index.is c.loop-index.invariant (sym c.in-Greater.ensures)

pub returns-in-Equal-clause-present : goal.returns-in-Equal-clause-present
returns-in-Equal-clause-present c =
    search_equal c.args.texts.now c.args.text.now c.index-texts-index.result c.loop-index.index c.loop-index-test.true c.index-texts-index.is c.loop-index.invariant (sym c.in-Equal.ensures)

pub returns-in-Less-clause-place : goal.returns-in-Less-clause-place
returns-in-Less-clause-place c =
    search_less c.args.texts.now c.args.text.now c.index-texts-index.result c.loop-index.index c.loop-index-test.true c.index-texts-index.is c.loop-index.invariant (sym c.in-Less.ensures)
