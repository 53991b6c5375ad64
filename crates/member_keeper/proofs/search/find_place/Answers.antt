use Rattle.std.proofs.Common.{sym, ap, ◌∙◌}
use Rattle.base_bytes.specs.TextOrder.{text_order}
use Rattle.member_keeper.specs.declared.stored.Stored.{Stored}
use Rattle.member_keeper.proofs.Places.{search_start, search_less, search_equal, search_greater, search_end}
use Rattle.member_keeper.proofs.search.find_place.Goals as goal

pub loop-index-init : goal.loop-index-init
loop-index-init c = search_start _ _

pub loop-index-preserved : goal.loop-index-preserved
loop-index-preserved c =
    search_less c.args.table.now c.args.entry.now c.index-table-index.result c.loop-index.index c.loop-index-test.true c.index-table-index.is c.loop-index.invariant (ap (λ (x : Stored). text_order x.key c.args.entry.now.key) c.index-table-index.is ∙ sym c.in-Less.ensures)

pub returns-in-Equal : goal.returns-in-Equal
returns-in-Equal c =
    search_equal c.args.table.now c.args.entry.now c.index-table-index.result c.loop-index.index c.loop-index-test.true c.index-table-index.is c.loop-index.invariant (ap (λ (x : Stored). text_order x.key c.args.entry.now.key) c.index-table-index.is ∙ sym c.in-Equal.ensures)

pub returns-in-Greater : goal.returns-in-Greater
returns-in-Greater c =
    search_greater c.args.table.now c.args.entry.now c.index-table-index.result c.loop-index.index c.loop-index-test.true c.index-table-index.is c.loop-index.invariant (ap (λ (x : Stored). text_order x.key c.args.entry.now.key) c.index-table-index.is ∙ sym c.in-Greater.ensures)

pub returns : goal.returns
returns c = search_end c.args.table.now c.args.entry.now c.loop-index.index c.loop-index-test.false c.loop-index.invariant
