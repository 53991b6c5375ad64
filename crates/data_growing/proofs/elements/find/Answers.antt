use Rattle.std.proofs.Common.{◌-◌, ◌≤◌, length, sym, arith}
use Rattle.std.proofs.lemmas.Bool.Decides.{nat_tests}
use Rattle.data_growing.proofs.Searching.{belongs_last, found}
use Rattle.data_growing.proofs.elements.find.Goals as goal

pub returns-in-Less : goal.returns-in-Less
returns-in-Less c =
    let some : 1 ≤ length c.args.texts.now = grind (arith, nat_tests, c.is_empty.ensures, c.if-is_empty.false) in
    belongs_last c.args.texts.now c.args.text.now c.index-texts-last.result (length c.args.texts.now - 1) c.requires (omega arith) c.index-texts-last.is (sym c.in-Less.ensures)

pub returns-in-Equal : goal.returns-in-Equal
returns-in-Equal c =
    let some : 1 ≤ length c.args.texts.now = grind (arith, nat_tests, c.is_empty.ensures, c.if-is_empty.false) in
    found c.args.texts.now c.args.text.now c.index-texts-last.result (length c.args.texts.now - 1) (omega arith) c.index-texts-last.is (sym c.in-Equal.ensures)
