use Rattle.std.proofs.Common.{◌-◌, None, Some, sym}
use Rattle.trace_checker.proofs.ListPlaces.{none_past, some_there}
use Rattle.trace_checker.proofs.RuleTests.{told_last, is_last, no_last}
use Rattle.trace_checker.proofs.rules.holds_last.Goals as goal

pub returns-in-Some : goal.returns-in-Some
returns-in-Some c =
    let look = c.in-Some.ensures.lookup in
    let there = told_last c.args.rows.now c.args.known.now c.args.id c.args.count c.row_of.result.now (Some c.in-Some.last.now) c.row_of.ensures c.requires.same (some_there c.row_of.result.now (c.args.count - 1) c.in-Some.last.now look.3.0 look.1) in (
      λ e. (c.in-Some.last.now, there, c.covers.ensures.0 e),
      λ holds. c.covers.ensures.1 (is_last c.args.rows.now c.args.known.now c.args.id c.in-Some.last.now there holds),
    )

pub returns-in-None : goal.returns-in-None
returns-in-None c =
    let look = c.in-None.ensures.lookup in
    let there = told_last c.args.rows.now c.args.known.now c.args.id c.args.count c.row_of.result.now None c.row_of.ensures c.requires.same (sym (none_past c.row_of.result.now (c.args.count - 1) look.3)) in (
      λ e. absurd (cc e),
      λ holds. absurd (no_last c.args.rows.now c.args.known.now c.args.id there holds),
    )
