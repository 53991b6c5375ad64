use Rattle.std.proofs.Common.{◌∙◌, sym, subst}
use Rattle.base_vectors.proofs.Laws.{number_at_above}
use Rattle.trace_values.specs.Rows.{AreRows}
use Rattle.trace_checker.proofs.RuleTests.{hold_test}
use Rattle.trace_checker.proofs.key_history.KeyHistory.may_hold.Goals as goal

pub returns : goal.returns
returns c = λ made H are history taken mine_is.
    c.all_three.ensures
    ∙ hold_test c.as_slice-rows.result.now made (subst (λ rows. AreRows rows made) (sym c.as_slice-rows.ensures.value) are) history H taken c.args.known.now c.args.mine.now mine_is (number_at_above c.args.known.now c.requires)
    c.covers-covers.result c.are_made-made.result c.holds_pasts-closed.result c.covers-covers.ensures c.are_made-made.ensures c.holds_pasts-closed.ensures
