use Rattle.std.proofs.Common.{sym, subst, ◌∙◌}
use Rattle.base_vectors.specs.Vectors.{number_at}
use Rattle.trace_values.specs.Rows.{AreRows}
use Rattle.trace_checker.proofs.ShownTexts.{test_is, deleted_shown}
use Rattle.trace_checker.proofs.key_history.KeyHistory.meaning.Goals as goal

pub returns-then-deleted : goal.returns-then-deleted
returns-then-deleted c = λ made H told known_is.
    deleted_shown c.args.kind H (sym (test_is c.args.self.now made H told (number_at c.args.known.now) known_is _ c.as_slice.ensures c.has_delete-deleted.result c.has_delete-deleted.ensures) ∙ c.if-deleted.true)

pub returns-else-deleted : goal.returns-else-deleted
returns-else-deleted c = λ made H told known_is.
    c.value.ensures made H told.values (subst (λ rows. AreRows rows made) (sym c.as_slice-else-deleted.ensures.value) told.rows) told.history told.taken known_is
    (sym (test_is c.args.self.now made H told (number_at c.args.known.now) known_is _ c.as_slice.ensures c.has_delete-deleted.result c.has_delete-deleted.ensures) ∙ c.if-deleted.false)
