use Rattle.std.proofs.Common.{Bool, ap, sym, ◌∙◌}
use Rattle.std.specs.Prelude.{if◌then◌else◌}
use Rattle.model_kinds.specs.SixKinds as kinds
use Rattle.model_kinds.specs.declared.shown.Shown.TheVariants.{Deleted}
use Rattle.data_meaning.proofs.Newest.{ok_same}
use Rattle.data_meaning.proofs.Meanings.{operation_means}
use Rattle.data_meaning.proofs.by_kind.meaning_in_order.Goals as goal

pub returns-then-is_deleted : goal.returns-then-is_deleted
returns-then-is_deleted c = λ H are.
    ap (λ (b : Bool). if b then Deleted else kinds.shown c.args.kind H) (sym c.if-is_deleted.true ∙ c.is_deleted.ensures ∙ operation_means c.args.records.now H are kinds.is_delete)

pub returns : goal.returns
returns c = λ H are.
    ok_same c.value_in_order.result _ _ (c.value_in_order.ensures H are) (
    ap (λ (b : Bool). if b then Deleted else kinds.shown c.args.kind H) (sym c.if-is_deleted.false ∙ c.is_deleted.ensures ∙ operation_means c.args.records.now H are kinds.is_delete))
