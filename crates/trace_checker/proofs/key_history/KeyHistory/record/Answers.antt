use Rattle.std.proofs.Common.{refl, sym, ap, ◌∙◌}
use Rattle.model_history.specs.History.Action.{Operation}
use Rattle.trace_checker.proofs.Recording.{on_ok, plain_added, delete_added}
use Rattle.trace_checker.proofs.key_history.KeyHistory.record.Goals as goal

pub returns-then-deletes : goal.returns-then-deletes
returns-then-deletes c = on_ok c.push.result _ _ (λ pushed made held stands kept.
    delete_added c.args.self.now c.add.new.self made held stands kept c.args.at c.requires c.in_ok-number.number _ c.in_ok-add.ensures c.in_ok-number.ensures.value
    c.args.op.now _ c.push.new.self (ap Operation c.copied.ensures) (sym c.is_delete-deletes.ensures ∙ c.if-deletes.true) refl refl pushed) c.push.ensures.ok

pub returns-else-deletes : goal.returns-else-deletes
returns-else-deletes c = λ made held stands kept.
    plain_added c.args.self.now c.add.new.self made held stands kept c.args.at c.requires c.in_ok-number.number _ c.in_ok-add.ensures c.in_ok-number.ensures.value
    c.args.op.now (ap Operation c.copied.ensures) (sym c.is_delete-deletes.ensures ∙ c.if-deletes.false)
