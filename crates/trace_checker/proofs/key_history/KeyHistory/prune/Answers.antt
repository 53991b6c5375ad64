use Rattle.std.proofs.Common.{refl}
use Rattle.trace_checker.proofs.Recording.{on_ok, prune_added}
use Rattle.trace_checker.proofs.key_history.KeyHistory.prune.Goals as goal

pub returns : goal.returns
returns c = on_ok c.push.result _ _ (λ pushed made held stands kept.
    prune_added c.args.self.now c.add.new.self made held stands kept c.args.at c.requires c.in_ok-number.number _ c.in_ok-add.ensures c.in_ok-number.ensures.value
    c.args.removed _ c.push.new.self refl refl refl refl c.number_of-seen.ensures.value pushed) c.push.ensures.ok
