use Rattle.std.proofs.Common.{◌∙◌}
use Rattle.data_orset.proofs.Changes.{removed_is, seen_is}
use Rattle.data_orset.proofs.set.OrSet.remove.Goals as goal

pub returns-clause-applied : goal.returns-clause-applied
returns-clause-applied c = c.drop_named.ensures ∙ removed_is c.args.self.now c.args.element.now c.args.dot.now

pub returns-clause-delta : goal.returns-clause-delta
returns-clause-delta c =
    let seen = c.in_ok-seen.ensures ∙ seen_is c.args.self.now c.args.element.now c.args.dot.now in
    λ i. record { fresh = c.new-fresh.ensures i; seen = seen i }
