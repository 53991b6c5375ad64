use Rattle.std.proofs.Common.{ap, ◌∙◌, ◌||◌, ◌==◌}
use Rattle.model_history.specs.History.{is_pruned}
use Rattle.member_node.proofs.groups.is_strange.Goals as goal

pub returns-else-eq-clause-image : goal.returns-else-eq-clause-image
returns-else-eq-clause-image g c = λ log before theirs s t.
    let group = c.args.group.now in
    c.is_pruned.ensures.image log before s ∙ ap (λ b. b || is_pruned before.history group.origin) c.if-eq.ensures ∙ (λ i. (t.origin i == c.args.id) || is_pruned before.history (t.origin i))
