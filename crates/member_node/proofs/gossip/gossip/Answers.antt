use Rattle.std.proofs.Common.{sym, ◌∙◌, subst}
use Rattle.member_node.proofs.Common.{gossip_to, StandsForPosts}
use Rattle.member_node.proofs.Sendings.{nothing_stands, gossip_stands, one_pushed}
use Rattle.member_node.proofs.gossip.gossip.Goals as goal

pub returns-then-is_nothing-clause-image : goal.returns-then-is_nothing-clause-image
returns-then-is_nothing-clause-image g c = λ D kinds logs sent z.
    let R = g.T.Replica in
    subst (λ posts. StandsForPosts {ghosts = R} R.kind_of R.IsDataOf kinds logs posts (gossip_to D c.args.to sent c.args.wants)) (sym c.new-posts.ensures)
    (nothing_stands R R.kind_of R.IsDataOf kinds logs D c.args.to c.args.entries c.args.wants sent (sym c.is_nothing.ensures ∙ c.if-is_nothing.true) z)

pub returns-clause-image : goal.returns-clause-image
returns-clause-image g c = λ D kinds logs sent z.
    let R = g.T.Replica in
    one_pushed (λ posts. StandsForPosts {ghosts = R} R.kind_of R.IsDataOf kinds logs posts (gossip_to D c.args.to sent c.args.wants)) _ _ _ c.new-posts.ensures c.in_ok-push.ensures.ok
    (gossip_stands R R.kind_of R.IsDataOf kinds logs D c.args.to c.args.entries c.args.wants sent (sym c.is_nothing.ensures ∙ c.if-is_nothing.false) z)
