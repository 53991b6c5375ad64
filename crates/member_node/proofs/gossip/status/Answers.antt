use Rattle.std.proofs.Common.{refl}
use Rattle.member_node.proofs.Common.{answer_to, StandsForPosts}
use Rattle.model_members.specs.Step.{status_of}
use Rattle.member_node.proofs.Sendings.{one_pushed}
use Rattle.member_node.proofs.gossip.status.Goals as goal

pub returns-clause-image : goal.returns-clause-image
returns-clause-image g c = λ D kinds logs node same holds declares.
    let R = g.T.Replica in
    one_pushed (λ posts. StandsForPosts {ghosts = R} R.kind_of R.IsDataOf kinds logs posts (answer_to D c.args.to (status_of D node))) _ _ _ c.new-posts.ensures c.in_ok-push.ensures.ok
    (record { to = refl; message = c.in_ok-digests.ensures D kinds logs node same holds declares }, tt)
