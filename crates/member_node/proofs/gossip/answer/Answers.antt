use Rattle.std.proofs.Common.{subst, map, IfOk}
use Rattle.member_node.proofs.Common.{gossip_to, digest_told, StandsForPosts}
use Rattle.model_members.specs.Step.{news_for}
use Rattle.member_node.proofs.gossip.answer.Goals as goal

pub returns-clause-image : goal.returns-clause-image
returns-clause-image g c = λ D kinds logs node same holds declares.
    let R = g.T.Replica in
    let news = news_for D node (map digest_told c.args.digests.now) in
    subst (λ wants. IfOk c.gossip.result (λ posts. StandsForPosts {ghosts = R} R.kind_of R.IsDataOf kinds logs posts (gossip_to D c.args.from news wants))) (c.in_ok-news.ensures.wants D kinds logs node same holds declares)
    (c.gossip.ensures.image D kinds logs news (c.in_ok-news.ensures.entries D kinds logs node same holds declares))
