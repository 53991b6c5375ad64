use Rattle.std.proofs.Common.{refl}
use Rattle.member_node.proofs.Takings.{kept_first, leads_first}
use Rattle.member_node.proofs.TakingSteps.{holds_held}
use Rattle.member_node.specs.Replies.{spelled_groups}
use Rattle.member_node.proofs.taking.compared.Goals as goal

pub returns-clause-counted : goal.returns-clause-counted
returns-clause-counted g c = (kept_first g.T.Replica.kind_of c.args.id c.args.keys.now c.unchanged-changes.result c.unchanged-changes.ensures).one_each

pub returns-clause-kept : goal.returns-clause-kept
returns-clause-kept g c = kept_first g.T.Replica.kind_of c.args.id c.args.keys.now c.unchanged-changes.result c.unchanged-changes.ensures

pub returns-clause-image : goal.returns-clause-image
returns-clause-image g c = λ kinds logs node held declares.
    let R = g.T.Replica in
    let D = spelled_groups R.data_type g.T.SpelledData.history_byte g.T.SpelledData.history_spelled in
    let keys = c.args.keys.now in
    record {
      only = refl;
      leads = leads_first R.IsDataOf logs node.entries keys c.unchanged-changes.result c.unchanged-changes.ensures;
      reply = refl;
      ended = refl;
      posts = c.in_ok-posts.ensures.image D kinds logs node refl (holds_held R.kind_of R.IsDataOf kinds logs c.args.id keys node held) declares;
    }
