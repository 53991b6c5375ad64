use Rattle.std.proofs.Common.{false, ◌∙◌, arith}
use Rattle.member_node.proofs.Lists.{mapped_all}
use Rattle.member_desk.specs.Notices.{told_client}
use Rattle.member_desk.proofs.Standings.{noted_more}
use Rattle.member_desk.proofs.client.tell_each.Goals as goal

pub returns : goal.returns
returns c = c.loop-client.invariant ∙ mapped_all told_client c.args.clients.now c.loop-client.client-index (omega arith)

pub loop-client-preserved : goal.loop-client-preserved
loop-client-preserved c =
    noted_more c.args.clients.now c.loop-client.clients c.loop-client.client-index (record { number = 0; told = false }) c.loop-client.invariant (omega arith) (omega arith)
