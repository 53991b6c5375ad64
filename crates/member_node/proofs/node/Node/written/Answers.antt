use Rattle.std.proofs.Common.{false, subst, IfOk}
use Rattle.member_node.proofs.Common.{Message, IsOpened}
use Rattle.member_messages.specs.declared.message.Message.TheVariants.{Write}
use Rattle.member_node.proofs.node.Node.written.Goals as goal

pub returns-clause-opened : goal.returns-clause-opened
returns-clause-opened g c =
    let R = g.T.Replica in
    subst (λ (m : Message g.row.T.Denot g.row.T-Kind.Denot g.row.T-Op.Denot g.row.T-Delta.Denot R). IfOk c.opened.result (IsOpened c.args.self.now c.args.name.now false c.args.number m))
    (λ i. Write (c.next_op.ensures i) (c.copied.ensures i) (c.in_ok-copy.ensures i)) c.opened.ensures.opened
