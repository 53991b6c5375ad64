use Rattle.std.proofs.Common.{refl, ap, ◌∙◌}
use Rattle.member_node.specs.declared.reply.Reply.TheVariants.{Pending}
use Rattle.member_node.specs.Operations.{asked_meant}
use Rattle.member_node.proofs.Operating.{to_peers}
use Rattle.member_node.proofs.node.Node.opened.Goals as goal

pub returns-clause-opened : goal.returns-clause-opened
returns-clause-opened g c = record {
  viewed = refl;
  next = c.in_ok-next.next;
  opens = refl;
  room = c.in_ok-next.ensures.room;
  asked = λ op. ap (asked_meant op) c.in_ok-next.ensures.asked
      ∙ (λ i. record { op = op; key = c.copied-key.ensures i; reads = c.args.reads; needed = c.new-tally.ensures.needed i; counted = c.new-tally.ensures.answered i });
  reply = ap (λ n. Pending n) c.next_op.ensures;
  posts = c.in_ok-posts.ensures ∙ ap (to_peers {ghosts = g.T.Replica} c.args.self.now.id c.args.message.now) (c.deref.ensures.value ∙ c.in_ok-members.ensures);
  none_ends = refl;
}
