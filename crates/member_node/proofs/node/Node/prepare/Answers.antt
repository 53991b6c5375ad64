use Rattle.std.proofs.Common.{sym, subst}
use Rattle.member_node.proofs.Common.{Prepares}
use Rattle.member_node.specs.Answerable.{RepliesTo}
use Rattle.member_node.proofs.node.Node.prepare.Goals as goal

pub returns-in-Timeout-clause-image : goal.returns-in-Timeout-clause-image
returns-in-Timeout-clause-image g c = subst (λ input. Prepares g.T.SpelledData c.args.self.now input c.timed_out.result) (sym c.in-Timeout.is) c.timed_out.ensures.image

pub returns-in-Timeout-clause-replies : goal.returns-in-Timeout-clause-replies
returns-in-Timeout-clause-replies g c = subst (λ input. RepliesTo input c.timed_out.result) (sym c.in-Timeout.is) c.timed_out.ensures.replies
