use Rattle.std.proofs.Common.{subst}
use Rattle.member_node.proofs.Common.{IsUnchanged}
use Rattle.member_node.specs.declared.input.Input.TheVariants as input
use Rattle.member_node.specs.Steps.{MakesStep}
use Rattle.member_node.proofs.Standing.{on_err, unchanged_same}
use Rattle.member_node.proofs.node.Node.take.Goals as goal

pub returns-then-self-clause-unchanged : goal.returns-then-self-clause-unchanged
returns-then-self-clause-unchanged g c = unchanged_same c.args.self.now

-- the member is as it was, but for digests that it keeps
pub returns-in_err-prepared-clause-unchanged : goal.returns-in_err-prepared-clause-unchanged
returns-in_err-prepared-clause-unchanged g c =
    let before = c.taken_with_digests.new.self in
    on_err c.from_residual.result (subst (λ node. IsUnchanged node before) c.in_err-prepared.ensures.same (unchanged_same before))

pub returns-clause-step : goal.returns-clause-step
returns-clause-step g c =
    subst (λ node. MakesStep g.T.SpelledData node (input.Take c.args.from c.args.message.now) c.in_ok-make.field-0 c.make.new.self) c.in_ok-prepared.ensures.same
    (c.in_ok-make.ensures.made (input.Take c.args.from c.args.message.now) c.in_ok-prepared.ensures.image)

pub returns-clause-reply : goal.returns-clause-reply
returns-clause-reply g c = (c.in_ok-make.ensures.replies (input.Take c.args.from c.args.message.now) c.in_ok-prepared.ensures.replies).0
