use Rattle.std.proofs.Common.{◌∙◌, sym, subst}
use Rattle.member_node.proofs.Common.{IsUnchanged}
use Rattle.member_node.specs.Steps.{MakesStep}
use Rattle.member_node.specs.Answerable.{CanEnd}
use Rattle.member_node.proofs.Answerings.{no_end}
use Rattle.member_node.proofs.Standing.{on_err, unchanged_same}
use Rattle.member_node.proofs.node.Node.step.Goals as goal

pub returns-then-self-clause-unchanged : goal.returns-then-self-clause-unchanged
returns-then-self-clause-unchanged g c = unchanged_same c.args.self.now

-- where the entry didn't change in its place, the member is as it was
pub returns-in_err-prepared-clause-unchanged : goal.returns-in_err-prepared-clause-unchanged
returns-in_err-prepared-clause-unchanged g c =
    let before = c.prepare_with_digests.new.self in
    let same = c.in_err-prepared.ensures.same ∙ c.in_ok-became.ensures.otherwise c.in_default.is in
    on_err c.from_residual-in_err-prepared.result (subst (λ node. IsUnchanged node before) same (unchanged_same before))

pub returns-clause-step : goal.returns-clause-step
returns-clause-step g c =
    let same = c.in_ok-prepared.ensures.same ∙ c.in_ok-became.ensures.otherwise c.in_default.is in
    subst (λ node. MakesStep g.T.SpelledData node c.args.input.now c.in_ok-make.field-0 c.make.new.self) same
    (c.in_ok-make.ensures.made c.args.input.now c.in_ok-prepared.ensures.image)

pub returns-clause-reply : goal.returns-clause-reply
returns-clause-reply g c = (c.in_ok-make.ensures.replies c.args.input.now c.in_ok-prepared.ensures.replies).0

pub returns-clause-ends : goal.returns-clause-ends
returns-clause-ends g c = (c.in_ok-make.ensures.replies c.args.input.now c.in_ok-prepared.ensures.replies).1

pub returns-in-Some-clause-ends : goal.returns-in-Some-clause-ends
returns-in-Some-clause-ends g c = subst (λ output. CanEnd c.args.input.now output.finished) (sym c.output.ensures) (no_end c.args.input.now)
