use Rattle.std.proofs.Common.{◌<◌, ◌≤◌, ◌∙◌, sym, subst}
use Rattle.member_node.proofs.Common.{IsStepOf, IsUnchanged}
use Rattle.thread_machine.specs.Faults.{RoseAt}
use Rattle.member_node.specs.Steps.{is_failure}
use Rattle.member_node.proofs.Standing.{on_err, unchanged_same, rose_by}
use Rattle.member_node.proofs.Making.{makes_step}
use Rattle.member_node.proofs.node.NodeMachine.step.Goals as goal

pub returns-then-self-clause-unchanged : goal.returns-then-self-clause-unchanged
returns-then-self-clause-unchanged g c = unchanged_same c.args.self.now

-- where the entry didn't change in its place, the member is as it was, but for digests that it keeps
pub returns-in_err-view-clause-unchanged : goal.returns-in_err-view-clause-unchanged
returns-in_err-view-clause-unchanged g c =
    let before = c.prepare_with_digests.new.self in
    let same = c.in_err-view.ensures.same ∙ c.in_ok-became.ensures.otherwise c.in_default.is in
    on_err c.from_residual-in_err-view.result (subst (λ node. IsUnchanged node before) same (unchanged_same before))

pub returns-in_err-copy-clause-unchanged : goal.returns-in_err-copy-clause-unchanged
returns-in_err-copy-clause-unchanged g c =
    let before = c.prepare_with_digests.new.self in
    let same = c.in_ok-view.ensures.same ∙ c.in_ok-became.ensures.otherwise c.in_default.is in
    on_err c.from_residual-in_err-copy.result (subst (λ node. IsUnchanged node before) same (unchanged_same before))

pub returns-in_err-fate-clause-unchanged : goal.returns-in_err-fate-clause-unchanged
returns-in_err-fate-clause-unchanged g c =
    let same = c.in_ok-view.ensures.same ∙ c.in_ok-became.ensures.otherwise c.in_default.is in
    on_err c.from_residual-in_err-fate.result (subst (λ node. IsUnchanged node c.carry.new.self) same c.in_err-fate.ensures.unchanged)

pub returns-in_err-fate-clause-later : goal.returns-in_err-fate-clause-later
returns-in_err-fate-clause-later g c =
    let same = c.in_ok-view.ensures.same ∙ c.in_ok-became.ensures.otherwise c.in_default.is in
    on_err c.from_residual-in_err-fate.result (subst (λ node. g.K.Keeper.faults node.keeper ≤ g.K.Keeper.faults c.carry.new.self.keeper) same c.in_err-fate.ensures.later)

pub returns-clause-steps : goal.returns-clause-steps
returns-clause-steps g c =
    let before = c.prepare_with_digests.new.self in
    let same = c.in_ok-view.ensures.same ∙ c.in_ok-became.ensures.otherwise c.in_default.is in
    let fate = c.in_ok-fate.fate in
    let new = c.carry.new.self in
    let few = subst (λ node. node.steps < node.limit) (sym same) c.if-self.false in
    let step = makes_step g.T.SpelledData before c.in_ok-view.field-0 c.in_ok-view.ensures.sound fate new c.in_ok-fate.ensures.carried few c.args.input.now c.in_ok-view.ensures.image in
    subst (λ node. IsStepOf g.T.SpelledData node c.args.input.now fate c.after.result new) same (subst (λ output. IsStepOf g.T.SpelledData before c.args.input.now fate output new) (sym c.after.ensures) step)

pub returns-clause-fault : goal.returns-clause-fault
returns-clause-fault g c =
    let same = c.in_ok-view.ensures.same ∙ c.in_ok-became.ensures.otherwise c.in_default.is in
    let fate = c.in_ok-fate.fate in
    let kept = c.in_ok-fate.ensures.carried in
    subst (λ node. RoseAt (is_failure fate) (g.K.Keeper.faults node.keeper) (g.K.Keeper.faults c.carry.new.self.keeper)) same (rose_by g.K.Keeper kept.items fate c.prepare_with_digests.new.self.keeper c.carry.new.self.keeper kept.kept)
