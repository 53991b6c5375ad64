use Rattle.std.proofs.Common.{sym, subst}
use Rattle.member_node.specs.declared.input.Input.TheVariants as input
use Rattle.member_node.specs.Steps.{MakesStep}
use Rattle.member_node.proofs.node.Node.install.Goals as goal

pub returns-clause-step : goal.returns-clause-step
returns-clause-step g c =
    subst (λ output. MakesStep g.T.SpelledData c.args.self.now (input.Install c.args.view) output c.step.new.self) (sym c.of.ensures) c.in_ok-output.ensures.step
