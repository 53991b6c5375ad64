use Rattle.std.proofs.Common.{refl, sym}
use Rattle.member_node.specs.declared.input.Input.TheVariants as input
use Rattle.member_node.proofs.Answerings.{flush_done, step_told}
use Rattle.member_node.proofs.node.Node.flush.Goals as goal

pub returns-clause-step : goal.returns-clause-step
returns-clause-step g c =
    let output = c.in_ok-output.output in
    let told = c.in_ok-output.ensures in
    step_told g.T.SpelledData c.args.self.now c.step.new.self input.Flush output _ (flush_done output.reply told.reply) refl (sym told.ends) told.step
