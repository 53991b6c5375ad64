use Rattle.std.proofs.Common.{◌≡◌, Some, None, ap, ◌∙◌, sym}
use Rattle.member_node.proofs.Common.{Open, result_meant}
use Rattle.member_node.specs.declared.operation.Operation.TheVariants.{Finished, TimedOut}
use Rattle.member_node.specs.Operations.{kept_at}
use Rattle.member_node.proofs.Operating.{looked, looked_result}
use Rattle.member_node.proofs.node.Node.look.Goals as goal

pub returns-in-Some-Open : goal.returns-in-Some-Open
returns-in-Some-Open g c = λ kinds logs node s.
    looked c.args.self.now.operations node s.operations c.args.op (Some (Open c.in-Some-Open.field-0-0)) (sym c.in-Some-Open.ensures ∙ ap Some c.in-Some-Open.field-0-is)

pub returns-in_ok-copy-in-Some-Finished : goal.returns-in_ok-copy-in-Some-Finished
returns-in_ok-copy-in-Some-Finished g c = λ kinds logs node s.
    let operations = c.args.self.now.operations in
    let end = c.in-Some-Finished.result in
    let there : kept_at operations c.args.op ≡ Some (Finished end) = sym c.in-Some-Finished.ensures ∙ ap Some c.in-Some-Finished.field-0-is in (
      looked operations node s.operations c.args.op (Some (Finished end)) there,
      looked_result operations node s.operations c.args.op (Some (Finished end)) there ∙ ap (λ e. Some (result_meant e)) (sym c.in_ok-copy-in-Some-Finished.ensures),
    )

pub returns-in-Some-TimedOut : goal.returns-in-Some-TimedOut
returns-in-Some-TimedOut g c = λ kinds logs node s.
    let operations = c.args.self.now.operations in
    let there : kept_at operations c.args.op ≡ Some TimedOut = sym c.in-Some-TimedOut.ensures ∙ ap Some c.in-Some-TimedOut.field-0-is in
    (looked operations node s.operations c.args.op (Some TimedOut) there, looked_result operations node s.operations c.args.op (Some TimedOut) there)

pub returns-in-None : goal.returns-in-None
returns-in-None g c = λ kinds logs node s.
    let operations = c.args.self.now.operations in
    (looked operations node s.operations c.args.op None (sym c.in-None.ensures), looked_result operations node s.operations c.args.op None (sym c.in-None.ensures))
