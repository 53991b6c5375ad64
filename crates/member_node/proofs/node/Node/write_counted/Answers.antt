use Rattle.std.proofs.Common.{◌≡◌, ap, refl, subst, not}
use Rattle.member_node.specs.Operations.{known}
use Rattle.member_node.specs.declared.operation.OperationResult.TheVariants.{Wrote}
use Rattle.member_node.specs.Counting.{open_at, is_write, IsAnswered}
use Rattle.member_node.proofs.Operating.{none_open, other_open, counts_nothing, counts_waits, counts_ends}
use Rattle.member_node.proofs.node.Node.write_counted.Goals as goal

pub returns-in_default : goal.returns-in_default
returns-in_default g c =
    let operations = known c.args.self.now.operations in
    counts_nothing operations c.args.from c.args.op is_write (λ end. end ≡ Wrote) c.nothing.result (none_open is_write (open_at operations c.args.op) c.in_default.ensures) c.nothing.ensures

pub returns-then-asked : goal.returns-then-asked
returns-then-asked g c =
    let operations = known c.args.self.now.operations in
    counts_nothing operations c.args.from c.args.op is_write (λ end. end ≡ Wrote) c.nothing-then-asked.result
    (other_open is_write (open_at operations c.args.op) c.in-Some.asked.now c.in-Some.ensures (ap not c.if-asked.true)) c.nothing-then-asked.ensures

pub returns-in-Some-2 : goal.returns-in-Some-2
returns-in-Some-2 g c =
    counts_waits (known c.args.self.now.operations) c.args.from c.args.op is_write (λ end. end ≡ Wrote) c.open.result c.in-Some.asked.now c.in-Some-2.asked c.in-Some.ensures (ap not c.if-asked.false)
    (subst (IsAnswered c.in-Some.asked.now c.args.from) c.in-Some-2.is c.in_ok-asked.ensures) c.open.ensures

pub returns-in-None : goal.returns-in-None
returns-in-None g c =
    counts_ends (known c.args.self.now.operations) c.args.from c.args.op is_write (λ end. end ≡ Wrote) c.ended.result c.in-Some.asked.now Wrote c.in-Some.ensures (ap not c.if-asked.false)
    (subst (IsAnswered c.in-Some.asked.now c.args.from) c.in-None.is c.in_ok-asked.ensures) refl c.ended.ensures
