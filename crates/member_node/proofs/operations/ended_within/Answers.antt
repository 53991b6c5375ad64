use Rattle.std.proofs.Common.{◌≡◌, ℕ, ◌<◌, List, Some, length, get_or, slice_get, sym, ◌∙◌, subst, arith}
use Rattle.member_node.specs.declared.operation.Operation.{Operation}
use Rattle.member_node.specs.Ended.{ended_first}
use Rattle.member_node.proofs.Forgetting.{ended-length, there, ended-one_more, ended-found}
use Rattle.member_node.proofs.operations.ended_within.Goals as goal

-- the operation that the loop has come to
come_to : (operations : List Operation) (ended index : ℕ) (x : Operation) → ended ≡ index → index < length operations → x ≡ get_or operations index x → slice_get operations ended ≡ Some x
come_to operations ended index x same below is = subst (λ k. slice_get operations k ≡ Some x) (sym same) (there operations index x below is)

pub returns-then-is_open : goal.returns-then-is_open
returns-then-is_open c =
    let operations = c.args.operations.now in
    let ended = c.loop-operation.ended in
    let at = c.loop-operation.invariant in
    let few = at.1 in
    let here = come_to operations ended c.loop-operation.operation-index c.operation-item.result at.0 c.loop-operation-test.true c.operation-item.is in
    let found : ended_first operations ≡ ended = ended-found operations ended c.operation-item.result here (sym c.is_open.ensures ∙ c.if-is_open.true) at.2 in
    omega arith

pub loop-operation-preserved : goal.loop-operation-preserved
loop-operation-preserved c =
    let operations = c.args.operations.now in
    let ended = c.loop-operation.ended in
    let at = c.loop-operation.invariant in
    let same = at.0 in
    let here = come_to operations ended c.loop-operation.operation-index c.operation-item.result same c.loop-operation-test.true c.operation-item.is in
    let more : ended < ended_first operations = ended-one_more operations ended c.operation-item.result here (sym c.is_open.ensures ∙ c.if-is_open.false) at.2 in
    let below = c.if-ended-most.false in
    (omega arith, omega arith, omega arith)

pub returns : goal.returns
returns c =
    let at = c.loop-operation.invariant in
    let same = at.0 in
    let few = at.1 in
    let within = at.2 in
    let long = ended-length c.args.operations.now in
    let past = c.loop-operation-test.false in
    omega arith
