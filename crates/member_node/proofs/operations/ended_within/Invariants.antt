use Rattle.std.proofs.Common.{◌≡◌, ◌≤◌}
use Rattle.member_node.specs.Ended.{ended_first}
use Rattle.member_node.proofs.operations.ended_within.Given as goal

abbrev pub invariant-loop-operation : goal.invariant-loop-operation
invariant-loop-operation l = (l.ended ≡ l.operation-index) × (l.ended ≤ l.most) × (l.ended ≤ ended_first l.operations)
