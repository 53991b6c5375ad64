use Rattle.std.proofs.Common.{◌≡◌}
use Rattle.member_node.proofs.keeping.keep_told.Given as goal

abbrev pub invariant-loop-state : goal.invariant-loop-state
invariant-loop-state g l = l.keys ≡ l.fn.keys
