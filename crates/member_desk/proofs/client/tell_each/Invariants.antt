use Rattle.std.proofs.Common.{◌≡◌}
use Rattle.member_node.proofs.Lists.{mapped_before}
use Rattle.member_desk.specs.Notices.{told_client}
use Rattle.member_desk.proofs.client.tell_each.Given as goal

-- those so far are noted
abbrev pub invariant-loop-client : goal.invariant-loop-client
invariant-loop-client l = l.clients ≡ mapped_before told_client l.fn.clients l.client-index
