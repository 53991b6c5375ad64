use Rattle.std.proofs.Common.{◌≡◌, ℕ, take}
use Rattle.member_node.proofs.Common.{number_at, peers_of}
use Rattle.member_node.specs.Sending.{flushed_to}
use Rattle.member_node.proofs.sending.flushed.Given as goal

abbrev pub invariant-loop-peer : goal.invariant-loop-peer
invariant-loop-peer g l = (i : ℕ) → number_at l.flushed i ≡ flushed_to l.own (peers_of l.id (take l.peer-index l.members)) (number_at l.state.flushed i) i
