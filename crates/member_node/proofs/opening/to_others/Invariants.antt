use Rattle.std.proofs.Common.{◌≡◌, take, map}
use Rattle.member_node.proofs.Common.{peers_of}
use Rattle.member_node.proofs.opening.to_others.Given as goal

abbrev pub invariant-loop-peer : goal.invariant-loop-peer
invariant-loop-peer g l = l.posts ≡ map (λ i. record { to = i; message = l.message }) (peers_of l.id (take l.peer-index l.members))
