use Rattle.std.proofs.Common.{◌≡◌, true, false, take, ap, sym, ◌∙◌, arith, ◌++◌, ◌∷◌, [], take_all, ◌==◌}
use Rattle.std.proofs.lemmas.Bool.Decides.{nat_tests}
use Rattle.member_node.proofs.Lists.{one_more}
use Rattle.member_node.proofs.Operating.{to_peers, to_peers-one, to_peers-none}
use Rattle.member_node.proofs.opening.to_others.Goals as goal
use Rattle.member_node.proofs.opening.to_others.Goals.{then-ne+in_ok-message+in_ok-push, else-ne}

pub loop-peer-preserved : goal.loop-peer-preserved
loop-peer-preserved g c =
    let R = g.T.Replica in
    let id = c.args.id in
    let message = c.args.message.now in
    let so_far = take c.loop-peer.peer-index c.args.members.now in
    let peer = c.peer-item.result in
    let more = ap (to_peers {ghosts = R} id message) (one_more c.args.members.now c.loop-peer.peer-index peer c.loop-peer-test.true c.peer-item.is) in
    elim c.if-ne.branch [
      | then-ne+in_ok-message+in_ok-push w ↦
          let other : (c.peer-item.result == c.args.id) ≡ false = grind (arith, nat_tests) in
          w.posts-is ∙ w.in_ok-push.ensures.ok ∙ (λ j. c.loop-peer.invariant j ++ record { to = peer; message = w.in_ok-message.ensures j } ∷ []) ∙ sym (more ∙ to_peers-one {ghosts = R} id message so_far peer other)
      | else-ne w ↦
          let same : (c.peer-item.result == c.args.id) ≡ true = grind (arith, nat_tests) in
          w.posts-is ∙ c.loop-peer.invariant ∙ sym (more ∙ to_peers-none {ghosts = R} id message so_far peer same)
    ]

pub returns : goal.returns
returns g c = c.loop-peer.invariant ∙ ap (to_peers {ghosts = g.T.Replica} c.args.id c.args.message.now) (take_all c.loop-peer.peer-index c.args.members.now (omega arith))
