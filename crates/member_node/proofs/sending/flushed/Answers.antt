use Rattle.std.proofs.Common.{◌≡◌, true, false, take, ap, sym, ◌∙◌, arith, take_all, ◌==◌, if◌then◌else◌}
use Rattle.std.proofs.lemmas.Bool.{not-true, not-false}
use Rattle.member_node.proofs.Common.{number_at, peers_of}
use Rattle.member_node.specs.Sending.{flushed_to}
use Rattle.member_node.proofs.Lists.{one_more}
use Rattle.member_node.proofs.Sendings.{flushed_to-peer, flushed_to-itself}
use Rattle.member_node.proofs.sending.flushed.Goals as goal
use Rattle.member_node.proofs.sending.flushed.Goals.{then-ne+in_ok-set_flushed, else-ne}

pub loop-peer-preserved : goal.loop-peer-preserved
loop-peer-preserved g c = λ i.
    let id = c.args.id in
    let own = c.own_number-own.result in
    let before = number_at c.args.state.now.flushed i in
    let so_far = take c.loop-peer.peer-index c.args.members.now in
    let peer = c.peer-item.result in
    let more = ap (λ ms. flushed_to own (peers_of id ms) before i) (one_more c.args.members.now c.loop-peer.peer-index peer c.loop-peer-test.true c.peer-item.is) in
    elim c.if-ne.branch [
      | then-ne+in_ok-set_flushed w ↦
          let other : (c.peer-item.result == c.args.id) ≡ false = not-true _ (sym w.if-ne.ensures) in
          ap (λ m. number_at m i) w.flushed-is ∙ w.in_ok-set_flushed.ensures i ∙ ap (λ n. if peer == i then own else n) (c.loop-peer.invariant i)
          ∙ sym (more ∙ flushed_to-peer id own before i so_far peer other)
      | else-ne w ↦
          let same : (c.peer-item.result == c.args.id) ≡ true = not-false _ (sym w.if-ne.ensures) in
          ap (λ m. number_at m i) w.flushed-is ∙ c.loop-peer.invariant i ∙ sym (more ∙ flushed_to-itself id own before i so_far peer same)
    ]

pub returns : goal.returns
returns g c = λ i.
    let id = c.args.id in
    let before = number_at c.args.state.now.flushed i in
    let all = take_all c.loop-peer.peer-index c.args.members.now (omega arith) in
    c.loop-peer.invariant i ∙ ap (λ members. flushed_to c.own_number-own.result (peers_of id members) before i) all
    ∙ ap (λ own. flushed_to own (peers_of id c.args.members.now) before i) c.own_number-own.ensures.value
