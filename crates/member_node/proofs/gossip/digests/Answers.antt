use Rattle.std.proofs.Common.{◌≡◌, ◌++◌, ◌∷◌, [], sym, ap, ◌∙◌, subst, arith, take, take_all, map}
use Rattle.std.proofs.lemmas.List.{map-append}
use Rattle.member_node.proofs.Common.{has_records, state_of, StandsFor, parts_of, digest_told, declared_by, HoldsKey}
use Rattle.model_members.specs.Message.{Message}
use Rattle.model_members.specs.Step.{digest_of}
use Rattle.member_node.specs.Gossip.{digests_of}
use Rattle.member_node.proofs.Lists.{one_more}
use Rattle.member_node.proofs.Sendings.{chosen_one, chosen_none, states_are, digest_is}
use Rattle.member_node.proofs.gossip.digests.Goals as goal
use Rattle.member_node.proofs.gossip.digests.Goals.{then-has_records+in_ok-item+in_ok-push, else-has_records}

pub loop-state-preserved : goal.loop-state-preserved
loop-state-preserved g c = λ D kinds logs node same holds.
    let R = g.T.Replica in
    let S = g.T.SpelledData in
    let keys = c.args.keys.now in
    let i = c.loop-state.state-index in
    let state = c.state-item.result in
    let within = c.loop-state-test.true in
    let here = subst (HoldsKey R.kind_of R.IsDataOf kinds logs node) (sym c.state-item.is) (holds i state within) in
    let has : c.has_records.result ≡ has_records (node.entries state.name) = c.has_records.ensures.image (logs state.name) (node.entries state.name) (subst (λ entry. StandsFor R.IsDataOf (parts_of entry) (logs state.name) (node.entries state.name)) (sym c.envelope.ensures) here.held.image) in
    let so_far = c.loop-state.invariant D kinds logs node same holds in
    let more = ap (λ ks. digests_of D (map (λ state. state_of node (declared_by state)) ks)) (one_more keys i state within c.state-item.is) in
    elim c.if-has_records.branch [
      | then-has_records+in_ok-item+in_ok-push w ↦
          let own = w.in_ok-item.ensures (logs state.name) (node.entries state.name) here.held.image ∙ digest_is S.history_byte S.history_spelled R.kind_of R.IsDataOf kinds logs D same node state here in
          ap (map digest_told) (w.digests-is ∙ w.in_ok-push.ensures.ok) ∙ map-append digest_told c.loop-state.digests _
          ∙ (λ j. so_far j ++ record { key = w.copied-key.ensures j; item = own j } ∷ [])
          ∙ sym (more ∙ chosen_one (λ state. state_of node (declared_by state)) (λ k. has_records k.entry) (λ k. record { key = k.name; item = digest_of D k }) (take i keys) state (sym has ∙ w.if-has_records.true))
      | else-has_records w ↦
          ap (map digest_told) w.digests-is ∙ so_far
          ∙ sym (more ∙ chosen_none (λ state. state_of node (declared_by state)) (λ k. has_records k.entry) (λ k. record { key = k.name; item = digest_of D k }) (take i keys) state (sym has ∙ w.if-has_records.false))
    ]

pub returns : goal.returns
returns g c = λ D kinds logs node same holds declares.
    let keys = c.args.keys.now in
    ap Message.Status (sym (
    c.loop-state.invariant D kinds logs node same holds
    ∙ ap (λ ks. digests_of D (map (λ state. state_of node (declared_by state)) ks)) (take_all c.loop-state.state-index keys (omega arith)) ∙ ap (digests_of D) (states_are node keys declares)))
