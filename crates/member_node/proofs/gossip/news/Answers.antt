use Rattle.std.proofs.Common.{◌++◌, ◌∷◌, [], Some, find, sym, ap, ◌∙◌, subst, arith, take, take_all, map}
use Rattle.std.specs.List.{AllZip}
use Rattle.std.proofs.lemmas.Option.{slice_get-get_or}
use Rattle.member_node.proofs.Common.{state_of, keyed_entry, Envelope, Keyed, digest_told, StandsForKeyed, declared_by, HoldsKey}
use Rattle.model_members.specs.Node as nodes
use Rattle.member_node.specs.Gossip.{is_news, is_wanted, news_of, wants_of}
use Rattle.member_node.proofs.Lists.{one_more, zip_push}
use Rattle.member_node.proofs.Sendings.{chosen_one, chosen_none, states_are, keyed_of}
use Rattle.member_node.proofs.ToldInOrder.{is_of, find_after, names_apart, compared_alike}
use Rattle.member_node.proofs.gossip.news.Goals as goal
use Rattle.member_node.proofs.gossip.news.Goals.{then-comparison+in_ok-item+in_ok-push, else-comparison, then-comparison-2+in_ok-push-2, else-comparison-2}

pub loop-state-preserved : goal.loop-state-preserved
loop-state-preserved g c =
    let R = g.T.Replica in
    let keys = c.args.keys.now in
    let ds = map digest_told c.args.digests.now in
    let i = c.loop-state.state-index in
    let state = c.state-item.result in
    let within = c.loop-state-test.true in
    let standing = slice_get-get_or keys i state within ∙ ap Some (sym c.state-item.is) in
    let left = c.loop-state.invariant.rest i state (omega arith) standing in
    record {
      rest = λ k other beyond there.
          c.loop-state.invariant.rest k other (omega arith) there
          ∙ sym (find_after state.name other.name (names_apart keys c.requires.distinct i k state other standing there (omega arith)) c.loop-state.rest.now)
          ∙ ap (find (is_of other.name)) (sym c.after-rest.ensures);
      entries = λ D kinds logs node same holds.
          let S = StandsForKeyed R.kind_of R.IsDataOf kinds logs in
          let here = subst (HoldsKey R.kind_of R.IsDataOf kinds logs node) (sym c.state-item.is) (holds i state within) in
          let compared = compared_alike D c.loop-state.rest.now c.args.digests.now (state_of node (declared_by state)) c.in_ok-comparison.comparison left (c.in_ok-comparison.ensures D kinds logs node same here) in
          let so_far = c.loop-state.invariant.entries D kinds logs node same holds in
          let more = ap (λ ks. news_of D ds (map (λ state. state_of node (declared_by state)) ks)) (one_more keys i state within c.state-item.is) in
          elim c.if-comparison.branch [
            | then-comparison+in_ok-item+in_ok-push w ↦
                let keyed : Keyed (Envelope g.row.T.Denot g.row.T-Kind.Denot g.row.T-Op.Denot g.row.T-Delta.Denot) = record { key = w.copied-key.result; item = w.in_ok-item.item } in
                subst (λ ys. AllZip S c.if-comparison.entries ys) (sym (more ∙ chosen_one (λ state. state_of node (declared_by state)) (is_news D ds) keyed_entry (take i keys) state (sym compared.news ∙ w.if-comparison.true)))
                (subst (λ xs. AllZip S xs (news_of D ds (map (λ state. state_of node (declared_by state)) (take i keys)) ++ keyed_entry (state_of node (declared_by state)) ∷ [])) (sym (w.entries-is ∙ w.in_ok-push.ensures.ok))
                (zip_push S c.loop-state.entries (news_of D ds (map (λ state. state_of node (declared_by state)) (take i keys))) keyed (keyed_entry (state_of node (declared_by state))) so_far
                (keyed_of R.kind_of R.IsDataOf kinds logs node state w.copied-key.result w.in_ok-item.item here w.copied-key.ensures (w.in_ok-item.ensures ∙ w.envelope.ensures))))
            | else-comparison w ↦
                subst (λ ys. AllZip S c.if-comparison.entries ys) (sym (more ∙ chosen_none (λ state. state_of node (declared_by state)) (is_news D ds) keyed_entry (take i keys) state (sym compared.news ∙ w.if-comparison.false)))
                (subst (λ xs. AllZip S xs (news_of D ds (map (λ state. state_of node (declared_by state)) (take i keys)))) (sym w.entries-is) so_far)
          ];
      wants = λ D kinds logs node same holds.
          let here = subst (HoldsKey R.kind_of R.IsDataOf kinds logs node) (sym c.state-item.is) (holds i state within) in
          let compared = compared_alike D c.loop-state.rest.now c.args.digests.now (state_of node (declared_by state)) c.in_ok-comparison.comparison left (c.in_ok-comparison.ensures D kinds logs node same here) in
          let so_far = c.loop-state.invariant.wants D kinds logs node same holds in
          let more = ap (λ ks. wants_of D ds (map (λ state. state_of node (declared_by state)) ks)) (one_more keys i state within c.state-item.is) in
          elim c.if-comparison-2.branch [
            | then-comparison-2+in_ok-push-2 w ↦
                w.wants-is ∙ w.in_ok-push-2.ensures.ok ∙ (λ j. so_far j ++ w.copied-name.ensures j ∷ [])
                ∙ sym (more ∙ chosen_one (λ state. state_of node (declared_by state)) (is_wanted D ds) (λ k. k.name) (take i keys) state (sym compared.wanted ∙ w.if-comparison-2.true))
            | else-comparison-2 w ↦
                w.wants-is ∙ so_far ∙ sym (more ∙ chosen_none (λ state. state_of node (declared_by state)) (is_wanted D ds) (λ (k : nodes.KeyState g.row.T-Kind.Denot g.row.T-Op.Denot). k.name) (take i keys) state (sym compared.wanted ∙ w.if-comparison-2.false))
          ];
    }

pub returns : goal.returns
returns g c =
    let keys = c.args.keys.now in
    let ds = map digest_told c.args.digests.now in
    record {
      entries = λ D kinds logs node same holds declares.
          let R = g.T.Replica in
          subst (λ ys. AllZip (StandsForKeyed R.kind_of R.IsDataOf kinds logs) c.loop-state.entries ys)
          (ap (λ ks. news_of D ds (map (λ state. state_of node (declared_by state)) ks)) (take_all c.loop-state.state-index keys (omega arith)) ∙ ap (news_of D ds) (states_are node keys declares))
          (c.loop-state.invariant.entries D kinds logs node same holds);
      wants = λ D kinds logs node same holds declares.
          c.loop-state.invariant.wants D kinds logs node same holds
          ∙ ap (λ ks. wants_of D ds (map (λ state. state_of node (declared_by state)) ks)) (take_all c.loop-state.state-index keys (omega arith)) ∙ ap (wants_of D ds) (states_are node keys declares);
    }
