use Rattle.std.proofs.Common.{◌≡◌, sym, ap, ◌∙◌, subst, map, ◌&&◌, ◌||◌, not, is_some}
use Rattle.member_node.proofs.Common.{has_records, state_of, StandsFor, parts_of, entry_digest, digest_told, declared_by}
use Rattle.model_members.specs.Step.{digest_of, named_digest}
use Rattle.member_node.specs.Gossip.{is_told, is_alike}
use Rattle.member_node.proofs.Sendings.{told_named, is_told_is, digest_is}
use Rattle.member_node.proofs.gossip.compare.Goals as goal

pub returns : goal.returns
returns g c = λ D kinds logs node same holds.
    let S = g.T.SpelledData in
    let state = c.args.state.now in
    let k = state_of node (declared_by state) in
    let ds = map digest_told c.args.digests.now in
    let has : c.has_records-has_records.result ≡ has_records k.entry = c.has_records-has_records.ensures.image (logs state.name) (node.entries state.name) (subst (λ entry. StandsFor g.T.Replica.IsDataOf (parts_of entry) (logs state.name) (node.entries state.name)) (sym c.envelope.ensures) holds.held.image) in
    let own : entry_digest S.history_byte S.history_spelled (g.T.Replica.kind_of state.entry.value) (node.entries state.name) ≡ digest_of D k =
    digest_is S.history_byte S.history_spelled g.T.Replica.kind_of g.T.Replica.IsDataOf kinds logs D same node state holds in
    let told : c.told_of-told.result ≡ named_digest D ds state.name = c.told_of-told.ensures ∙ told_named D c.args.digests.now state.name in
    let alike : c.in_ok-is_alike.is_alike ≡ is_alike D ds k = c.in_ok-is_alike.ensures (logs state.name) (node.entries state.name) holds.held.image ∙ (λ i. is_told (told i) (own i)) ∙ is_told_is D (named_digest D ds state.name) (digest_of D k) in
    record {
      news = c.compared.ensures.news ∙ (λ i. has i && not (alike i));
      wanted = c.compared.ensures.wanted ∙ (λ i. (c.is_some.ensures ∙ ap is_some told) i && (not (has i) || not (alike i)));
    }
