use Rattle.std.proofs.Common.{None, refl, sym, ap, ◌∙◌, subst, map, All, inl}
use Rattle.member_node.proofs.Common.{known, one_step_later, NoStore, step, StandsForPosts, Nothing, Prepared, declared_by, HoldsKey, IsPrepared, replication}
use Rattle.member_node.specs.declared.operations.OperationChange.TheVariants.{Same}
use Rattle.member_node.specs.declared.reply.Reply.TheVariants as reply
use Rattle.member_node.proofs.TakingSteps.{step-gossip-no_peer, step-gossip-peer, no_peer_is, holds_first}
use Rattle.member_node.proofs.Planned.{sound_still, sound_as, sound_told, prepared_answered, prepared_later}
use Rattle.member_node.specs.declared.input.Input.TheVariants as inputs
use Rattle.member_node.proofs.Answerings.{replies_told}
use Rattle.member_node.proofs.node.Node.gossiped.Goals as goal

pub returns-then-not-is_peer-clause-sound : goal.returns-then-not-is_peer-clause-sound
returns-then-not-is_peer-clause-sound g c = sound_told c.args.self.now c.reply.result reply.NotAPeer c.reply.ensures.plan c.reply.ensures.operations c.reply.ensures.output refl

pub returns-then-not-is_peer-clause-image : goal.returns-then-not-is_peer-clause-image
returns-then-not-is_peer-clause-image g c = λ kinds logs node sent s is safe.
    let R = g.T.Replica in
    let D = replication R g.T.SpelledData in
    let code = c.args.self.now in
    let none = no_peer_is R.kind_of R.IsDataOf kinds logs code node s c.args.to _ _ c.is_peer.ensures c.if-not-is_peer.true in
    subst (λ i. IsPrepared {ghosts = R} kinds logs code.keys.items (known code.operations) node (step D node i NoStore) c.reply.result) (sym is)
    (prepared_answered kinds logs code node s c.reply.result reply.NotAPeer c.reply.ensures.view c.reply.ensures.plan c.reply.ensures.operations c.reply.ensures.output _ (step-gossip-no_peer D node c.args.to NoStore none))

pub returns-clause-sound : goal.returns-clause-sound
returns-clause-sound g c = sound_as c.args.self.now _ (sound_still c.args.self.now _ refl) refl refl

pub returns-clause-image : goal.returns-clause-image
returns-clause-image g c = λ kinds logs node sent s is safe.
    let R = g.T.Replica in
    let D = replication R g.T.SpelledData in
    let code = c.args.self.now in
    let some = no_peer_is R.kind_of R.IsDataOf kinds logs code node s c.args.to _ _ c.is_peer.ensures c.if-not-is_peer.false in
    let same = step-gossip-peer D node c.args.to NoStore some in
    let holds = subst (All (HoldsKey R.kind_of R.IsDataOf kinds logs (one_step_later node))) (sym c.deref.ensures.value) (holds_first R.kind_of R.IsDataOf kinds logs code node s) in
    let posts = c.in_ok-posts.ensures.image D kinds logs (one_step_later node) refl holds (s.keys ∙ ap (map declared_by) (sym c.deref.ensures.value)) in
    let prepared : Prepared g.row.T.Denot g.row.T-Kind.Denot g.row.T-Op.Denot g.row.T-Delta.Denot R = record { view = None; plan = Nothing; operations = Same; output = record { reply = reply.Done; posts = c.in_ok-posts.posts; finished = None } } in
    subst (λ i. IsPrepared {ghosts = R} kinds logs code.keys.items (known code.operations) node (step D node i NoStore) prepared) (sym is)
    (prepared_later kinds logs code node s prepared _ refl refl refl (ap (λ st. st.node) same) (record {
      reply = sym (ap (λ st. st.output.reply) same);
      posts = subst (StandsForPosts {ghosts = R} R.kind_of R.IsDataOf kinds logs c.in_ok-posts.posts) (sym (ap (λ st. st.output.posts) same)) posts;
      ended = ap (λ st. st.output.ended) same;
    }))

pub returns-then-not-is_peer-clause-replies : goal.returns-then-not-is_peer-clause-replies
returns-then-not-is_peer-clause-replies g c = replies_told (inputs.GossipTo c.args.to) c.reply.result reply.NotAPeer c.reply.ensures.plan c.reply.ensures.output refl

pub returns-clause-replies : goal.returns-clause-replies
returns-clause-replies g c = record { stored = refl; failing = inl tt; ends = refl }
