use Rattle.std.proofs.Common.{None, refl, sym, ap, ◌∙◌, subst, inl}
use Rattle.member_node.proofs.Common.{known, one_step_later, key_state, NoStore, step_of_take, answer_to, entry_digest, StandsForPosts, Nothing, Prepared, IsPrepared, replication}
use Rattle.model_members.specs.Message.{Message as Sent}
use Rattle.model_members.specs.Node.Reply.{Taken}
use Rattle.model_members.specs.Step.{sent, answered_entry}
use Rattle.member_node.specs.declared.operations.OperationChange.TheVariants.{Same}
use Rattle.member_node.specs.declared.reply.Reply.TheVariants as reply
use Rattle.member_node.proofs.Planned.{sound_still, prepared_later}
use Rattle.member_node.proofs.TakingSteps.{member_is, step_taken}
use Rattle.member_node.proofs.node.Node.read_taken.Goals as goal

pub returns-clause-sound : goal.returns-clause-sound
returns-clause-sound g c = record { plan = sound_still c.args.self.now Nothing refl; operations = tt; pending = refl }

pub returns-clause-image : goal.returns-clause-image
returns-clause-image g c = λ kinds logs node input s i safe.
    let R = g.T.Replica in
    let S = g.T.SpelledData in
    let D = replication R S in
    let code = c.args.self.now in
    let from = c.args.from in
    let op = c.args.op in
    let key = c.args.key.now in
    let later = one_step_later node in
    let answer = Sent.ReadAnswer op key (answered_entry D (key_state node key)) in
    let next = sent later Taken (answer_to D from answer) in
    let member = member_is R.kind_of R.IsDataOf kinds logs code node s from ∙ c.requires in
    let same = step_taken D node from input i.told i.is member ∙ ap (step_of_take D later from NoStore) i.message_stands in
    let stands = c.in_ok-message.ensures (entry_digest S.history_byte S.history_spelled) kinds logs node s in
    let prepared : Prepared g.row.T.Denot g.row.T-Kind.Denot g.row.T-Op.Denot g.row.T-Delta.Denot R =
    record { view = None; plan = Nothing; operations = Same; output = record { reply = reply.Taken; posts = c.in_ok-posts.posts; finished = None } } in
    subst (λ st. IsPrepared {ghosts = R} kinds logs code.keys.items (known code.operations) node st prepared) (sym same)
    (prepared_later kinds logs code node s prepared next refl refl refl refl (record {
      reply = refl;
      posts = subst (λ posts. StandsForPosts {ghosts = R} R.kind_of R.IsDataOf kinds logs posts (answer_to D from answer)) (sym c.in_ok-posts.ensures) (record { to = refl; message = stands }, tt);
      ended = refl;
    }))

pub returns-clause-replies : goal.returns-clause-replies
returns-clause-replies g c = record { stored = refl; failing = inl tt; ends = tt }
