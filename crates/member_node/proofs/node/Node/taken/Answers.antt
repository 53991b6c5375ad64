use Rattle.std.proofs.Common.{refl, sym, ap, ◌∙◌, subst, IfOk}
use Rattle.member_node.proofs.Common.{known, one_step_later, NoStore, step, step_of_take, StandsForTaken, IsPrepared, Prepares, replication}
use Rattle.model_members.proofs.Taking.{step-take-stranger}
use Rattle.member_messages.specs.declared.message.Message.TheVariants.{ReadAnswer}
use Rattle.member_node.specs.declared.input.Input.TheVariants as input
use Rattle.member_node.specs.declared.reply.Reply.TheVariants as reply
use Rattle.member_node.proofs.TakingSteps.{member_is, step_taken, exchanges}
use Rattle.member_node.proofs.Planned.{sound_told, prepared_answered}
use Rattle.member_node.specs.Answerable.{RepliesTo}
use Rattle.member_node.proofs.Answerings.{replies_told}
use Rattle.member_node.proofs.node.Node.taken.Goals as goal

pub returns-then-not-contains-clause-sound : goal.returns-then-not-contains-clause-sound
returns-then-not-contains-clause-sound g c = sound_told c.args.self.now c.reply.result reply.NotFromMember c.reply.ensures.plan c.reply.ensures.operations c.reply.ensures.output refl

pub returns-then-not-contains-clause-image : goal.returns-then-not-contains-clause-image
returns-then-not-contains-clause-image g c = λ kinds logs node sent s i safe.
    let R = g.T.Replica in
    let D = replication R g.T.SpelledData in
    let code = c.args.self.now in
    let stranger = member_is R.kind_of R.IsDataOf kinds logs code node s c.args.from ∙ sym c.contains.ensures ∙ c.if-not-contains.true in
    subst (λ i. IsPrepared {ghosts = R} kinds logs code.keys.items (known code.operations) node (step D node i NoStore) c.reply.result) (sym i.is)
    (prepared_answered kinds logs code node s c.reply.result reply.NotFromMember c.reply.ensures.view c.reply.ensures.plan c.reply.ensures.operations c.reply.ensures.output _ (step-take-stranger D node c.args.from i.told NoStore stranger))

pub returns-in-Write-clause-image : goal.returns-in-Write-clause-image
returns-in-Write-clause-image g c = subst (λ m. IfOk c.write_taken.result (Prepares g.T.SpelledData c.args.self.now (input.Take c.args.from m))) (sym c.in-Write.is) c.write_taken.ensures.image

pub returns-in-WriteAck-clause-image : goal.returns-in-WriteAck-clause-image
returns-in-WriteAck-clause-image g c = subst (λ m. IfOk c.acknowledged.result (Prepares g.T.SpelledData c.args.self.now (input.Take c.args.from m))) (sym c.in-WriteAck.is) c.acknowledged.ensures.image

pub returns-in-WriteNack-clause-sound : goal.returns-in-WriteNack-clause-sound
returns-in-WriteNack-clause-sound g c = sound_told c.args.self.now c.reply-in-WriteNack.result reply.Taken c.reply-in-WriteNack.ensures.plan c.reply-in-WriteNack.ensures.operations c.reply-in-WriteNack.ensures.output refl

pub returns-in-WriteNack-clause-image : goal.returns-in-WriteNack-clause-image
returns-in-WriteNack-clause-image g c = λ kinds logs node sent s i safe.
    let R = g.T.Replica in
    let D = replication R g.T.SpelledData in
    let code = c.args.self.now in
    let told = c.reply-in-WriteNack in
    let member = member_is R.kind_of R.IsDataOf kinds logs code node s c.args.from ∙ sym c.contains.ensures ∙ c.if-not-contains.false in
    let stands = subst (λ m. StandsForTaken kinds logs code.keys.items m i.told) c.in-WriteNack.is i.message_stands in
    let same = step_taken D node c.args.from sent i.told i.is member ∙ ap (step_of_take D (one_step_later node) c.args.from NoStore) stands in
    prepared_answered kinds logs code node s told.result reply.Taken told.ensures.view told.ensures.plan told.ensures.operations told.ensures.output _ same

pub returns-in-Read-clause-image : goal.returns-in-Read-clause-image
returns-in-Read-clause-image g c = subst (λ m. IfOk c.read_taken.result (Prepares g.T.SpelledData c.args.self.now (input.Take c.args.from m))) (sym c.in-Read.is) c.read_taken.ensures.image

pub returns-in-ReadAnswer-clause-image : goal.returns-in-ReadAnswer-clause-image
returns-in-ReadAnswer-clause-image g c =
    let is = ap (λ o. ReadAnswer c.in-ReadAnswer.op c.in-ReadAnswer.key o) c.as_ref.ensures.value ∙ sym c.in-ReadAnswer.is in
    subst (λ m. IfOk c.answer_taken.result (Prepares g.T.SpelledData c.args.self.now (input.Take c.args.from m))) is c.answer_taken.ensures.image

pub exchanged-requires-clause-exchange : goal.exchanged-requires-clause-exchange
exchanged-requires-clause-exchange g c = exchanges c.args.message.now c.in_default.not-Write c.in_default.not-WriteAck c.in_default.not-WriteNack c.in_default.not-Read c.in_default.not-ReadAnswer

pub returns-then-not-contains-clause-replies : goal.returns-then-not-contains-clause-replies
returns-then-not-contains-clause-replies g c = replies_told (input.Take c.args.from c.args.message.now) c.reply.result reply.NotFromMember c.reply.ensures.plan c.reply.ensures.output refl

pub returns-in-WriteNack-clause-replies : goal.returns-in-WriteNack-clause-replies
returns-in-WriteNack-clause-replies g c = replies_told (input.Take c.args.from c.args.message.now) c.reply-in-WriteNack.result reply.Taken c.reply-in-WriteNack.ensures.plan c.reply-in-WriteNack.ensures.output refl

pub returns-in-Write-clause-replies : goal.returns-in-Write-clause-replies
returns-in-Write-clause-replies g c = subst (λ m. IfOk c.write_taken.result (RepliesTo (input.Take c.args.from m))) (sym c.in-Write.is) c.write_taken.ensures.replies

pub returns-in-WriteAck-clause-replies : goal.returns-in-WriteAck-clause-replies
returns-in-WriteAck-clause-replies g c = subst (λ m. IfOk c.acknowledged.result (RepliesTo (input.Take c.args.from m))) (sym c.in-WriteAck.is) c.acknowledged.ensures.replies

pub returns-in-Read-clause-replies : goal.returns-in-Read-clause-replies
returns-in-Read-clause-replies g c = subst (λ m. IfOk c.read_taken.result (RepliesTo (input.Take c.args.from m))) (sym c.in-Read.is) c.read_taken.ensures.replies

pub returns-in-ReadAnswer-clause-replies : goal.returns-in-ReadAnswer-clause-replies
returns-in-ReadAnswer-clause-replies g c =
    let is = ap (λ o. ReadAnswer c.in-ReadAnswer.op c.in-ReadAnswer.key o) c.as_ref.ensures.value ∙ sym c.in-ReadAnswer.is in
    subst (λ m. IfOk c.answer_taken.result (RepliesTo (input.Take c.args.from m))) is c.answer_taken.ensures.replies
