use Rattle.std.proofs.Common.{sym, ap, ◌∙◌, subst, map, IfOk}
use Rattle.model_members.specs.Message.{Message as Sent}
use Rattle.member_node.proofs.Common.{NoStore, step_of_take, entry_digest, digest_told, StandsForTaken}
use Rattle.member_node.specs.Answers.{IsTaken}
use Rattle.member_node.specs.Replies.{spelled_groups}
use Rattle.member_node.proofs.TakingSteps.{no_status}
use Rattle.member_node.proofs.taking.taken.Goals as goal

pub returns-in_default-clause-image : goal.returns-in_default-clause-image
returns-in_default-clause-image g c = λ kinds logs node sent held_by stands exchange exact.
    let S = g.T.SpelledData in
    c.brought.ensures.image (entry_digest S.history_byte S.history_spelled) kinds logs node sent held_by stands (no_status c.args.message.now c.in_default.not-Status) exchange exact

pub returns-in-Status-clause-image : goal.returns-in-Status-clause-image
returns-in-Status-clause-image g c = λ kinds logs node sent held_by stands exchange exact.
    let R = g.T.Replica in
    let D = spelled_groups R.data_type g.T.SpelledData.history_byte g.T.SpelledData.history_spelled in
    let told = subst (λ message. StandsForTaken kinds logs c.args.keys.now message sent) c.in-Status.is stands in
    subst (λ (m : Sent g.row.T-Op.Denot). IfOk c.compared.result (IsTaken R.kind_of R.IsDataOf kinds logs c.args.keys.now node (step_of_take D node c.args.from NoStore m)))
    (sym (told ∙ ap (λ ds. Sent.Status (map digest_told ds)) (sym c.as_slice.ensures))) (c.compared.ensures.image kinds logs node held_by.held held_by.declares)
