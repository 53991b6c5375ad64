use Rattle.std.proofs.Common.{◌≡◌, refl, sym, ◌∙◌, subst, None}
use Rattle.member_node.proofs.Common.{History, IsTakenFrom, with_action, Envelope, StandsFor, parts_of}
use Rattle.model_history.specs.History.Action.{Operation}
use Rattle.model_meanings.specs.Refusal.Refusal.{Overflow, ClockSpent, SetFull}
use Rattle.model_members.specs.Entry.{Entry}
use Rattle.data_lattice.specs.Refusals.{IsApplyRefusal}
use Rattle.member_node.specs.declared.key.Updated.TheVariants.{Refused}
use Rattle.member_node.specs.declared.reply.Reply.TheVariants as reply
use Rattle.member_node.specs.Recording.{IsRecorded, StandsForRecorded}
use Rattle.member_node.specs.Updates.{MeansUpdate}
use Rattle.member_node.proofs.Updating.{own_record, means_record, means_refusal}
use Rattle.member_node.proofs.key.KeyState.update.Goals as goal

pub returns-in-Ok : goal.returns-in-Ok
returns-in-Ok g c =
    let R = g.T.Replica in
    let state = c.args.self.now in
    let id = c.args.id in
    let entry = c.next_record.new.entry in
    let next = c.in-Ok.next in
    record {
      owned =
          own_record R id c.args.op.now state entry next c.requires.logged c.requires.room
          (subst (λ (old : Envelope g.row.T.Denot g.row.T-Kind.Denot g.row.T-Op.Denot g.row.T-Delta.Denot). IsRecorded R id state.log old entry next) (c.in_ok-entry.ensures ∙ c.envelope.ensures) c.in-Ok.ensures.recorded);
      means =
          let op = c.args.op.now in
          means_record R id op state entry next c.requires.logged
          (subst (λ (old : Envelope g.row.T.Denot g.row.T-Kind.Denot g.row.T-Op.Denot g.row.T-Delta.Denot). (log : History g.row.T-Op.Denot) (held : Entry g.row.T-Op.Denot) → StandsFor R.IsDataOf (parts_of old) log held
          → R.data_type.refusal (R.kind_of old.value) id op held.history ≡ None) (c.in_ok-entry.ensures ∙ c.envelope.ensures) c.in-Ok.ensures.unrefused)
          (subst (λ (old : Envelope g.row.T.Denot g.row.T-Kind.Denot g.row.T-Op.Denot g.row.T-Delta.Denot). (log : History g.row.T-Op.Denot) (held : Entry g.row.T-Op.Denot) → StandsFor R.IsDataOf (parts_of old) log held
          → IsTakenFrom log (with_action held id (Operation op)).history → StandsForRecorded R state.log log id op held entry next) (c.in_ok-entry.ensures ∙ c.envelope.ensures) c.in-Ok.ensures.image);
      refuses = tt;
    }

pub returns-in-Err-Overflow-clause-means : goal.returns-in-Err-Overflow-clause-means
returns-in-Err-Overflow-clause-means g c =
    let R = g.T.Replica in
    let share = c.in-Err-Overflow.share in
    let amount = c.in-Err-Overflow.amount in
    let error = c.in-Err-Overflow.field-0 in
    subst (MeansUpdate R c.args.id c.args.op.now c.args.self.now) (sym (λ i. Refused (reply.Overflow (c.in-Err-Overflow.share-is i) (c.in-Err-Overflow.amount-is i))))
    (means_refusal R c.args.id c.args.op.now c.args.self.now error (Overflow share amount) (reply.Overflow share amount) c.in-Err-Overflow.field-0-is refl
    (subst (λ (old : Envelope g.row.T.Denot g.row.T-Kind.Denot g.row.T-Op.Denot g.row.T-Delta.Denot). (log : History g.row.T-Op.Denot) (held : Entry g.row.T-Op.Denot) → StandsFor R.IsDataOf (parts_of old) log held
    → IsApplyRefusal (R.data_type.refusal (R.kind_of old.value) c.args.id c.args.op.now held.history) error) (c.in_ok-entry.ensures ∙ c.envelope.ensures) c.in-Err-Overflow.ensures.refused))

pub returns-in-Err-ClockSpent-clause-means : goal.returns-in-Err-ClockSpent-clause-means
returns-in-Err-ClockSpent-clause-means g c =
    let R = g.T.Replica in
    let error = c.in-Err-ClockSpent.field-0 in
    means_refusal R c.args.id c.args.op.now c.args.self.now error ClockSpent reply.ClockSpent c.in-Err-ClockSpent.field-0-is refl
    (subst (λ (old : Envelope g.row.T.Denot g.row.T-Kind.Denot g.row.T-Op.Denot g.row.T-Delta.Denot). (log : History g.row.T-Op.Denot) (held : Entry g.row.T-Op.Denot) → StandsFor R.IsDataOf (parts_of old) log held
    → IsApplyRefusal (R.data_type.refusal (R.kind_of old.value) c.args.id c.args.op.now held.history) error) (c.in_ok-entry.ensures ∙ c.envelope.ensures) c.in-Err-ClockSpent.ensures.refused)

pub returns-clause-means : goal.returns-clause-means
returns-clause-means g c =
    let R = g.T.Replica in
    let error = c.in-Err-SetFull.field-0 in
    means_refusal R c.args.id c.args.op.now c.args.self.now error SetFull reply.SetFull c.in-Err-SetFull.field-0-is refl
    (subst (λ (old : Envelope g.row.T.Denot g.row.T-Kind.Denot g.row.T-Op.Denot g.row.T-Delta.Denot). (log : History g.row.T-Op.Denot) (held : Entry g.row.T-Op.Denot) → StandsFor R.IsDataOf (parts_of old) log held
    → IsApplyRefusal (R.data_type.refusal (R.kind_of old.value) c.args.id c.args.op.now held.history) error) (c.in_ok-entry.ensures ∙ c.envelope.ensures) c.in-Err-SetFull.ensures.refused)
