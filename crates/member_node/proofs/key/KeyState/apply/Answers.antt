use Rattle.std.proofs.Common.{◌≡◌, ℕ, None, refl, ap, subst, ◌∙◌}
use Rattle.member_node.proofs.Common.{History, IsTakenFrom, with_action, Envelope, StandsFor, parts_of, KeyState}
use Rattle.model_history.specs.History.Action.{Operation}
use Rattle.model_meanings.specs.Refusal.Refusal.{Overflow, ClockSpent, SetFull}
use Rattle.model_members.specs.Entry.{Entry}
use Rattle.data_lattice.specs.Refusals.{IsApplyRefusal}
use Rattle.data_lattice.specs.declared.answers.ApplyError.{ApplyError}
use Rattle.member_node.specs.declared.key.Updated.TheVariants.{Refused, Recorded}
use Rattle.member_node.specs.declared.reply.Reply.TheVariants as reply
use Rattle.member_node.specs.Recording.{IsRecorded, StandsForRecorded}
use Rattle.member_node.proofs.Updating.{own_record, means_record, means_refusal}
use Rattle.member_node.proofs.key.KeyState.apply.Given as given
use Rattle.member_node.proofs.key.KeyState.apply.Goals as goal

-- the entry that was lent is the key's
refused_at : (g : given.Over) (state : KeyState g.row.T.Denot g.row.T-Kind.Denot g.row.T-Op.Denot g.row.T-Delta.Denot) (id : ℕ) (op : g.row.T-Op.Denot) (lent : Envelope g.row.T.Denot g.row.T-Kind.Denot g.row.T-Op.Denot g.row.T-Delta.Denot) → lent ≡ state.entry → (error : ApplyError)
    → ((log : History g.row.T-Op.Denot) (held : Entry g.row.T-Op.Denot) → StandsFor g.T.Replica.IsDataOf (parts_of lent) log held → IsApplyRefusal (g.T.Replica.data_type.refusal (g.T.Replica.kind_of lent.value) id op held.history) error)
    → (log : History g.row.T-Op.Denot) (held : Entry g.row.T-Op.Denot) → StandsFor g.T.Replica.IsDataOf (parts_of state.entry) log held → IsApplyRefusal (g.T.Replica.data_type.refusal (g.T.Replica.kind_of state.entry.value) id op held.history) error
refused_at g state id op lent same error =
    subst (λ (old : Envelope g.row.T.Denot g.row.T-Kind.Denot g.row.T-Op.Denot g.row.T-Delta.Denot). (log : History g.row.T-Op.Denot) (held : Entry g.row.T-Op.Denot) → StandsFor g.T.Replica.IsDataOf (parts_of old) log held → IsApplyRefusal (g.T.Replica.data_type.refusal (g.T.Replica.kind_of old.value) id op held.history) error) same

pub returns-in-Ok-clause-applied : goal.returns-in-Ok-clause-applied
returns-in-Ok-clause-applied g c =
    let R = g.T.Replica in
    let state = c.args.self.now in
    let id = c.args.id in
    let op = c.args.op.now in
    let entry = c.next_record.new.entry in
    let next = c.in-Ok.next in
    record {
      updated = Recorded entry next;
      owned = own_record R id op state entry next c.requires.logged c.requires.room (subst (λ (old : Envelope g.row.T.Denot g.row.T-Kind.Denot g.row.T-Op.Denot g.row.T-Delta.Denot). IsRecorded R id state.log old entry next) c.change.ensures.value c.in-Ok.ensures.recorded);
      means = means_record R id op state entry next c.requires.logged
          (subst (λ (old : Envelope g.row.T.Denot g.row.T-Kind.Denot g.row.T-Op.Denot g.row.T-Delta.Denot). (log : History g.row.T-Op.Denot) (held : Entry g.row.T-Op.Denot) → StandsFor R.IsDataOf (parts_of old) log held → R.data_type.refusal (R.kind_of old.value) id op held.history ≡ None) c.change.ensures.value c.in-Ok.ensures.unrefused)
          (subst (λ (old : Envelope g.row.T.Denot g.row.T-Kind.Denot g.row.T-Op.Denot g.row.T-Delta.Denot). (log : History g.row.T-Op.Denot) (held : Entry g.row.T-Op.Denot) → StandsFor R.IsDataOf (parts_of old) log held → IsTakenFrom log (with_action held id (Operation op)).history → StandsForRecorded R state.log log id op held entry next) c.change.ensures.value c.in-Ok.ensures.image);
      becomes = (ap (λ log. record state { entry = entry; log = log }) c.add.ensures.value, refl);
    }

pub returns-in-Err-Overflow-clause-applied : goal.returns-in-Err-Overflow-clause-applied
returns-in-Err-Overflow-clause-applied g c =
    let state = c.args.self.now in
    let told = reply.Overflow c.in-Err-Overflow.share c.in-Err-Overflow.amount in
    record {
      updated = Refused told;
      owned = refl;
      means = means_refusal g.T.Replica c.args.id c.args.op.now state c.in-Err-Overflow.field-0 (Overflow c.in-Err-Overflow.share c.in-Err-Overflow.amount) told c.in-Err-Overflow.field-0-is refl (refused_at g c.args.self.now c.args.id c.args.op.now c.change.result.now c.change.ensures.value c.in-Err-Overflow.field-0 c.in-Err-Overflow.ensures.refused);
      becomes = (ap (λ entry. record state { entry = entry }) (c.in-Err-Overflow.ensures.err ∙ c.change.ensures.value), refl);
    }

pub returns-in-Err-ClockSpent-clause-applied : goal.returns-in-Err-ClockSpent-clause-applied
returns-in-Err-ClockSpent-clause-applied g c =
    let state = c.args.self.now in
    record {
      updated = Refused reply.ClockSpent;
      owned = refl;
      means = means_refusal g.T.Replica c.args.id c.args.op.now state c.in-Err-ClockSpent.field-0 ClockSpent reply.ClockSpent c.in-Err-ClockSpent.field-0-is refl (refused_at g c.args.self.now c.args.id c.args.op.now c.change.result.now c.change.ensures.value c.in-Err-ClockSpent.field-0 c.in-Err-ClockSpent.ensures.refused);
      becomes = (ap (λ entry. record state { entry = entry }) (c.in-Err-ClockSpent.ensures.err ∙ c.change.ensures.value), refl);
    }

pub returns-in-Err-SetFull-clause-applied : goal.returns-in-Err-SetFull-clause-applied
returns-in-Err-SetFull-clause-applied g c =
    let state = c.args.self.now in
    record {
      updated = Refused reply.SetFull;
      owned = refl;
      means = means_refusal g.T.Replica c.args.id c.args.op.now state c.in-Err-SetFull.field-0 SetFull reply.SetFull c.in-Err-SetFull.field-0-is refl (refused_at g c.args.self.now c.args.id c.args.op.now c.change.result.now c.change.ensures.value c.in-Err-SetFull.field-0 c.in-Err-SetFull.ensures.refused);
      becomes = (ap (λ entry. record state { entry = entry }) (c.in-Err-SetFull.ensures.err ∙ c.change.ensures.value), refl);
    }
