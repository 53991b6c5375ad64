use Rattle.std.proofs.Common.{◌≡◌, None, true, false, length, refl, sym, ap, ◌∙◌, subst, bytes_eq}
use Rattle.member_node.proofs.Common.{known, needed, NoStore, step, Message, entry_digest, level_meant, Envelope, At, Prepared, IsOpened, is_pending, IsSoundPlan, IsSoundFor, Prepares, replication}
use Rattle.member_messages.specs.declared.message.Message.TheVariants.{Write}
use Rattle.member_node.specs.declared.operations.OperationChange.TheVariants.{Same}
use Rattle.member_node.specs.declared.input.Input.TheVariants as input
use Rattle.member_node.specs.declared.key.Updated.TheVariants.{Refused, Recorded}
use Rattle.member_node.specs.declared.reply.Reply.TheVariants as reply
use Rattle.member_node.specs.Updates.{IsOwn, MeansUpdate}
use Rattle.member_node.proofs.Lists.{position-found, position-none}
use Rattle.member_node.proofs.Standing.{undeclared, held_at}
use Rattle.member_node.proofs.Planned.{sound_told, sound_as, prepared_answered}
use Rattle.member_node.proofs.Updating.{update_undeclared}
use Rattle.member_node.proofs.Updates.{sound_recorded, if_both, deleted_as, open_fits, unfit_of, told_deleted, told_unfit, told_too_few, prepares_refused, prepares_done, prepares_pending}
use Rattle.member_node.proofs.Operating.{opened_can, opened_pending}
use Rattle.std.proofs.lemmas.Result.{IfOk-weaker}
use Rattle.member_node.specs.Answerable.{RepliesTo, CanRefuse}
use Rattle.member_node.proofs.Answerings.{replies_told, replies_stored}
use Rattle.member_node.proofs.node.Node.updated.Goals as goal

pub returns-in_default-clause-sound : goal.returns-in_default-clause-sound
returns-in_default-clause-sound g c = sound_told c.args.self.now c.reply.result reply.UnknownKey c.reply.ensures.plan c.reply.ensures.operations c.reply.ensures.output refl

pub returns-in_default-clause-image : goal.returns-in_default-clause-image
returns-in_default-clause-image g c = λ kinds logs node sent s is safe.
    let R = g.T.Replica in
    let D = replication R g.T.SpelledData in
    let code = c.args.self.now in
    let key = c.args.key.now in
    let none = position-none (λ state. bytes_eq state.name key) code.keys.items c.in_default.ensures in
    let same = ap (λ i. step D node i NoStore) is ∙ update_undeclared D node key (level_meant c.args.level) (undeclared R.kind_of R.IsDataOf kinds logs code node s key none) c.args.op.now in
    prepared_answered kinds logs code node s c.reply.result reply.UnknownKey c.reply.ensures.view c.reply.ensures.plan c.reply.ensures.operations c.reply.ensures.output _ same

pub returns-then-closed-clause-sound : goal.returns-then-closed-clause-sound
returns-then-closed-clause-sound g c = sound_told c.args.self.now c.reply-then-closed.result reply.Deleted c.reply-then-closed.ensures.plan c.reply-then-closed.ensures.operations c.reply-then-closed.ensures.output refl

pub returns-then-closed-clause-image : goal.returns-then-closed-clause-image
returns-then-closed-clause-image g c = λ kinds logs node sent s is safe.
    let R = g.T.Replica in
    let S = g.T.SpelledData in
    let digest = entry_digest S.history_byte S.history_spelled in
    let code = c.args.self.now in
    let key = c.args.key.now in
    let op = c.args.op.now in
    let level = level_meant c.args.level in
    let index = c.in-Some.index in
    let at = c.index-state.result.now in
    let found = position-found (λ state. bytes_eq state.name key) code.keys.items index c.in-Some.ensures in
    let held = held_at R.kind_of R.IsDataOf kinds logs code node s index at found.within c.index-state.ensures in
    let deleted = deleted_as R c.entry.result.now at.entry c.closed.result true c.entry.ensures c.closed.ensures.image c.if-closed.true (logs at.name) (node.entries at.name) held.held.image in
    prepared_answered kinds logs code node s c.reply-then-closed.result reply.Deleted c.reply-then-closed.ensures.view c.reply-then-closed.ensures.plan c.reply-then-closed.ensures.operations c.reply-then-closed.ensures.output _ (told_deleted kinds logs code node s digest key level index at found c.index-state.ensures sent op is deleted)

pub returns-then-not-fits-clause-sound : goal.returns-then-not-fits-clause-sound
returns-then-not-fits-clause-sound g c = sound_told c.args.self.now c.reply-then-not-fits.result reply.WrongKind c.reply-then-not-fits.ensures.plan c.reply-then-not-fits.ensures.operations c.reply-then-not-fits.ensures.output refl

pub returns-then-not-fits-clause-image : goal.returns-then-not-fits-clause-image
returns-then-not-fits-clause-image g c = λ kinds logs node sent s is safe.
    let R = g.T.Replica in
    let S = g.T.SpelledData in
    let digest = entry_digest S.history_byte S.history_spelled in
    let code = c.args.self.now in
    let key = c.args.key.now in
    let op = c.args.op.now in
    let level = level_meant c.args.level in
    let index = c.in-Some.index in
    let at = c.index-state.result.now in
    let found = position-found (λ state. bytes_eq state.name key) code.keys.items index c.in-Some.ensures in
    let held = held_at R.kind_of R.IsDataOf kinds logs code node s index at found.within c.index-state.ensures in
    let kept = deleted_as R c.entry.result.now at.entry c.closed.result false c.entry.ensures c.closed.ensures.image c.if-closed.false (logs at.name) (node.entries at.name) held.held.image in
    let unfit = unfit_of R at.entry.value op (ap (λ (entry : Envelope g.row.T.Denot g.row.T-Kind.Denot g.row.T-Op.Denot g.row.T-Delta.Denot). R.is_closed entry.value) (sym c.entry.ensures) ∙ sym c.closed.ensures.value ∙ c.if-closed.false) (sym c.fits.ensures ∙ c.if-not-fits.true) in
    prepared_answered kinds logs code node s c.reply-then-not-fits.result reply.WrongKind c.reply-then-not-fits.ensures.view c.reply-then-not-fits.ensures.plan c.reply-then-not-fits.ensures.operations c.reply-then-not-fits.ensures.output _ (told_unfit kinds logs code node s digest key level index at found c.index-state.ensures sent op is kept unfit)

pub returns-in_default-needed-clause-sound : goal.returns-in_default-needed-clause-sound
returns-in_default-needed-clause-sound g c = sound_told c.args.self.now c.reply-in_default-needed.result reply.TooFew c.reply-in_default-needed.ensures.plan c.reply-in_default-needed.ensures.operations c.reply-in_default-needed.ensures.output refl

pub returns-in_default-needed-clause-image : goal.returns-in_default-needed-clause-image
returns-in_default-needed-clause-image g c = λ kinds logs node sent s is safe.
    let R = g.T.Replica in
    let S = g.T.SpelledData in
    let digest = entry_digest S.history_byte S.history_spelled in
    let code = c.args.self.now in
    let key = c.args.key.now in
    let op = c.args.op.now in
    let level = level_meant c.args.level in
    let index = c.in-Some.index in
    let at = c.index-state.result.now in
    let found = position-found (λ state. bytes_eq state.name key) code.keys.items index c.in-Some.ensures in
    let held = held_at R.kind_of R.IsDataOf kinds logs code node s index at found.within c.index-state.ensures in
    let kept = deleted_as R c.entry.result.now at.entry c.closed.result false c.entry.ensures c.closed.ensures.image c.if-closed.false (logs at.name) (node.entries at.name) held.held.image in
    let fits = open_fits R at.entry.value op (sym c.fits.ensures ∙ c.if-not-fits.false) in
    let none = ap (needed level) (ap (λ v. length v.members) s.view ∙ ap length (sym c.members-members.ensures.members)) ∙ c.in_default-needed.ensures.too_few in
    prepared_answered kinds logs code node s c.reply-in_default-needed.result reply.TooFew c.reply-in_default-needed.ensures.view c.reply-in_default-needed.ensures.plan c.reply-in_default-needed.ensures.operations c.reply-in_default-needed.ensures.output _ (told_too_few kinds logs code node s digest key level index at found c.index-state.ensures sent op is kept fits none)

pub returns-in-Refused-clause-sound : goal.returns-in-Refused-clause-sound
returns-in-Refused-clause-sound g c =
    let own : IsOwn g.T.Replica c.args.self.now.id c.index-state.result.now (Refused c.in-Refused.reply) = subst (IsOwn g.T.Replica c.args.self.now.id c.index-state.result.now) c.in-Refused.is c.in_ok-reply.ensures.owned in
    sound_told c.args.self.now c.reply-in-Refused.result c.in-Refused.reply c.reply-in-Refused.ensures.plan c.reply-in-Refused.ensures.operations c.reply-in-Refused.ensures.output own

pub returns-in-Refused-clause-image : goal.returns-in-Refused-clause-image
returns-in-Refused-clause-image g c =
    let R = g.T.Replica in
    let code = c.args.self.now in
    let key = c.args.key.now in
    let op = c.args.op.now in
    let index = c.in-Some.index in
    let at = c.index-state.result.now in
    let found = position-found (λ state. bytes_eq state.name key) code.keys.items index c.in-Some.ensures in
    let kept = deleted_as R c.entry.result.now at.entry c.closed.result false c.entry.ensures c.closed.ensures.image c.if-closed.false in
    let fits = open_fits R at.entry.value op (sym c.fits.ensures ∙ c.if-not-fits.false) in
    let number = ap (needed (level_meant c.args.level)) (ap length (sym c.members-members.ensures.members)) ∙ c.in-Ok.ensures.enough in
    let means : MeansUpdate R code.id op at (Refused c.in-Refused.reply) = subst (MeansUpdate R code.id op at) c.in-Refused.is c.in_ok-reply.ensures.means in
    prepares_refused g.T.SpelledData code key op c.args.level index at found c.index-state.ensures kept fits c.in-Ok.number number c.reply-in-Refused.result c.reply-in-Refused.ensures.view
    c.in-Refused.reply means c.reply-in-Refused.ensures.plan c.reply-in-Refused.ensures.operations c.reply-in-Refused.ensures.output

pub returns-then-number-le1 : goal.returns-then-number-le1
returns-then-number-le1 g c =
    let R = g.T.Replica in
    let code = c.args.self.now in
    let key = c.args.key.now in
    let op = c.args.op.now in
    let index = c.in-Some.index in
    let at = c.index-state.result.now in
    let found = position-found (λ state. bytes_eq state.name key) code.keys.items index c.in-Some.ensures in
    let entry = c.in-Recorded.entry in
    let next = c.in-Recorded.next in
    let own : IsOwn R code.id at (Recorded entry next) = subst (IsOwn R code.id at) c.in-Recorded.is c.in_ok-reply.ensures.owned in
    let prepared : Prepared g.row.T.Denot g.row.T-Kind.Denot g.row.T-Op.Denot g.row.T-Delta.Denot R = record { view = None; plan = At index entry next; operations = Same; output = c.told.result } in
    record {
      sound =
          sound_as code prepared (sound_recorded code index at entry next found.within c.index-state.ensures own) refl (ap (λ o. is_pending o.reply) c.told.ensures);
      image =
          let kept = deleted_as R c.entry.result.now at.entry c.closed.result false c.entry.ensures c.closed.ensures.image c.if-closed.false in
          let fits = open_fits R at.entry.value op (sym c.fits.ensures ∙ c.if-not-fits.false) in
          let number = ap (needed (level_meant c.args.level)) (ap length (sym c.members-members.ensures.members)) ∙ c.in-Ok.ensures.enough in
          let means : MeansUpdate R code.id op at (Recorded entry next) = subst (MeansUpdate R code.id op at) c.in-Recorded.is c.in_ok-reply.ensures.means in
          prepares_done g.T.SpelledData code key op c.args.level index at found c.index-state.ensures kept fits c.in-Ok.number number prepared refl entry next own means refl c.if-number-le1.true refl c.told.ensures;
      replies = replies_stored (input.Update key op c.args.level) prepared reply.Done (ap (λ o. o.reply) c.told.ensures) (ap (λ o. o.finished) c.told.ensures) refl refl;
    }

pub returns-else-number-le1 : goal.returns-else-number-le1
returns-else-number-le1 g c =
    let R = g.T.Replica in
    let code = c.args.self.now in
    let key = c.args.key.now in
    let op = c.args.op.now in
    let index = c.in-Some.index in
    let at = c.index-state.result.now in
    let found = position-found (λ state. bytes_eq state.name key) code.keys.items index c.in-Some.ensures in
    let entry = c.in-Recorded.entry in
    let next = c.in-Recorded.next in
    let own : IsOwn R code.id at (Recorded entry next) = subst (IsOwn R code.id at) c.in-Recorded.is c.in_ok-reply.ensures.owned in
    let message : Message g.row.T.Denot g.row.T-Kind.Denot g.row.T-Op.Denot g.row.T-Delta.Denot R = Write (length (known code.operations)) at.name entry in
    let n = c.in-Ok.number in
    record {
      sound =
          if_both (λ (prepared : Prepared g.row.T.Denot g.row.T-Kind.Denot g.row.T-Op.Denot g.row.T-Delta.Denot R). prepared.plan ≡ At index entry next) (IsOpened code at.name false n message) (IsSoundFor code) c.written.result
          (λ prepared plan o. record {
            plan = subst (IsSoundPlan R code.id code.steps code.keys.items) (sym plan) (sound_recorded code index at entry next found.within c.index-state.ensures own);
            operations = opened_can code at.name false n message prepared o;
            pending = opened_pending code at.name false n message prepared o;
          }) c.written.ensures.plan c.written.ensures.opened;
      image =
          let kept = deleted_as R c.entry.result.now at.entry c.closed.result false c.entry.ensures c.closed.ensures.image c.if-closed.false in
          let fits = open_fits R at.entry.value op (sym c.fits.ensures ∙ c.if-not-fits.false) in
          let number = ap (needed (level_meant c.args.level)) (ap length (sym c.members-members.ensures.members)) ∙ c.in-Ok.ensures.enough in
          let means : MeansUpdate R code.id op at (Recorded entry next) = subst (MeansUpdate R code.id op at) c.in-Recorded.is c.in_ok-reply.ensures.means in
          if_both (λ (prepared : Prepared g.row.T.Denot g.row.T-Kind.Denot g.row.T-Op.Denot g.row.T-Delta.Denot R). prepared.plan ≡ At index entry next) (IsOpened code at.name false n message)
          (Prepares g.T.SpelledData code (input.Update key op c.args.level)) c.written.result
          (λ prepared plan o. prepares_pending g.T.SpelledData code key op c.args.level index at found c.index-state.ensures kept fits n number prepared o.viewed entry next own means plan c.if-number-le1.false o)
          c.written.ensures.plan c.written.ensures.opened;
      replies =
          IfOk-weaker c.written.result (IsOpened code at.name false n message) (RepliesTo (input.Update key op c.args.level))
          (λ prepared o. replies_stored (input.Update key op c.args.level) prepared (reply.Pending (length (known code.operations))) o.reply o.none_ends refl refl) c.written.ensures.opened;
    }

pub returns-in_default-clause-replies : goal.returns-in_default-clause-replies
returns-in_default-clause-replies g c = replies_told (input.Update c.args.key.now c.args.op.now c.args.level) c.reply.result reply.UnknownKey c.reply.ensures.plan c.reply.ensures.output refl

pub returns-then-closed-clause-replies : goal.returns-then-closed-clause-replies
returns-then-closed-clause-replies g c = replies_told (input.Update c.args.key.now c.args.op.now c.args.level) c.reply-then-closed.result reply.Deleted c.reply-then-closed.ensures.plan c.reply-then-closed.ensures.output refl

pub returns-then-not-fits-clause-replies : goal.returns-then-not-fits-clause-replies
returns-then-not-fits-clause-replies g c = replies_told (input.Update c.args.key.now c.args.op.now c.args.level) c.reply-then-not-fits.result reply.WrongKind c.reply-then-not-fits.ensures.plan c.reply-then-not-fits.ensures.output refl

pub returns-in_default-needed-clause-replies : goal.returns-in_default-needed-clause-replies
returns-in_default-needed-clause-replies g c = replies_told (input.Update c.args.key.now c.args.op.now c.args.level) c.reply-in_default-needed.result reply.TooFew c.reply-in_default-needed.ensures.plan c.reply-in_default-needed.ensures.output refl

pub returns-in-Refused-clause-replies : goal.returns-in-Refused-clause-replies
returns-in-Refused-clause-replies g c = replies_told (input.Update c.args.key.now c.args.op.now c.args.level) c.reply-in-Refused.result c.in-Refused.reply c.reply-in-Refused.ensures.plan c.reply-in-Refused.ensures.output (subst CanRefuse c.in-Refused.is c.in_ok-reply.ensures.refuses)
