use Rattle.std.proofs.Common.{◌≡◌, true, length, refl, sym, ap, ◌∙◌, bytes_eq}
use Rattle.member_node.proofs.Common.{known, needed, NoStore, step, Message, entry_digest, level_meant, Nothing, Prepared, IsOpened, IsSoundFor, Prepares, replication}
use Rattle.member_messages.specs.declared.message.Message.TheVariants.{Read}
use Rattle.member_node.specs.declared.input.Input.TheVariants as input
use Rattle.member_node.specs.declared.reply.Reply.TheVariants as reply
use Rattle.member_node.proofs.Lists.{position-found, position-none}
use Rattle.member_node.proofs.Standing.{undeclared, held_at}
use Rattle.member_node.proofs.Planned.{sound_still, sound_told, prepared_answered}
use Rattle.member_node.proofs.Updating.{get_undeclared}
use Rattle.member_node.proofs.Updates.{if_both, got_too_few, got_value, got_pending}
use Rattle.member_node.proofs.Operating.{opened_can, opened_pending}
use Rattle.member_node.specs.Answerable.{RepliesTo}
use Rattle.member_node.proofs.Answerings.{replies_told, replies_still}
use Rattle.member_node.proofs.node.Node.shown.Goals as goal

pub returns-in_default-clause-sound : goal.returns-in_default-clause-sound
returns-in_default-clause-sound g c = sound_told c.args.self.now c.reply.result reply.UnknownKey c.reply.ensures.plan c.reply.ensures.operations c.reply.ensures.output refl

pub returns-in_default-clause-image : goal.returns-in_default-clause-image
returns-in_default-clause-image g c = λ kinds logs node sent s is safe.
    let R = g.T.Replica in
    let D = replication R g.T.SpelledData in
    let code = c.args.self.now in
    let key = c.args.key.now in
    let none = position-none (λ state. bytes_eq state.name key) code.keys.items c.in_default.ensures in
    let same = ap (λ i. step D node i NoStore) is ∙ get_undeclared D node key (level_meant c.args.level) (undeclared R.kind_of R.IsDataOf kinds logs code node s key none) in
    prepared_answered kinds logs code node s c.reply.result reply.UnknownKey c.reply.ensures.view c.reply.ensures.plan c.reply.ensures.operations c.reply.ensures.output _ same

pub returns-in_default-needed-clause-sound : goal.returns-in_default-needed-clause-sound
returns-in_default-needed-clause-sound g c = sound_told c.args.self.now c.reply-in_default-needed.result reply.TooFew c.reply-in_default-needed.ensures.plan c.reply-in_default-needed.ensures.operations c.reply-in_default-needed.ensures.output refl

pub returns-in_default-needed-clause-image : goal.returns-in_default-needed-clause-image
returns-in_default-needed-clause-image g c = λ kinds logs node sent s is safe.
    let R = g.T.Replica in
    let S = g.T.SpelledData in
    let digest = entry_digest S.history_byte S.history_spelled in
    let code = c.args.self.now in
    let key = c.args.key.now in
    let level = level_meant c.args.level in
    let index = c.in-Some.index in
    let at = c.index-state.result.now in
    let found = position-found (λ state. bytes_eq state.name key) code.keys.items index c.in-Some.ensures in
    let none = ap (needed level) (ap (λ v. length v.members) s.view ∙ ap length (sym c.members-members.ensures.members)) ∙ c.in_default-needed.ensures.too_few in
    prepared_answered kinds logs code node s c.reply-in_default-needed.result reply.TooFew c.reply-in_default-needed.ensures.view c.reply-in_default-needed.ensures.plan c.reply-in_default-needed.ensures.operations c.reply-in_default-needed.ensures.output _ (got_too_few kinds logs code node s digest key level index at found c.index-state.ensures sent is none)

pub returns-then-number-le1-clause-sound : goal.returns-then-number-le1-clause-sound
returns-then-number-le1-clause-sound g c = sound_told c.args.self.now c.reply-then-number-le1.result c.in_ok-reply.reply c.reply-then-number-le1.ensures.plan c.reply-then-number-le1.ensures.operations c.reply-then-number-le1.ensures.output c.in_ok-reply.ensures.quiet

pub returns-then-number-le1-clause-image : goal.returns-then-number-le1-clause-image
returns-then-number-le1-clause-image g c = λ kinds logs node sent s is safe.
    let R = g.T.Replica in
    let S = g.T.SpelledData in
    let digest = entry_digest S.history_byte S.history_spelled in
    let code = c.args.self.now in
    let key = c.args.key.now in
    let level = level_meant c.args.level in
    let index = c.in-Some.index in
    let at = c.index-state.result.now in
    let found = position-found (λ state. bytes_eq state.name key) code.keys.items index c.in-Some.ensures in
    let number = ap (needed level) (ap (λ v. length v.members) s.view ∙ ap length (sym c.members-members.ensures.members)) ∙ c.in-Ok.ensures.enough in
    let held = held_at R.kind_of R.IsDataOf kinds logs code node s index at found.within c.index-state.ensures in
    let told = c.in_ok-reply.ensures.image digest (logs at.name) (node.entries at.name) held.held.image in
    prepared_answered kinds logs code node s c.reply-then-number-le1.result c.in_ok-reply.reply c.reply-then-number-le1.ensures.view c.reply-then-number-le1.ensures.plan c.reply-then-number-le1.ensures.operations c.reply-then-number-le1.ensures.output _ (got_value kinds logs code node s digest key level index at found c.index-state.ensures sent is c.in-Ok.number number c.if-number-le1.true c.in_ok-reply.reply told)

pub returns : goal.returns
returns g c =
    let R = g.T.Replica in
    let code = c.args.self.now in
    let name = c.index-state.result.now.name in
    let n = c.in-Ok.number in
    let message : Message g.row.T.Denot g.row.T-Kind.Denot g.row.T-Op.Denot g.row.T-Delta.Denot R = Read (length (known code.operations)) name in
    record {
      sound =
          if_both (λ (prepared : Prepared g.row.T.Denot g.row.T-Kind.Denot g.row.T-Op.Denot g.row.T-Delta.Denot R). prepared.plan ≡ Nothing) (IsOpened code name true n message) (IsSoundFor code) c.read.result
          (λ prepared plan o. record { plan = sound_still code prepared.plan plan; operations = opened_can code name true n message prepared o; pending = opened_pending code name true n message prepared o }) c.read.ensures.plan c.read.ensures.opened;
      image =
          if_both (λ (prepared : Prepared g.row.T.Denot g.row.T-Kind.Denot g.row.T-Op.Denot g.row.T-Delta.Denot R). prepared.plan ≡ Nothing) (IsOpened code name true n message)
          (Prepares g.T.SpelledData code (input.Get c.args.key.now c.args.level)) c.read.result
          (λ prepared plan o kinds logs node sent s is safe.
          let S = g.T.SpelledData in
          let digest = entry_digest S.history_byte S.history_spelled in
          let key = c.args.key.now in
          let level = level_meant c.args.level in
          let index = c.in-Some.index in
          let at = c.index-state.result.now in
          let found = position-found (λ state. bytes_eq state.name key) code.keys.items index c.in-Some.ensures in
          let number = ap (needed level) (ap (λ v. length v.members) s.view ∙ ap length (sym c.members-members.ensures.members)) ∙ c.in-Ok.ensures.enough in
          got_pending kinds logs code node s digest key level index at found c.index-state.ensures sent is n number c.if-number-le1.false prepared plan o)
          c.read.ensures.plan c.read.ensures.opened;
      replies =
          if_both (λ (prepared : Prepared g.row.T.Denot g.row.T-Kind.Denot g.row.T-Op.Denot g.row.T-Delta.Denot R). prepared.plan ≡ Nothing) (IsOpened code name true n message)
          (RepliesTo (input.Get c.args.key.now c.args.level)) c.read.result
          (λ prepared plan o. replies_still (input.Get c.args.key.now c.args.level) prepared (reply.Pending (length (known code.operations))) plan o.reply o.none_ends refl)
          c.read.ensures.plan c.read.ensures.opened;
    }

pub returns-in_default-clause-replies : goal.returns-in_default-clause-replies
returns-in_default-clause-replies g c = replies_told (input.Get c.args.key.now c.args.level) c.reply.result reply.UnknownKey c.reply.ensures.plan c.reply.ensures.output refl

pub returns-in_default-needed-clause-replies : goal.returns-in_default-needed-clause-replies
returns-in_default-needed-clause-replies g c = replies_told (input.Get c.args.key.now c.args.level) c.reply-in_default-needed.result reply.TooFew c.reply-in_default-needed.ensures.plan c.reply-in_default-needed.ensures.output refl

pub returns-then-number-le1-clause-replies : goal.returns-then-number-le1-clause-replies
returns-then-number-le1-clause-replies g c = replies_told (input.Get c.args.key.now c.args.level) c.reply-then-number-le1.result c.in_ok-reply.reply c.reply-then-number-le1.ensures.plan c.reply-then-number-le1.ensures.output c.in_ok-reply.ensures.shows
