use Rattle.std.proofs.Common.{◌≡◌, ℕ, ◌<◌, ◌≤◌, Option, Some, false, true, arith, get_or, refl, sym, ap, ◌∙◌, subst, nat_le, if◌then◌else◌, None}
use Rattle.member_node.proofs.Common.{known, Text, VersionVector, History, seen_by, one_step_later, NoStore, step, answered, number_at, Ghosts, Flushed, Each, Prepared, Output, changed, AreMade, StandsForKey, is_pending, meant, IsPrepared, replication, KeyState, Change}
use Rattle.model_members.specs.Entry as model
use Rattle.model_members.specs.Node.Reply.{OldView, Installed}
use Rattle.member_node.specs.Taking.{KeepsOwn}
use Rattle.member_node.specs.declared.change.Change.TheVariants.{Entry}
use Rattle.member_node.specs.declared.operations.OperationChange.TheVariants.{Same as Unchanged}
use Rattle.member_node.specs.declared.reply.Reply.TheVariants as reply
use Rattle.member_node.specs.Installing.{IsSeen}
use Rattle.member_node.specs.Planning.{new_entry}
use Rattle.member_node.proofs.Planned.{sound_each, leads_each, owned, sound_as, sound_told, operates_still, prepared_answered, quiet_output}
use Rattle.member_node.specs.declared.input.Input.TheVariants as inputs
use Rattle.member_node.proofs.Answerings.{replies_told, replies_stored}
use Rattle.member_node.proofs.node.Node.installed.Goals as goal

module _ {T Kind Op Delta : Type 0} (ghosts : Ghosts T Kind Op Delta) (id view : ℕ) where
  seen_keeps : (state : KeyState T Kind Op Delta) (change : Option (Change T Kind Op Delta)) → IsSeen ghosts id view state change → KeepsOwn ghosts.kind_of id state.entry (changed state change).entry
  seen_keeps state (Some (Entry entry)) seen = record { kind = ap ghosts.kind_of seen.value; own = λ before. ap (λ v. number_at v id) seen.versions; unpruned = λ before. seen.performed id ∙ before }
  seen_keeps state _ seen = absurd seen

  seen_new : (state : KeyState T Kind Op Delta) (change : Option (Change T Kind Op Delta)) → IsSeen ghosts id view state change → new_entry change ≡ None → ⊥
  seen_new state (Some (Entry entry)) seen none = cc none
  seen_new state _ seen none = seen

  module _ (kinds : Text → Kind) (logs : Text → History Op) where
    -- what is held of the key then
    stands_seen : (state : KeyState T Kind Op Delta) (change : Option (Change T Kind Op Delta)) (entry : model.Entry Op) (flushed : VersionVector) → IsSeen ghosts id view state change
        → StandsForKey ghosts.kind_of ghosts.IsDataOf ghosts.IsDeltaOf kinds logs state entry flushed → StandsForKey ghosts.kind_of ghosts.IsDataOf ghosts.IsDeltaOf kinds logs (changed state change) (seen_by id view entry) flushed
    stands_seen state None entry flushed seen s = absurd seen
    stands_seen state (Some (Entry new)) entry flushed seen s = record {
      kind = s.kind;
      held = record { kind = ap ghosts.kind_of seen.value ∙ s.held.kind; image = seen.image (logs state.name) entry s.held.image };
      logged = record { histories = s.logged.histories; taken = s.logged.taken; last = s.logged.last; count = s.logged.count; before = s.logged.before; kept = s.logged.kept };
      sent = s.sent;
    }
    stands_seen state (Some (Flushed sent)) entry flushed seen s = absurd seen

-- whether a view is later than the member's own
is_later : (view number own : ℕ) → number ≡ view → own < number → nat_le view own ≡ false
is_later view number own is above = grind arith

is_earlier : (view number own : ℕ) → number ≡ view → number ≤ own → nat_le view own ≡ true
is_earlier view number own is below = grind arith

pub returns-then-number-own-clause-sound : goal.returns-then-number-own-clause-sound
returns-then-number-own-clause-sound g c = sound_told c.args.self.now c.reply.result reply.OldView c.reply.ensures.plan c.reply.ensures.operations c.reply.ensures.output refl

pub returns-then-number-own-clause-image : goal.returns-then-number-own-clause-image
returns-then-number-own-clause-image g c = λ kinds logs node sent s is safe.
    let R = g.T.Replica in
    let D = replication R g.T.SpelledData in
    let code = c.args.self.now in
    let view = c.args.view.now in
    let number = ap (λ v. v.number) s.view ∙ sym c.number-own.ensures.number in
    let earlier : nat_le view.number node.view.number ≡ true = ap (nat_le view.number) number ∙ is_earlier view.number c.number-number.result c.number-own.result c.number-number.ensures.number c.if-number-own.true in
    let same = ap (λ b. if b then answered (one_step_later node) OldView else answered (record (one_step_later node) { view = view; entries = λ key. seen_by node.identity view.number (node.entries key) }) Installed) earlier in
    subst (λ i. IsPrepared {ghosts = R} kinds logs code.keys.items (known code.operations) node (step D node i NoStore) c.reply.result) (sym is)
    (prepared_answered kinds logs code node s c.reply.result reply.OldView c.reply.ensures.view c.reply.ensures.plan c.reply.ensures.operations c.reply.ensures.output _ same)

pub returns : goal.returns
returns g c =
    let R = g.T.Replica in
    let code = c.args.self.now in
    record {
      sound =
          let number = c.number-number.result in
          let made = subst (λ keys. AreMade (IsSeen R code.id number) keys c.in_ok-changes.changes) c.deref.ensures.value c.in_ok-changes.ensures in
          sound_as code _ (sound_each R code.id code.steps code.keys.items (owned code) (IsSeen R code.id number) (seen_keeps R code.id number) c.in_ok-changes.changes made) refl (ap (λ (o : Output g.row.T.Denot g.row.T-Kind.Denot g.row.T-Op.Denot g.row.T-Delta.Denot R). is_pending o.reply) c.told.ensures);
      image = λ kinds logs node sent s is safe.
          let D = replication R g.T.SpelledData in
          let view = c.args.view.now in
          let changes = c.in_ok-changes.changes in
          let made = subst (λ keys. AreMade (IsSeen R code.id view.number) keys changes) c.deref.ensures.value (subst (λ n. AreMade (IsSeen R code.id n) c.deref.result.now changes) c.number-number.ensures.number c.in_ok-changes.ensures) in
          let number = ap (λ v. v.number) s.view ∙ sym c.number-own.ensures.number in
          let later : nat_le view.number node.view.number ≡ false = ap (nat_le view.number) number ∙ is_later view.number c.number-number.result c.number-own.result c.number-number.ensures.number c.if-number-own.false in
          let after = record (one_step_later node) { view = view; entries = λ key. seen_by node.identity view.number (node.entries key) } in
          let same = ap (λ b. if b then answered (one_step_later node) OldView else answered (record (one_step_later node) { view = view; entries = λ key. seen_by node.identity view.number (node.entries key) }) Installed) later in
          let prepared : Prepared g.row.T.Denot g.row.T-Kind.Denot g.row.T-Op.Denot g.row.T-Delta.Denot R = record { view = Some c.in_ok-view.view; plan = Each changes; operations = Unchanged; output = c.told.result } in
          subst (λ st. IsPrepared {ghosts = R} kinds logs code.keys.items (known code.operations) node st prepared) (sym (ap (λ input. step D node input NoStore) is ∙ same)) (record {
            identity = refl;
            declared = refl;
            counted = refl;
            viewed = sym c.in_ok-view.ensures;
            leads_on = leads_each R kinds logs code.keys.items node _ s.entries changes
                (λ k d within here.
                subst (λ id. StandsForKey R.kind_of R.IsDataOf R.IsDeltaOf kinds logs (changed (get_or code.keys.items k d) (get_or changes k None)) (seen_by id view.number (node.entries (get_or code.keys.items k d).name)) (node.flushed (get_or code.keys.items k d).name)) (sym s.identity)
                (stands_seen R code.id view.number kinds logs (get_or code.keys.items k d) (get_or changes k None) _ _ (made.made k d None within) here))
                (λ k d within none. absurd (seen_new R code.id view.number (get_or code.keys.items k d) (get_or changes k None) (made.made k d None within) none));
            operates = operates_still kinds logs code node s prepared after refl refl refl refl;
            answers = quiet_output kinds logs _ _ (ap (λ o. o.posts) c.told.ensures) (ap (λ o. o.finished) c.told.ensures) (ap (λ (o : Output g.row.T.Denot g.row.T-Kind.Denot g.row.T-Op.Denot g.row.T-Delta.Denot R). meant o.reply) c.told.ensures) refl refl;
          });
      replies = replies_stored (inputs.Install c.args.view.now) _ reply.Installed (ap (λ (o : Output g.row.T.Denot g.row.T-Kind.Denot g.row.T-Op.Denot g.row.T-Delta.Denot R). o.reply) c.told.ensures) (ap (λ (o : Output g.row.T.Denot g.row.T-Kind.Denot g.row.T-Op.Denot g.row.T-Delta.Denot R). o.finished) c.told.ensures) refl refl;
    }

pub returns-then-number-own-clause-replies : goal.returns-then-number-own-clause-replies
returns-then-number-own-clause-replies g c = replies_told (inputs.Install c.args.view.now) c.reply.result reply.OldView c.reply.ensures.plan c.reply.ensures.output refl
