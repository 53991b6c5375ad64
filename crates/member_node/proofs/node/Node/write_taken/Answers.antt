use Rattle.std.proofs.Common.{[], ◌∷◌, true, None, false, not, length, get_or, refl, sym, ap, ◌∙◌, subst}
use Rattle.std.specs.List.{list_any}
use Rattle.member_node.proofs.Common.{AreOfTheirKinds, AreDistinctKeys, known, is_unchanged, one_step_later, NoStore, after_entries, IsEntryPassedOver, answer_to, StandsForPosts, Each, Prepared, AreMade, TellsEntries, IsPrepared, replication, IsKept, LeadsTo, AreExactAt}
use Rattle.model_members.specs.Message.{Message as Sent}
use Rattle.model_members.specs.Step.{took}
use Rattle.model_members.proofs.Taking.{after_entries-only}
use Rattle.member_node.specs.declared.operations.OperationChange.TheVariants.{Same}
use Rattle.member_node.proofs.TakingSteps.{written_taken, written_none, member_is, step_taken, held_later, sound_taken, prepared_taken}
use Rattle.member_node.proofs.Operating.{operates_same}
use Rattle.member_node.proofs.Planned.{sound_told, prepared_answered}
use Rattle.member_node.proofs.Sendings.{took_reply, not_opened, changed_is}
use Rattle.member_node.specs.declared.input.Input.TheVariants as inputs
use Rattle.member_messages.specs.declared.message.Message.TheVariants as messages
use Rattle.member_node.proofs.Answerings.{taken_reply, take_fails, replies_stored, replies_told}
use Rattle.member_node.specs.declared.reply.Reply.TheVariants as reply
use Rattle.member_node.proofs.node.Node.write_taken.Goals as goal

pub merged-requires : goal.merged-requires
merged-requires g c = record { distinct = subst AreDistinctKeys (sym c.deref-2.ensures.value) c.args.self.now.distinct }

pub any_changed-requires : goal.any_changed-requires
any_changed-requires g c =
    c.in_ok-changes.ensures.kept.one_each ∙ ap length (c.deref-2.ensures.value ∙ sym c.deref-3.ensures.value)

pub returns : goal.returns
returns g c =
    let R = g.T.Replica in
    let code = c.args.self.now in
    let changes = c.in_ok-changes.changes in
    record {
      sound =
          let kept = subst (λ keys. AreMade (IsKept R.kind_of code.id) keys changes) c.deref-2.ensures.value c.in_ok-changes.ensures.kept in
          record {
            plan = sound_taken code changes kept;
            operations = tt;
            pending = not_opened c.of_take-reply.result false c.any_changed.result [] c.of_take-reply.ensures;
          };
      image = λ kinds logs node sent s i safe.
          let D = replication R g.T.SpelledData in
          let from = c.args.from in
          let op = c.args.op in
          let key = c.args.key.now in
          let envelope = c.args.envelope.now in
          let later = one_step_later node in
          let w = i.message_stands in
          let after = after_entries later w.told_entries in
          let only = after_entries-only w.told_entries later in
          let keys_are = c.deref-2.ensures.value in
          let member = member_is R.kind_of R.IsDataOf kinds logs code node s from ∙ c.requires in
          let next = took D later after NoStore [] (answer_to D from (Sent.WriteAck op)) in
          let told = λ (passed : IsEntryPassedOver R code.keys.items (record { key = key; item = envelope })). absurd (cc (c.if-not-is_known.false, c.is_known.ensures.1 (subst (λ keys. IsEntryPassedOver R keys (record { key = key; item = envelope })) (sym c.deref.ensures.value) passed))) in
          let same = step_taken D node from sent i.told i.is member ∙ written_taken R kinds logs code.keys.items later s.keys from op key envelope i.told w D told in
          let exact = subst (λ st. AreExactAt code.keys.items st.node.entries) same (λ k d within. safe.exact (get_or code.keys.items k d).name) in
          let kept = subst (λ keys. AreMade (IsKept R.kind_of code.id) keys changes) keys_are c.in_ok-changes.ensures.kept in
          let work = c.in_ok-changes.ensures.image kinds logs later w.told_entries (subst (λ keys. AreExactAt keys after.entries) (sym keys_are) exact)
          (held_later kinds logs code node s c.deref-2.result.now c.number-view.result keys_are c.number-view.ensures.number)
          (subst (λ keys. TellsEntries R kinds logs keys (record { key = key; item = envelope } ∷ []) w.told_entries) (sym keys_are) w.entries_stand) in
          let leads = subst (λ keys. AreMade (LeadsTo R.IsDataOf logs node.entries after.entries) keys changes) keys_are work.leads in
          let test = c.any_changed.ensures logs node.entries after.entries (subst (λ keys. AreMade (LeadsTo R.IsDataOf logs node.entries after.entries) keys changes) (sym c.deref-3.ensures.value) leads)
          ∙ ap (list_any (λ state. not (is_unchanged (node.entries state.name) (after.entries state.name)))) c.deref-3.ensures.value
          ∙ sym (changed_is later after code.keys.items (ap (λ n. n.keys) only ∙ s.keys)) in
          let prepared : Prepared g.row.T.Denot g.row.T-Kind.Denot g.row.T-Op.Denot g.row.T-Delta.Denot R =
          record { view = None; plan = Each changes; operations = Same; output = record { reply = c.of_take-reply.result; posts = c.in_ok-posts.posts; finished = None } } in
          subst (λ st. IsPrepared {ghosts = R} kinds logs code.keys.items (known code.operations) node st prepared) (sym same)
          (prepared_taken code changes kept kinds logs node s after only leads next refl prepared refl refl
          (operates_same (known code.operations) node after s.operations (ap (λ n. n.open_operations) only) (ap (λ n. n.finished) only) (ap (λ n. n.next_op) only))
          (record {
            reply = took_reply D c.of_take-reply.result c.any_changed.result later after c.of_take-reply.ensures test;
            posts = subst (λ posts. StandsForPosts {ghosts = R} R.kind_of R.IsDataOf kinds logs posts (answer_to D from (Sent.WriteAck op))) (sym c.in_ok-posts.ensures) (record { to = refl; message = refl }, tt);
            ended = refl;
          }));
      replies =
          let takes = taken_reply c.of_take-reply.result false c.any_changed.result [] c.of_take-reply.ensures in
          replies_stored (inputs.Take c.args.from (messages.Write c.args.op c.args.key.now c.args.envelope.now)) _ c.of_take-reply.result refl tt takes (take_fails c.of_take-reply.result takes);
    }

-- of a key that isn't declared so
pub is_known-requires : goal.is_known-requires
is_known-requires g c = record {
  of_kinds = subst (AreOfTheirKinds g.T.Replica.kind_of) (sym c.deref.ensures.value) c.args.self.now.of_kinds;
  distinct = subst AreDistinctKeys (sym c.deref.ensures.value) c.args.self.now.distinct;
}

pub returns-then-not-is_known : goal.returns-then-not-is_known
returns-then-not-is_known g c =
    let R = g.T.Replica in
    let code = c.args.self.now in
    let told = c.reply in
    record {
      sound = sound_told code told.result reply.Already told.ensures.plan told.ensures.operations told.ensures.output refl;
      image = λ kinds logs node sent s i safe.
          let D = replication R g.T.SpelledData in
          let key = c.args.key.now in
          let envelope = c.args.envelope.now in
          let later = one_step_later node in
          let member = member_is R.kind_of R.IsDataOf kinds logs code node s c.args.from ∙ c.requires in
          let passed = subst (λ keys. IsEntryPassedOver R keys (record { key = key; item = envelope })) c.deref.ensures.value (c.is_known.ensures.0 c.if-not-is_known.true) in
          let same = step_taken D node c.args.from sent i.told i.is member ∙ written_none R kinds logs code.keys.items later s.keys c.args.from c.args.op key envelope i.told i.message_stands D (λ k d within. (s.entries k d within).kind) passed in
          prepared_answered kinds logs code node s told.result reply.Already told.ensures.view told.ensures.plan told.ensures.operations told.ensures.output _ same;
      replies = replies_told (inputs.Take c.args.from (messages.Write c.args.op c.args.key.now c.args.envelope.now)) told.result reply.Already told.ensures.plan told.ensures.output refl;
    }
