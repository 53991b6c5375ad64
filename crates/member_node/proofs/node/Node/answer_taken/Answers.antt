use Rattle.std.proofs.Common.{[], None, not, length, get_or, refl, sym, ap, ◌∙◌, subst, subst₂, true, false, ◌&&◌, option_copied, bytes_eq}
use Rattle.std.specs.List.{list_any}
use Rattle.member_node.proofs.Common.{AreDistinctKeys, known, is_unchanged, OpenOperation, one_step_later, NoStore, step_of_take, after_entries, counted, is_answered_by, entry_digest, StandsForPosts, Each, Prepared, AreMade, TellsEntries, IsPrepared, replication, IsKept, LeadsTo, AreExactAt}
use Rattle.model_history.specs.Vector.{alone}
use Rattle.model_members.specs.Step.{took}
use Rattle.model_members.proofs.Taking.{after_entries-only}
use Rattle.member_node.specs.Counting.{is_read_of}
use Rattle.member_node.specs.Inputs.{keyed_envelope, keyed_entry_of}
use Rattle.member_node.proofs.TakingSteps.{keyed_same, counted_entries, member_is, held_first, step_taken, held_later, sound_taken, prepared_taken}
use Rattle.member_node.proofs.Operating.{counts_can, counts_opens_none, read_counts, operates_same}
use Rattle.member_node.proofs.Sendings.{took_reply, not_opened, changed_is}
use Rattle.member_node.specs.declared.input.Input.TheVariants as inputs
use Rattle.member_messages.specs.declared.message.Message.TheVariants as messages
use Rattle.member_node.proofs.Answerings.{taken_reply, take_fails, replies_stored}
use Rattle.member_node.proofs.node.Node.answer_taken.Goals as goal

pub merged-requires : goal.merged-requires
merged-requires g c = record { distinct = subst AreDistinctKeys (sym c.deref.ensures.value) c.args.self.now.distinct }

pub any_changed-requires : goal.any_changed-requires
any_changed-requires g c =
    c.in_ok-changes.ensures.kept.one_each ∙ ap length (c.deref.ensures.value ∙ sym c.deref-2.ensures.value)

pub returns : goal.returns
returns g c =
    let R = g.T.Replica in
    let code = c.args.self.now in
    let changes = c.in_ok-changes.changes in
    record {
      sound =
          let test = is_read_of c.args.key.now in
          let kept = subst (λ keys. AreMade (IsKept R.kind_of code.id) keys changes) c.deref.ensures.value c.in_ok-changes.ensures.kept in
          record {
            plan = sound_taken code changes kept;
            operations = counts_can code.operations c.args.from c.args.op test (λ end. Unit {0}) c.in_ok-counted.counted c.in_ok-counted.ensures.counts;
            pending = not_opened c.of_take-reply.result false c.any_changed.result [] c.of_take-reply.ensures ∙ sym (counts_opens_none (known code.operations) c.args.from c.args.op test (λ end. Unit {0}) c.in_ok-counted.counted c.in_ok-counted.ensures.counts);
          };
      image = λ kinds logs node sent s i safe.
          let S = g.T.SpelledData in
          let D = replication R S in
          let from = c.args.from in
          let op = c.args.op in
          let key = c.args.key.now in
          let envelope = option_copied c.args.envelope in
          let later = one_step_later node in
          let a = i.message_stands in
          let entries = keyed_entry_of key a.entry in
          let after = after_entries later entries in
          let only = after_entries-only entries later in
          let keys_are = c.deref.ensures.value in
          let member = member_is R.kind_of R.IsDataOf kinds logs code node s from ∙ c.requires in
          let stepped = took D later after NoStore [] [] in
          let next = counted D stepped from (λ o. is_answered_by true op o && bytes_eq o.key key) in
          let same = step_taken D node from sent i.told i.is member ∙ ap (step_of_take D later from NoStore) a.is
          ∙ ap (λ es. counted D (took D later (after_entries later es) NoStore [] []) from (λ o. is_answered_by true op o && bytes_eq o.key key)) (keyed_same D key a.entry) in
          let kept = subst (λ keys. AreMade (IsKept R.kind_of code.id) keys changes) keys_are c.in_ok-changes.ensures.kept in
          let exact = subst (AreExactAt code.keys.items) (ap (λ st. st.node.entries) same ∙ counted_entries D stepped from (λ o. is_answered_by true op o && bytes_eq o.key key)) (λ k d within. safe.exact (get_or code.keys.items k d).name) in
          let work = c.in_ok-changes.ensures.image kinds logs later entries (subst (λ keys. AreExactAt keys after.entries) (sym keys_are) exact)
          (held_later kinds logs code node s c.deref.result.now c.number-view.result keys_are c.number-view.ensures.number)
          (subst (λ keys. TellsEntries R kinds logs keys (keyed_envelope key envelope) entries) (sym keys_are) a.entries_stand) in
          let leads = subst (λ keys. AreMade (LeadsTo R.IsDataOf logs node.entries after.entries) keys changes) keys_are work.leads in
          let changed = c.any_changed.ensures logs node.entries after.entries (subst (λ keys. AreMade (LeadsTo R.IsDataOf logs node.entries after.entries) keys changes) (sym c.deref-2.ensures.value) leads)
          ∙ ap (list_any (λ state. not (is_unchanged (node.entries state.name) (after.entries state.name)))) c.deref-2.ensures.value
          ∙ sym (changed_is later after code.keys.items (ap (λ n. n.keys) only ∙ s.keys)) in
          let asked : OpenOperation = record { op = op; key = key; reads = true; needed = 0; counted = alone from } in
          let is = c.in_ok-counted.ensures.image (entry_digest S.history_byte S.history_spelled) kinds logs node.entries after asked (held_first R.kind_of R.IsDataOf kinds logs code node s) kept leads (ap (λ n. n.keys) only ∙ s.keys) refl refl in
          let stands = operates_same (known code.operations) node after s.operations (ap (λ n. n.open_operations) only) (ap (λ n. n.finished) only) (ap (λ n. n.next_op) only) in
          let w = read_counts D (known code.operations) stepped stands refl from op key asked refl refl c.in_ok-counted.counted is in
          let prepared : Prepared g.row.T.Denot g.row.T-Kind.Denot g.row.T-Op.Denot g.row.T-Delta.Denot R =
          record { view = None; plan = Each changes; operations = c.in_ok-counted.counted.change; output = record { reply = c.of_take-reply.result; posts = c.new.result; finished = c.in_ok-counted.counted.finished } } in
          subst (λ st. IsPrepared {ghosts = R} kinds logs code.keys.items (known code.operations) node st prepared) (sym same)
          (prepared_taken code changes kept kinds logs node s after only leads next w.only prepared refl refl w.operates (record {
            reply = took_reply D c.of_take-reply.result c.any_changed.result later after c.of_take-reply.ensures changed ∙ sym w.reply;
            posts = subst₂ (StandsForPosts {ghosts = R} R.kind_of R.IsDataOf kinds logs) (sym c.new.ensures) (sym w.posts) tt;
            ended = w.ended;
          }));
      replies =
          let takes = taken_reply c.of_take-reply.result false c.any_changed.result [] c.of_take-reply.ensures in
          replies_stored (inputs.Take c.args.from (messages.ReadAnswer c.args.op c.args.key.now (option_copied c.args.envelope))) _ c.of_take-reply.result refl tt takes (take_fails c.of_take-reply.result takes);
    }

pub read_counted-requires : goal.read_counted-requires
read_counted-requires g c = c.in_ok-changes.ensures.kept.one_each ∙ ap length c.deref.ensures.value
