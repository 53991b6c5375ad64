use Rattle.std.proofs.Common.{None, get_or, refl, sym, ap, ◌∙◌, subst, map, option_map, if◌then◌else◌}
use Rattle.member_node.proofs.Common.{AreDistinctKeys, known, Text, VersionVector, one_step_later, NoStore, step, step_of_take, answered, Each, Prepared, declared_by, AreOfTheirKinds, StandsForTaken, changed, AreMade, StandsForKey, IsPrepared, replication, IsKept, LeadsTo, AreHeld, AreExactAt}
use Rattle.model_members.specs.Node.Reply.{NotFromMember}
use Rattle.member_node.specs.declared.operations.OperationChange.TheVariants.{Same as Unchanged}
use Rattle.member_node.specs.Operations.{finished_meant}
use Rattle.member_node.proofs.Takings.{kept_changed}
use Rattle.member_node.proofs.TakingSteps.{member_is, held_first, stands_after, still_led}
use Rattle.member_node.proofs.Planned.{sound_each, leads_each, owned, sound_as, operates_still}
use Rattle.member_node.specs.declared.input.Input.TheVariants as inputs
use Rattle.member_node.proofs.Answerings.{take_fails, replies_stored}
use Rattle.member_node.proofs.node.Node.exchanged.Goals as goal

pub taken-requires : goal.taken-requires
taken-requires g c = record { distinct = subst AreDistinctKeys (sym c.deref.ensures.value) c.args.self.now.distinct }

pub returns : goal.returns
returns g c =
    let R = g.T.Replica in
    let code = c.args.self.now in
    record {
      sound =
          let made = subst (λ keys. AreMade (IsKept R.kind_of code.id) keys c.in_ok-taken.taken.changes) c.deref.ensures.value c.in_ok-taken.ensures.kept in
          sound_as code _ (sound_each R code.id code.steps code.keys.items (owned code) (IsKept R.kind_of code.id) (kept_changed R.kind_of code.id) c.in_ok-taken.taken.changes made) refl c.in_ok-taken.ensures.opens_none;
      image = λ kinds logs node sent s i safe.
          let D = replication R g.T.SpelledData in
          let changes = c.in_ok-taken.taken.changes in
          let keys_are = c.deref.ensures.value in
          let member = member_is R.kind_of R.IsDataOf kinds logs code node s c.args.from ∙ c.requires.member in
          let same = ap (λ b. if b then step_of_take D (one_step_later node) c.args.from NoStore i.told else answered (one_step_later node) NotFromMember) member in
          let next = step_of_take D (one_step_later node) c.args.from NoStore i.told in
          let next_is = ap (λ st. st.node) (ap (λ input. step D node input NoStore) i.is ∙ same) in
          let exact = subst (λ keys. AreExactAt keys next.node.entries) (sym keys_are) (λ k d within. subst (λ n. AreExactAt code.keys.items n.entries) next_is (λ k d within. safe.exact (get_or code.keys.items k d).name) k d within) in
          let of_kinds = subst (AreOfTheirKinds R.kind_of) (sym keys_are) code.of_kinds in
          let held = subst (λ keys. AreHeld R.kind_of R.IsDataOf kinds logs code.id keys node.entries) (sym keys_are) (held_first R.kind_of R.IsDataOf kinds logs code node s) in
          let stands = subst (λ keys. StandsForTaken kinds logs keys c.args.message.now i.told) (sym keys_are) i.message_stands in
          let t = c.in_ok-taken.ensures.image kinds logs (one_step_later node) i.told
          (record { of_kinds = of_kinds; held = held; identity = s.identity; viewed = ap (λ v. v.number) s.view ∙ sym c.number-view.ensures.number; declares = s.keys ∙ ap (map declared_by) (sym keys_are) }) stands c.requires.exchange exact in
          let kept = subst (λ keys. AreMade (IsKept R.kind_of code.id) keys changes) keys_are c.in_ok-taken.ensures.kept in
          let leads = subst (λ keys. AreMade (LeadsTo R.IsDataOf logs node.entries next.node.entries) keys changes) keys_are t.leads in
          let prepared : Prepared g.row.T.Denot g.row.T-Kind.Denot g.row.T-Op.Denot g.row.T-Delta.Denot R = record { view = None; plan = Each changes; operations = Unchanged; output = c.in_ok-taken.taken.output } in
          subst (λ st. IsPrepared {ghosts = R} kinds logs code.keys.items (known code.operations) node st prepared) (sym (ap (λ input. step D node input NoStore) i.is ∙ same)) (record {
            identity = ap (λ n. n.identity) t.only;
            declared = ap (λ n. n.keys) t.only;
            counted = ap (λ n. n.steps) t.only;
            viewed = ap (λ n. n.view) t.only;
            leads_on = leads_each R kinds logs code.keys.items node next.node s.entries changes
                (λ k d within here.
                subst (λ (f : Text → VersionVector). StandsForKey R.kind_of R.IsDataOf R.IsDeltaOf kinds logs (changed (get_or code.keys.items k d) (get_or changes k None)) (next.node.entries (get_or code.keys.items k d).name) (f (get_or code.keys.items k d).name)) (sym (ap (λ n. n.flushed) t.only))
                (stands_after R.kind_of R.IsDataOf R.IsDeltaOf kinds logs code.id node.entries next.node.entries node.flushed (get_or code.keys.items k d) (get_or changes k None) (code.unpruned k d within) (code.logged k d within) (kept.made k d None within) (leads.made k d None within) here))
                (λ k d within none. still_led R.kind_of R.IsDataOf R.IsDeltaOf kinds logs code.id node.entries next.node.entries node.flushed (get_or code.keys.items k d) (get_or changes k None) (leads.made k d None within) none);
            operates = operates_still kinds logs code node s prepared next.node refl (ap (λ n. n.open_operations) t.only) (ap (λ n. n.finished) t.only) (ap (λ n. n.next_op) t.only);
            answers = record { reply = t.reply; posts = t.posts; ended = t.ended ∙ sym (ap (option_map finished_meant) c.in_ok-taken.ensures.ends_none) };
          });
      replies = replies_stored (inputs.Take c.args.from c.args.message.now) _ c.in_ok-taken.taken.output.reply refl tt c.in_ok-taken.ensures.takes (take_fails c.in_ok-taken.taken.output.reply c.in_ok-taken.ensures.takes);
    }
