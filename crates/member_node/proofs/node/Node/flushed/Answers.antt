use Rattle.std.proofs.Common.{None, refl, sym, ap, ◌∙◌, subst, map, All, inl}
use Rattle.member_node.proofs.Common.{known, identities_of, one_step_later, NoStore, step, Each, Prepared, declared_by, AreMade, IsFlush, IsHeldBy, IsPrepared, replication}
use Rattle.model_members.specs.Node.Input.{Flush}
use Rattle.member_node.specs.declared.operations.OperationChange.TheVariants.{Same as Unchanged}
use Rattle.member_node.specs.declared.reply.Reply.TheVariants as reply
use Rattle.member_node.proofs.Sendings.{held_by, stands_flushed, flush_keeps}
use Rattle.member_node.proofs.Planned.{sound_each, leads_each, owned, sound_as, operates_still}
use Rattle.member_node.proofs.Answerings.{flush_nothing}
use Rattle.member_node.proofs.node.Node.flushed.Goals as goal

pub returns : goal.returns
returns g c =
    let R = g.T.Replica in
    let code = c.args.self.now in
    record {
      sound =
          let members = c.deref-4.result.now in
          let made = subst (λ keys. AreMade (IsFlush code.id members) keys c.in_ok-changes.changes) c.deref-3.ensures.value c.in_ok-changes.ensures in
          sound_as code _ (sound_each R code.id code.steps code.keys.items (owned code) (IsFlush code.id members) (flush_keeps code.id members R.kind_of) c.in_ok-changes.changes made) refl refl;
      image = λ kinds logs node sent s is safe.
          let D = replication R g.T.SpelledData in
          let changes = c.in_ok-changes.changes in
          let made = subst (λ keys. AreMade (IsFlush code.id (identities_of code.view)) keys changes) c.deref-3.ensures.value
          (subst (λ members. AreMade (IsFlush code.id members) c.deref-3.result.now changes) (c.deref-4.ensures.value ∙ c.in_ok-members.ensures) c.in_ok-changes.ensures) in
          let held = subst (All (IsHeldBy R.kind_of R.IsDataOf R.IsDeltaOf kinds logs code.id (one_step_later node))) (sym c.deref.ensures.value) (held_by R.IsDataOf kinds logs code node s) in
          let posts = c.in_ok-posts.ensures D kinds logs (one_step_later node) refl held (s.keys ∙ ap (map declared_by) (sym c.deref.ensures.value)) s.identity (ap identities_of s.view ∙ sym (c.deref-2.ensures.value ∙ c.in_ok-members.ensures)) in
          let prepared : Prepared g.row.T.Denot g.row.T-Kind.Denot g.row.T-Op.Denot g.row.T-Delta.Denot R = record { view = None; plan = Each changes; operations = Unchanged; output = record { reply = reply.Done; posts = c.in_ok-posts.posts; finished = None } } in
          subst (λ i. IsPrepared {ghosts = R} kinds logs code.keys.items (known code.operations) node (step D node i NoStore) prepared) (sym is) (record {
            identity = refl;
            declared = refl;
            counted = refl;
            viewed = refl;
            leads_on = leads_each R kinds logs code.keys.items node _ s.entries changes
                (λ k d within here. stands_flushed R.kind_of R.IsDataOf kinds logs code node s _ _ _ _ (code.unpruned k d within) (made.made k d None within) here)
                (λ k d within none. refl);
            operates = operates_still kinds logs code node s prepared (step D node Flush NoStore).node refl refl refl refl;
            answers = record { reply = refl; posts = posts; ended = refl };
          });
      replies = record { stored = refl; failing = inl (flush_nothing code.id c.deref-4.result.now c.deref-3.result.now c.in_ok-changes.changes c.in_ok-changes.ensures); ends = refl };
    }
