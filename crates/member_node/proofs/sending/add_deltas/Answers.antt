use Rattle.std.proofs.Common.{◌≡◌, true, ◌++◌, refl, sym, ap, ◌∙◌, subst, subst₂, append-nil}
use Rattle.std.specs.List.{AllZip}
use Rattle.member_node.proofs.Common.{StandsForKeyed, StandsForKeyedGroup, state_in}
use Rattle.model_members.specs.Entry.{group_after}
use Rattle.model_members.specs.Step as steps
use Rattle.member_node.specs.Sending.{IsGroupFor}
use Rattle.member_node.proofs.Lists.{zip_push}
use Rattle.member_node.proofs.Sendings.{behind_is, groups_of-one, groups_of-whole, entries_of-one, entries_of-grouped}
use Rattle.member_node.proofs.sending.add_deltas.Goals as goal

pub returns-in_ok-push-in-Some : goal.returns-in_ok-push-in-Some
returns-in_ok-push-in-Some g c =
    let R = g.T.Replica in
    let state = c.args.state.now in
    record {
      groups = λ D kinds logs node sent keeps h zipped.
          let behind : steps.is_behind D node c.args.peer (state_in node state) ≡ true = sym (behind_is R.kind_of R.IsDataOf R.IsDeltaOf kinds logs c.args.id node D c.args.peer state h) ∙ sym c.is_behind.ensures ∙ c.if-not-is_behind.false in
          let made = subst (IsGroupFor {ghosts = R} kinds logs D node c.args.peer state) c.in-Some.is (c.in_ok-group.ensures D kinds logs c.args.id node keeps h behind) in
          subst₂ (AllZip (StandsForKeyedGroup {ghosts = R} kinds logs)) (sym c.in_ok-push-in-Some.ensures.ok) (ap (λ more. sent ++ more) (sym (groups_of-one D node c.args.peer (state_in node state) behind made.0)))
          (zip_push (StandsForKeyedGroup {ghosts = R} kinds logs) c.args.groups.now sent (record { key = c.copied-key.result; item = c.in-Some.item }) (record { key = state.name; item = group_after (node.entries state.name) node.identity (node.flushed state.name c.args.peer) }) zipped
          (subst (λ key. StandsForKeyedGroup {ghosts = R} kinds logs (record { key = key; item = c.in-Some.item }) (record { key = state.name; item = group_after (node.entries state.name) node.identity (node.flushed state.name c.args.peer) })) (sym c.copied-key.ensures) made.1));
      entries = λ D kinds logs node sent keeps h zipped.
          let behind : steps.is_behind D node c.args.peer (state_in node state) ≡ true = sym (behind_is R.kind_of R.IsDataOf R.IsDeltaOf kinds logs c.args.id node D c.args.peer state h) ∙ sym c.is_behind.ensures ∙ c.if-not-is_behind.false in
          let made = subst (IsGroupFor {ghosts = R} kinds logs D node c.args.peer state) c.in-Some.is (c.in_ok-group.ensures D kinds logs c.args.id node keeps h behind) in
          subst (AllZip (StandsForKeyed R.kind_of R.IsDataOf kinds logs) c.args.entries.now) (sym (ap (λ more. sent ++ more) (entries_of-grouped D node c.args.peer (state_in node state) behind made.0) ∙ append-nil sent)) zipped;
    }

pub returns-in_ok-push-in-None : goal.returns-in_ok-push-in-None
returns-in_ok-push-in-None g c =
    let R = g.T.Replica in
    let state = c.args.state.now in
    record {
      groups = λ D kinds logs node sent keeps h zipped.
          let behind : steps.is_behind D node c.args.peer (state_in node state) ≡ true = sym (behind_is R.kind_of R.IsDataOf R.IsDeltaOf kinds logs c.args.id node D c.args.peer state h) ∙ sym c.is_behind.ensures ∙ c.if-not-is_behind.false in
          let made = subst (IsGroupFor {ghosts = R} kinds logs D node c.args.peer state) c.in-None.is (c.in_ok-group.ensures D kinds logs c.args.id node keeps h behind) in
          subst (AllZip (StandsForKeyedGroup {ghosts = R} kinds logs) c.args.groups.now) (sym (ap (λ more. sent ++ more) (groups_of-whole D node c.args.peer (state_in node state) behind made) ∙ append-nil sent)) zipped;
      entries = λ D kinds logs node sent keeps h zipped.
          let behind : steps.is_behind D node c.args.peer (state_in node state) ≡ true = sym (behind_is R.kind_of R.IsDataOf R.IsDeltaOf kinds logs c.args.id node D c.args.peer state h) ∙ sym c.is_behind.ensures ∙ c.if-not-is_behind.false in
          let made = subst (IsGroupFor {ghosts = R} kinds logs D node c.args.peer state) c.in-None.is (c.in_ok-group.ensures D kinds logs c.args.id node keeps h behind) in
          subst₂ (AllZip (StandsForKeyed R.kind_of R.IsDataOf kinds logs)) (sym c.in_ok-push-in-None.ensures.ok) (ap (λ more. sent ++ more) (sym (entries_of-one D node c.args.peer (state_in node state) behind made)))
          (zip_push (StandsForKeyed R.kind_of R.IsDataOf kinds logs) c.args.entries.now sent (record { key = c.copied-key.result; item = c.in_ok-item-in-None.item }) (record { key = state.name; item = node.entries state.name }) zipped
          (subst₂ (λ key item. StandsForKeyed R.kind_of R.IsDataOf kinds logs (record { key = key; item = item }) (record { key = state.name; item = node.entries state.name })) (sym c.copied-key.ensures) (sym (c.in_ok-item-in-None.ensures ∙ c.envelope.ensures)) (record { same = refl; held = h.held.held })));
    }
