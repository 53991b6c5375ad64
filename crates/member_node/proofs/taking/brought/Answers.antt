use Rattle.std.proofs.Common.{rules, ◌≤◌, [], ◌++◌, length, ap, sym, ◌∙◌, subst}
use Rattle.std.proofs.lemmas.List.{length-map}
use Rattle.std.specs.List.{AllZip}
use Rattle.member_node.proofs.Common.{after_groups, after_entries, named_entries, gossip_to, Shown, StandsForKeyed, StandsForPosts, delta_groups, AreMade, TellsGroups, TellsEntries, LeadsTo, AreExactAt, IsAtWork}
use Rattle.model_members.specs.Node.{Node as Member}
use Rattle.model_members.specs.Step.{is_changed, nack_to}
use Rattle.model_members.proofs.Taking.{after_entries-only}
use Rattle.member_messages.specs.Sketches.{names_of}
use Rattle.member_node.specs.Answers.{reply_to, only_asks, answers_of}
use Rattle.member_node.proofs.Takings.{kept_first, leads_first}
use Rattle.member_node.proofs.Growing.{groups-only}
use Rattle.member_node.proofs.Sendings.{brings, replies, answers_stand, not_opened, changed_is, few_answers}
use Rattle.member_node.proofs.Answerings.{taken_reply}
use Rattle.member_node.proofs.taking.brought.Goals as goal

pub returns : goal.returns
returns g c =
    let keys = c.args.keys.now in
    let first = c.unchanged-changes.result in
    let two = c.take_entries.new.changes in
    record {
      kept = c.in_ok-take_entries.ensures.kept (c.in_ok-gaps.ensures.kept (kept_first g.T.Replica.kind_of c.args.id keys first c.unchanged-changes.ensures));
      image = λ digest kinds logs node sent held_by stands other exchange exact.
          let of_kinds = held_by.of_kinds in
          let held = held_by.held in
          let R = g.T.Replica in
          let D = delta_groups R.data_type digest in
          let message = c.args.message.now in
          let b = brings D kinds logs keys node c.args.from message sent stands other exchange in
          let groups = subst (λ gs. TellsGroups R kinds logs keys gs b.sent_groups) (sym c.groups.ensures) b.groups_stand in
          let entries = subst (λ es. TellsEntries R kinds logs keys es b.sent_entries) (sym c.entries.ensures) b.entries_stand in
          let mid = after_groups node b.sent_groups in
          let after = after_entries mid.node b.sent_entries in
          let k0 = kept_first R.kind_of c.args.id keys first c.unchanged-changes.ensures in
          let k1 = c.in_ok-gaps.ensures.kept k0 in
          let k2 = c.in_ok-take_entries.ensures.kept k1 in
          let w0 : IsAtWork R.kind_of R.IsDataOf kinds logs c.args.id keys c.args.view node.entries first node =
          record { identity = held_by.identity; viewed = held_by.viewed; declares = held_by.declares; leads = leads_first R.IsDataOf logs node.entries keys first c.unchanged-changes.ensures } in
          let w1 = c.in_ok-gaps.ensures.image kinds logs c.args.view node.entries node b.sent_groups of_kinds held k0 groups w0 in
          let gaps = c.in_ok-gaps.ensures.gaps kinds logs c.args.view node.entries node b.sent_groups of_kinds held k0 groups w0 in
          let w2 = c.in_ok-take_entries.ensures.image kinds logs node.entries mid.node b.sent_entries (subst (λ (n : Member g.row.T-Kind.Denot g.row.T-Op.Denot Shown). AreExactAt keys n.entries) b.takes.next exact) (record { of_kinds = of_kinds; held = held; kept = k1 }) entries w1 in
          let named = c.in_ok-entries.ensures digest kinds logs c.args.id c.args.view node.entries after held k2 w2 in
          let named' = subst (λ names. AllZip (StandsForKeyed R.kind_of R.IsDataOf kinds logs) c.in_ok-entries.entries (named_entries D after names)) c.names.ensures named in
          let test = c.any_changed-changed.ensures logs node.entries after.entries w2.leads ∙ sym (changed_is node after keys w2.declares) in
          let only = after_entries-only b.sent_entries mid.node ∙ (λ i. record (groups-only b.sent_groups (record { node = node; gaps = [] }) i) { entries = after.entries }) in
          record {
            only = b.takes.next ∙ only ∙ (λ i. record node { entries = (sym b.takes.next i).entries });
            leads = subst (λ (n : Member g.row.T-Kind.Denot g.row.T-Op.Denot Shown). AreMade (LeadsTo R.IsDataOf logs node.entries n.entries) keys two) (sym b.takes.next) w2.leads;
            reply = c.reply-reply.ensures ∙ (λ i. reply_to (only_asks message) (c.as_slice.ensures i) (test i)) ∙ replies D (only_asks message) (is_changed node after) c.in_ok-gaps.gaps mid.gaps gaps ∙ sym b.takes.reply;
            ended = b.takes.ends;
            posts = subst (λ ps. StandsForPosts R.kind_of R.IsDataOf kinds logs c.in_ok-posts.posts ps) (sym b.takes.posts)
                (subst (λ posts. StandsForPosts R.kind_of R.IsDataOf kinds logs posts (nack_to D c.args.from mid.gaps ++ gossip_to D c.args.from (named_entries D after (names_of message)) []))
                (sym (c.in_ok-posts.ensures ∙ (λ i. answers_of c.args.from (c.as_slice-2.ensures i) c.in_ok-entries.entries)))
                (answers_stand D R R.kind_of R.IsDataOf kinds logs c.args.from c.in_ok-gaps.gaps mid.gaps c.in_ok-entries.entries (named_entries D after (names_of message)) gaps named'));
          };
      few = subst (λ posts. length posts ≤ 2) (sym c.in_ok-posts.ensures) (few_answers g.T.Replica c.args.from c.as_slice-2.result.now c.in_ok-entries.entries);
      opens_none = not_opened c.reply-reply.result (only_asks c.args.message.now) c.any_changed-changed.result c.as_slice.result.now c.reply-reply.ensures;
      counted = (c.in_ok-take_entries.ensures.kept (c.in_ok-gaps.ensures.kept (kept_first g.T.Replica.kind_of c.args.id keys first c.unchanged-changes.ensures))).one_each;
      ends_none = search rules;
      takes = taken_reply c.reply-reply.result (only_asks c.args.message.now) c.any_changed-changed.result c.as_slice.result.now c.reply-reply.ensures;
    }

-- each key has its place, at each step
pub any_changed-changed-requires : goal.any_changed-changed-requires
any_changed-changed-requires g c =
    let kept = kept_first g.T.Replica.kind_of c.args.id c.args.keys.now c.unchanged-changes.result c.unchanged-changes.ensures in
    (c.in_ok-take_entries.ensures.kept (c.in_ok-gaps.ensures.kept kept)).one_each

pub take_groups-requires-clause-counted : goal.take_groups-requires-clause-counted
take_groups-requires-clause-counted g c = ap length c.unchanged-changes.ensures ∙ length-map c.args.keys.now _

pub take_entries-requires-clause-counted : goal.take_entries-requires-clause-counted
take_entries-requires-clause-counted g c = (c.in_ok-gaps.ensures.kept (kept_first g.T.Replica.kind_of c.args.id c.args.keys.now c.unchanged-changes.result c.unchanged-changes.ensures)).one_each

pub named-requires : goal.named-requires
named-requires g c =
    let kept = kept_first g.T.Replica.kind_of c.args.id c.args.keys.now c.unchanged-changes.result c.unchanged-changes.ensures in
    (c.in_ok-take_entries.ensures.kept (c.in_ok-gaps.ensures.kept kept)).one_each
