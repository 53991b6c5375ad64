-- A refused input changes nothing but the count of steps, and sends nothing.
use Rattle.std.proofs.Common.{◌≡◌, ℕ, List, [], ◌∷◌, refl, Bool, true, false, Option, Some, None}
use Rattle.std.specs.Prelude.{if◌then◌else◌, nat_le, length, not, ◌==◌, ◌||◌}
use Rattle.std.specs.List.{list_any}
use Rattle.model_history.specs.Texts.{Text}
use Rattle.model_history.specs.Vector.{members_of}
use Rattle.model_meanings.specs.Refusal.{Refusal}
use Rattle.model_members.specs.View.{is_member, leader}
use Rattle.model_members.specs.Entry.{Entry}
use Rattle.model_members.specs.DataType.{Replication}
use Rattle.model_members.specs.Message.{Message}
use Rattle.model_members.specs.Message.Message.{Deltas, Nack, Status, Gossip, Write, WriteAck, WriteNack, Read, ReadAnswer}
use Rattle.model_members.specs.Node.{Node, KeyState, OpenOperation, Input, Level, Fate, Stepped, key_state, needed, one_step_later}
use Rattle.model_members.specs.Node.Fate.{NoStore, Stored, StoreFailed}
use Rattle.model_members.specs.Node.Input.{Update, Get, Take, Install, Flush, GossipTo, PruneTick, Timeout}
use Rattle.model_members.specs.Node.Reply.{Taken, Deleted, WrongKind, NotFromMember, NotStored, Installed, Ticked, TickedNotStored, NotAPeer, NotLeader, OldView, NoSuchOp}
use Rattle.model_members.specs.Refusals.{IsRefusal}
use Rattle.model_members.specs.Step.{step, step_of_take, took, after_entries, keyed_option, take_reply, KeyGap, answered, has_failed, member_count, outcomes_of, with_answer}
use Rattle.model_members.proofs.Cases.{accepted, updated, updated_undeleted, updated_needing, updated_unless, got, got_needing, counted_for}
use Rattle.model_members.proofs.FailedStores.{if_holds}

module _ {Kind Op Shown : Type 0} (D : Replication Kind Op Shown) (node : Node Kind Op Shown) where
  -- where the reply is a refusal, the member is as it was, and nothing was sent
  abbrev pub LeavesAll : Stepped Kind Op Shown → Type 0
  LeavesAll s = IsRefusal s.output.reply → (s.node ≡ node) × (s.output.posts ≡ [])

  accepted_leaves : (key : Text) (n : ℕ) (fate : Fate) (entry : Entry Op) → LeavesAll (accepted D node key n fate entry)
  accepted_leaves key n fate entry = if_holds LeavesAll (has_failed fate) _ _ (λ h. absurd h) (if_holds LeavesAll (nat_le n 1) _ _ (λ h. absurd h) (λ h. absurd h))

  unless_leaves : (k : KeyState Kind Op) (op : Op) (n : ℕ) (fate : Fate) (o : Option Refusal) → LeavesAll (updated_unless D node k op n fate o)
  unless_leaves k op n fate (Some refusal) = λ h. (refl, refl)
  unless_leaves k op n fate None = accepted_leaves k.name n fate _

  needing_leaves : (k : KeyState Kind Op) (op : Op) (fate : Fate) (o : Option ℕ) → LeavesAll (updated_needing D node k op o fate)
  needing_leaves k op fate None = λ h. (refl, refl)
  needing_leaves k op fate (Some n) = unless_leaves k op n fate (D.data_type.refusal k.kind node.identity op k.entry.history)

  update_leaves : (op : Op) (level : Level) (fate : Fate) (o : Option (KeyState Kind Op)) → LeavesAll (updated D node o op level fate)
  update_leaves op level fate None = λ h. (refl, refl)
  update_leaves op level fate (Some k) =
      if_holds LeavesAll (D.data_type.deleted k.entry.history) (answered node Deleted) (updated_undeleted D node k op level fate) (λ h. (refl, refl))
      (if_holds LeavesAll (D.data_type.fits k.kind op) (updated_needing D node k op (needed level (member_count node)) fate) (answered node WrongKind) (needing_leaves k op fate (needed level (member_count node))) (λ h. (refl, refl)))

  get_leaves : (k : KeyState Kind Op) (o : Option ℕ) → LeavesAll (got_needing D node k o)
  get_leaves k None = λ h. (refl, refl)
  get_leaves k (Some n) = if_holds LeavesAll (nat_le n 1) _ _ (λ h. (refl, refl)) (λ h. absurd h)

  got_leaves : (level : Level) (o : Option (KeyState Kind Op)) → LeavesAll (got D node o level)
  got_leaves level None = λ h. (refl, refl)
  got_leaves level (Some k) = get_leaves k (needed level (member_count node))

  -- no reply to a message of a member is a refusal
  take_never : (fate : Fate) (gaps : List KeyGap) (unchanged : Bool) → IsRefusal (take_reply D fate gaps unchanged) → ⊥
  take_never StoreFailed gaps unchanged h = h
  take_never NoStore (gap ∷ gaps) unchanged h = h
  take_never NoStore [] true h = h
  take_never NoStore [] false h = h
  take_never Stored (gap ∷ gaps) unchanged h = h
  take_never Stored [] true h = h
  take_never Stored [] false h = h

  abbrev IsNone : Stepped Kind Op Shown → Type 0
  IsNone s = IsRefusal s.output.reply → ⊥

  counted_none : (s : Stepped Kind Op Shown) (from : ℕ) (o : Option OpenOperation) → IsNone s → IsNone (counted_for D s from o)
  counted_none s from None none = none
  counted_none s from (Some o) none = if_holds IsNone (nat_le o.needed (length (members_of (with_answer from o).counted))) _ _ none none

  message_none : (from : ℕ) (fate : Fate) (message : Message Op) → IsNone (step_of_take D node from fate message)
  message_none from fate (Deltas groups entries) = take_never fate _ _
  message_none from fate (Nack keys) = λ h. h
  message_none from fate (Status digests) = λ h. h
  message_none from fate (Gossip entries wants) = take_never fate [] _
  message_none from fate (Write op key entry) = take_never fate [] _
  message_none from fate (WriteAck op) = counted_none (answered node Taken) from _ (λ h. h)
  message_none from fate (WriteNack op) = λ h. h
  message_none from fate (Read op key) = λ h. h
  message_none from fate (ReadAnswer op key entry) = counted_none (took D node (after_entries node (keyed_option D key entry)) fate [] []) from _ (take_never fate [] _)

  install_none : (b : Bool) → IsRefusal {Shown = Shown} (if b then NotStored else Installed) → ⊥
  install_none true h = h
  install_none false h = h

  tick_none : (b : Bool) → IsRefusal {Shown = Shown} (if b then TickedNotStored (outcomes_of D node) else Ticked (outcomes_of D node)) → ⊥
  tick_none true h = h
  tick_none false h = h

module _ {Kind Op Shown : Type 0} (D : Replication Kind Op Shown) (before : Node Kind Op Shown) (fate : Fate) where
  abbrev node : Node Kind Op Shown
  node = one_step_later before

  pub refused_leaves : (input : Input Op) → LeavesAll D (one_step_later before) (step D before input fate)
  refused_leaves (Update key op level) = update_leaves D node op level fate (key_state node key)
  refused_leaves (Get key level) = got_leaves D node level (key_state node key)
  refused_leaves (Take from message) =
      if_holds (LeavesAll D node) (is_member node.view from) (step_of_take D node from fate message) (answered node NotFromMember) (λ h. absurd (message_none D node from fate message h)) (λ h. (refl, refl))
  refused_leaves (Install view) = if_holds (LeavesAll D node) (nat_le view.number node.view.number) (answered node OldView) _ (λ h. (refl, refl)) (λ h. absurd (install_none D node (has_failed fate) h))
  refused_leaves Flush = λ h. absurd h
  refused_leaves (GossipTo i) = if_holds (LeavesAll D node) ((i == node.identity) || not (is_member node.view i)) (answered node NotAPeer) _ (λ h. (refl, refl)) (λ h. absurd h)
  refused_leaves PruneTick = if_holds (LeavesAll D node) (not (leader node.view == node.identity)) (answered node (NotLeader (leader node.view))) _ (λ h. (refl, refl)) (λ h. absurd (tick_none D node (has_failed fate) h))
  refused_leaves (Timeout op) = if_holds (LeavesAll D node) (list_any (λ (o : OpenOperation). o.op == op) node.open_operations) _ (answered node NoSuchOp) (λ h. absurd h) (λ h. (refl, refl))
