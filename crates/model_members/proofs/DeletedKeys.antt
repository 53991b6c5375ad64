-- A deleted key is told as deleted, and no other is.
use Rattle.std.proofs.Common.{◌≡◌, ℕ, ◌<◌, refl, sym, ap, ◌∙◌, Bool, true, false, Option, Some, None}
use Rattle.std.specs.Prelude.{◌↔◌, if◌then◌else◌, option_map, nat_le}
use Rattle.model_history.specs.Texts.{Text}
use Rattle.model_history.specs.History.{Action}
use Rattle.model_meanings.specs.Refusal.{Refusal}
use Rattle.model_members.specs.Entry.{Entry, with_action, has_records}
use Rattle.model_members.specs.DataType.{Replication, IsDeleted, Shows}
use Rattle.model_members.specs.Message.Message.{Write}
use Rattle.model_members.specs.Node.{KeyState, Node, Input, Fate, Level, Stepped, HasKey, state_of, with_entry, needed, one_step_later}
use Rattle.model_members.specs.Node.Reply.{Done, Deleted, WrongKind, NotStored}
use Rattle.model_members.specs.Step.{step, value_reply, answered, opened, has_failed, member_count}
use Rattle.model_members.proofs.Cases.{accepted, updated, updated_undeleted, updated_needing, updated_unless, got, got_needing}
use Rattle.model_members.proofs.FailedStores.{if_holds}
use Rattle.model_members.proofs.Steps.{one_is_enough}

module _ {Kind Op Shown : Type 0} (D : Replication Kind Op Shown) (node : Node Kind Op Shown) where
  -- it isn't told that a key is deleted
  abbrev IsOther : Stepped Kind Op Shown → Type 0
  IsOther s = s.output.reply ≡ Deleted → ⊥

  accepted_other : (key : Text) (n : ℕ) (fate : Fate) (entry : Entry Op) → IsOther (accepted D node key n fate entry)
  accepted_other key n fate entry =
      let after = with_entry node key entry in
      if_holds IsOther (has_failed fate) (answered after NotStored) (if nat_le n 1 then answered after Done else opened after key false n (Write node.next_op key entry)) (λ e. cc e)
      (if_holds IsOther (nat_le n 1) (answered after Done) (opened after key false n (Write node.next_op key entry)) (λ e. cc e) (λ e. cc e))

  unless_other : (k : KeyState Kind Op) (op : Op) (n : ℕ) (fate : Fate) (o : Option Refusal) → IsOther (updated_unless D node k op n fate o)
  unless_other k op n fate (Some refusal) = λ e. cc e
  unless_other k op n fate None = accepted_other k.name n fate (with_action k.entry node.identity (Action.Operation op))

  needing_other : (k : KeyState Kind Op) (op : Op) (fate : Fate) (o : Option ℕ) → IsOther (updated_needing D node k op o fate)
  needing_other k op fate None = λ e. cc e
  needing_other k op fate (Some n) = unless_other k op n fate (D.data_type.refusal k.kind node.identity op k.entry.history)

  undeleted_other : (k : KeyState Kind Op) (op : Op) (level : Level) (fate : Fate) → IsOther (updated_undeleted D node k op level fate)
  undeleted_other k op level fate =
      if_holds IsOther (D.data_type.fits k.kind op) (updated_needing D node k op (needed level (member_count node)) fate) (answered node WrongKind) (needing_other k op fate (needed level (member_count node))) (λ e. cc e)

  told_exactly : (k : KeyState Kind Op) (op : Op) (level : Level) (fate : Fate) → ((updated D node (Some k) op level fate).output.reply ≡ Deleted) ↔ (D.data_type.deleted k.entry.history ≡ true)
  told_exactly k op level fate = by (D.data_type.deleted k.entry.history)
    where
      by : (b : Bool) → ((if b then answered node Deleted else updated_undeleted D node k op level fate).output.reply ≡ Deleted) ↔ (b ≡ true)
      by true = (λ e. refl, λ e. refl)
      by false = (λ e. absurd (undeleted_other k op level fate e), λ e. absurd (cc e))

  got_exactly : (k : KeyState Kind Op) → ((got_needing D node k (Some 1)).output.reply ≡ Deleted) ↔ ((has_records k.entry ≡ true) × (D.data_type.deleted k.entry.history ≡ true))
  got_exactly k = by (has_records k.entry) (D.data_type.deleted k.entry.history)
    where
      by : (b c : Bool) → (value_reply D (if b then Some (if c then IsDeleted else Shows (D.data_type.shown k.kind k.entry.history)) else None) ≡ Deleted) ↔ ((b ≡ true) × (c ≡ true))
      by true true = (λ e. (refl, refl), λ h. refl)
      by true false = (λ e. absurd (cc e), λ h. absurd (let f = h.1 in cc f))
      by false c = (λ e. absurd (cc e), λ h. absurd (let f = h.0 in cc f))

module _ {Kind Op Shown : Type 0} (D : Replication Kind Op Shown) (node : Node Kind Op Shown) (key : Text) (kind : Kind) (has : HasKey node key kind) where
  abbrev state : KeyState Kind Op
  state = state_of (one_step_later node) (record { name = key; kind = kind; durable = has.0 })

  pub update_told : (op : Op) (level : Level) (fate : Fate) → ((step D node (Input.Update key op level) fate).output.reply ≡ Deleted) ↔ (D.data_type.deleted (node.entries key).history ≡ true)
  update_told op level fate =
      let same = ap (λ o. (updated D (one_step_later node) (option_map (state_of (one_step_later node)) o) op level fate).output.reply) has.1 in
      let told = told_exactly D (one_step_later node) state op level fate in
      (λ e. told.0 (sym same ∙ e), λ e. same ∙ told.1 e)

  pub get_told : (fate : Fate) → 0 < member_count node → ((step D node (Input.Get key Level.Local) fate).output.reply ≡ Deleted) ↔ ((has_records (node.entries key) ≡ true) × (D.data_type.deleted (node.entries key).history ≡ true))
  get_told fate some =
      let same = ap (λ o. (got D (one_step_later node) (option_map (state_of (one_step_later node)) o) Level.Local).output.reply) has.1
      ∙ ap (λ n. (got_needing D (one_step_later node) state n).output.reply) (one_is_enough (member_count node) some) in
      let told = got_exactly D (one_step_later node) state in
      (λ e. told.0 (sym same ∙ e), λ e. same ∙ told.1 e)
