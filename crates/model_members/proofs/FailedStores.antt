-- A store that fails is told.
use Rattle.std.proofs.Common.{◌≡◌, ◌≢◌, ℕ, ◌<◌, refl, ap, ◌∙◌, arith, Bool, true, false, Option, Some, None}
use Rattle.std.proofs.lemmas.Bool.Decides.{nat_tests}
use Rattle.std.specs.Prelude.{if◌then◌else◌, nat_le, length, ◌==◌}
use Rattle.model_history.specs.Texts.{Text}
use Rattle.model_meanings.specs.Refusal.{Refusal}
use Rattle.model_members.specs.View.{View, is_member, leader}
use Rattle.model_members.specs.DataType.{Replication}
use Rattle.model_members.specs.Message.{Message}
use Rattle.model_members.specs.Message.Message.{Deltas, Nack, Status, Gossip, Write, WriteAck, WriteNack, Read, ReadAnswer}
use Rattle.model_members.specs.Node.{Node, KeyState, OpenOperation, Input, Level, Stepped, key_state, needed, one_step_later}
use Rattle.model_members.specs.Node.Fate.{StoreFailed}
use Rattle.model_members.specs.Node.Reply.{Done, Pending, NotStored, Deleted, WrongKind, TickedNotStored, NotFromMember}
use Rattle.model_history.specs.Vector.{members_of}
use Rattle.model_members.specs.Step.{step, step_of_take, answered, member_count, outcomes_of, with_answer}
use Rattle.model_members.specs.Relations.{MayChange}
use Rattle.model_members.proofs.Cases.{updated, updated_needing, updated_unless, counted_for}

pub if_holds : {A : Type 0} (P : A → Type 0) (b : Bool) (x y : A) → P x → P y → P (if b then x else y)
if_holds P true x y p q = p
if_holds P false x y p q = q

module _ {Kind Op Shown : Type 0} (D : Replication Kind Op Shown) where
  -- neither done nor pending
  abbrev IsTold : Stepped Kind Op Shown → Type 0
  IsTold stepped = (stepped.output.reply ≢ Done) × ((number : ℕ) → stepped.output.reply ≢ Pending number)

  unless_told : (node : Node Kind Op Shown) (k : KeyState Kind Op) (op : Op) (n : ℕ) (o : Option Refusal) → IsTold (updated_unless D node k op n StoreFailed o)
  unless_told node k op n None = (λ e. cc e, λ number e. cc e)
  unless_told node k op n (Some refusal) = (λ e. cc e, λ number e. cc e)

  needing_told : (node : Node Kind Op Shown) (k : KeyState Kind Op) (op : Op) (o : Option ℕ) → IsTold (updated_needing D node k op o StoreFailed)
  needing_told node k op None = (λ e. cc e, λ number e. cc e)
  needing_told node k op (Some n) = unless_told node k op n (D.data_type.refusal k.kind node.identity op k.entry.history)

  at_kind : (node : Node Kind Op Shown) (k : KeyState Kind Op) (op : Op) (level : Level) (b c : Bool)
      → IsTold (if b then answered node Deleted else (if c then updated_needing D node k op (needed level (member_count node)) StoreFailed else answered node WrongKind))
  at_kind node k op level true c = (λ e. cc e, λ number e. cc e)
  at_kind node k op level false true = needing_told node k op (needed level (member_count node))
  at_kind node k op level false false = (λ e. cc e, λ number e. cc e)

  at_key : (node : Node Kind Op Shown) (op : Op) (level : Level) (o : Option (KeyState Kind Op)) → IsTold (updated D node o op level StoreFailed)
  at_key node op level None = (λ e. cc e, λ number e. cc e)
  at_key node op level (Some k) = at_kind node k op level (D.data_type.deleted k.entry.history) (D.data_type.fits k.kind op)

  pub update_told : (node : Node Kind Op Shown) (key : Text) (op : Op) (level : Level) → IsTold (step D node (Input.Update key op level) StoreFailed)
  update_told node key op level = at_key (one_step_later node) op level (key_state (one_step_later node) key)

  -- counting an answer leaves the reply
  replied : (stepped : Stepped Kind Op Shown) (from : ℕ) (o : Option OpenOperation) → stepped.output.reply ≡ NotStored → (counted_for D stepped from o).output.reply ≡ NotStored
  replied stepped from None e = e
  replied stepped from (Some operation) e = if_holds (λ (s : Stepped Kind Op Shown). s.output.reply ≡ NotStored) (nat_le operation.needed (length (members_of (with_answer from operation).counted))) _ _ e e

  message_told : (node : Node Kind Op Shown) (from : ℕ) (message : Message Op) → MayChange message → (step_of_take D node from StoreFailed message).output.reply ≡ NotStored
  message_told node from (Deltas groups entries) may = refl
  message_told node from (Nack keys) may = absurd may
  message_told node from (Status digests) may = absurd may
  message_told node from (Gossip entries wants) may = refl
  message_told node from (Write op key entry) may = refl
  message_told node from (WriteAck op) may = absurd may
  message_told node from (WriteNack op) may = absurd may
  message_told node from (Read op key) may = absurd may
  message_told node from (ReadAnswer op key entry) may = replied _ from _ refl

  pub take_told : (node : Node Kind Op Shown) (from : ℕ) (message : Message Op) → is_member node.view from ≡ true → MayChange message → (step D node (Input.Take from message) StoreFailed).output.reply ≡ NotStored
  take_told node from message member may =
      ap (λ b. (if b then step_of_take D (one_step_later node) from StoreFailed message else answered (one_step_later node) NotFromMember).output.reply) member
      ∙ message_told (one_step_later node) from message may

  pub install_told : (node : Node Kind Op Shown) (view : View) → node.view.number < view.number → (step D node (Input.Install view) StoreFailed).output.reply ≡ NotStored
  install_told node view later =
      let newer : nat_le view.number node.view.number ≡ false = grind (arith, nat_tests) in
      rw newer refl

  pub tick_told : (node : Node Kind Op Shown) → leader node.view ≡ node.identity → (step D node Input.PruneTick StoreFailed).output.reply ≡ TickedNotStored (outcomes_of D (one_step_later node))
  tick_told node leads =
      let same : (leader node.view == node.identity) ≡ true = grind (arith, nat_tests) in
      rw same refl
