-- What a member tells of a store that failed, of an input that it refuses, and of a deleted key.
use Rattle.std.specs.Prelude.{◌≡◌, ◌≢◌, ◌↔◌, ℕ, ◌<◌, [], true}
use Rattle.model_history.specs.Texts.{Text}
use Rattle.model_members.specs.View.{is_member}
use Rattle.model_members.specs.Entry.{has_records}
use Rattle.model_members.specs.DataType.{Replication}
use Rattle.model_members.specs.Message.{Message}
use Rattle.model_members.specs.Node.{Node, Input, Fate, Level, HasKey, one_step_later}
use Rattle.model_members.specs.Node.Fate.{StoreFailed}
use Rattle.model_members.specs.Node.Reply.{Done, Pending, Deleted, NotStored, TickedNotStored}
use Rattle.model_members.specs.Step.{step, member_count, outcomes_of}
use Rattle.model_members.specs.Refusals.{IsRefusal}
use Rattle.model_members.specs.Relations.{MayChange}

module _ {Kind Op Shown : Type 0} (D : Replication Kind Op Shown) (node : Node Kind Op Shown) where
  -- an update whose store failed is neither done nor pending
  abbrev pub TellsFailedUpdates : Type 0
  TellsFailedUpdates =
      (key : Text) (op : Op) (level : Level) → ((step D node (Input.Update key op level) StoreFailed).output.reply ≢ Done) × ((number : ℕ) → (step D node (Input.Update key op level) StoreFailed).output.reply ≢ Pending number)

  -- what a member of the view sent, and may change an entry, is told as not stored where the store failed
  abbrev pub TellsFailedTakes : Type 0
  TellsFailedTakes = (from : ℕ) (message : Message Op) → is_member node.view from ≡ true → MayChange message → (step D node (Input.Take from message) StoreFailed).output.reply ≡ NotStored

  -- so is what the leader's tick did
  abbrev pub TellsFailedTick : Type 0
  TellsFailedTick = (step D node Input.PruneTick StoreFailed).output.reply ≡ TickedNotStored (outcomes_of D (one_step_later node))

  -- where an input is refused, nothing of the member is another but its count of steps
  abbrev pub RefusalsChangeNothing : Type 0
  RefusalsChangeNothing = (input : Input Op) (fate : Fate) → IsRefusal (step D node input fate).output.reply → (step D node input fate).node ≡ one_step_later node

  -- no entry either
  abbrev pub RefusalsChangeNoEntry : Type 0
  RefusalsChangeNoEntry = (input : Input Op) (fate : Fate) → IsRefusal (step D node input fate).output.reply → (key : Text) → (step D node input fate).node.entries key ≡ node.entries key

  -- and nothing is sent
  abbrev pub RefusalsSendNothing : Type 0
  RefusalsSendNothing = (input : Input Op) (fate : Fate) → IsRefusal (step D node input fate).output.reply → (step D node input fate).output.posts ≡ []

  -- an update of a declared key is told that this is deleted exactly where its history has a delete
  abbrev pub UpdatesTellDeleted : Type 0
  UpdatesTellDeleted =
      (key : Text) (kind : Kind) (op : Op) (level : Level) (fate : Fate) → HasKey node key kind → ((step D node (Input.Update key op level) fate).output.reply ≡ Deleted) ↔ (D.data_type.deleted (node.entries key).history ≡ true)

  -- and so is a get that needs nobody else, where the key has a record
  abbrev pub GetsTellDeleted : Type 0
  GetsTellDeleted =
      (key : Text) (kind : Kind) (fate : Fate) → HasKey node key kind → 0 < member_count node
      → ((step D node (Input.Get key Level.Local) fate).output.reply ≡ Deleted) ↔ ((has_records (node.entries key) ≡ true) × (D.data_type.deleted (node.entries key).history ≡ true))
