-- What members that have taken the same have in common, and what no step of a member loses.
use Rattle.std.specs.Prelude.{◌≡◌, ℕ, true}
use Rattle.model_history.specs.Texts.{Text}
use Rattle.model_history.specs.History.{History, IsPartOf}
use Rattle.model_members.specs.DataType.{Replication}
use Rattle.model_members.specs.Node.{KeyDecl, Node, Level, Input, Fate, state_of}
use Rattle.model_members.specs.Step.{step, shown_of}
use Rattle.model_members.specs.World.{World}
use Rattle.theorem_runs.specs.Pruning.{AreRunning, HaveTakenAsMany, HasTakenAll}

module _ {Kind Op Shown : Type 0} where
  -- running members that have taken as many records of each identity have one history of the key
  abbrev pub SameCountsSameHistory : World Kind Op Shown → Type 0
  SameCountsSameHistory world = (i j : ℕ) (a b : Node Kind Op Shown) (key : Text) → AreRunning world i j a b → HaveTakenAsMany key a b → (a.entries key).history ≡ (b.entries key).history

  -- so have running members each of which has taken all that the other has
  abbrev pub SameRecordsSameHistory : World Kind Op Shown → Type 0
  SameRecordsSameHistory world = (i j : ℕ) (a b : Node Kind Op Shown) (key : Text) → AreRunning world i j a b → HasTakenAll key a b → HasTakenAll key b a → (a.entries key).history ≡ (b.entries key).history

module _ {Kind Op Shown : Type 0} (D : Replication Kind Op Shown) where
  -- running members that have taken as many records of each identity answer a local get alike
  abbrev pub SameCountsSameReply : World Kind Op Shown → Type 0
  SameCountsSameReply world =
      (i j : ℕ) (a b : Node Kind Op Shown) (key : Text) (fate : Fate) → AreRunning world i j a b → HaveTakenAsMany key a b
      → (step D a (Input.Get key Level.Local) fate).output.reply ≡ (step D b (Input.Get key Level.Local) fate).output.reply

  -- and show the same
  abbrev pub SameCountsSameShown : World Kind Op Shown → Type 0
  SameCountsSameShown world = (i j : ℕ) (a b : Node Kind Op Shown) (key : KeyDecl Kind) → AreRunning world i j a b → HaveTakenAsMany key.name a b → shown_of D (state_of a key) ≡ shown_of D (state_of b key)

  -- whatever step a member makes, what it had taken of a key is part of what it then has
  abbrev pub StepsKeepRecords : Type 0
  StepsKeepRecords = (node : Node Kind Op Shown) (input : Input Op) (fate : Fate) (key : Text) → IsPartOf (node.entries key).history ((step D node input fate).node.entries key).history

  -- a history that holds one with a delete is deleted too
  abbrev pub DeletesStay : Type 0
  DeletesStay = (H J : History Op) → IsPartOf H J → D.data_type.deleted H ≡ true → D.data_type.deleted J ≡ true

  -- whatever step a member makes, a key that is deleted there stays so
  abbrev pub StepsKeepDeletes : Type 0
  StepsKeepDeletes =
      (node : Node Kind Op Shown) (input : Input Op) (fate : Fate) (key : Text) → D.data_type.deleted (node.entries key).history ≡ true
      → D.data_type.deleted ((step D node input fate).node.entries key).history ≡ true
