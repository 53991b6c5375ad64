-- What a script gives to a member, by the member, by the message and by the view.
use Rattle.std.proofs.Common.{◌≡◌, ℕ, [], ◌∷◌, Option, Some, None}
use Rattle.std.specs.Prelude.{if◌then◌else◌, option_map, option_and_then}
use Rattle.model_members.specs.View.{View}
use Rattle.model_members.specs.DataType.{Replication}
use Rattle.model_members.specs.Message.{Message}
use Rattle.model_members.specs.Node.{Node, Input, Fate, Stepped}
use Rattle.model_members.specs.Node.Fate.{NoStore}
use Rattle.model_members.specs.Node.Input.{Take, Install}
use Rattle.model_members.specs.Step.{is_full}
use Rattle.model_members.specs.World.{Event, Turn, message_at, turn_at}
use Rattle.model_members.specs.World.Event.{InputAt, Delivery}
use Rattle.model_members.specs.Script.{Playing, Told, Head, told, did, given, take_turn}
use Rattle.model_members.specs.Script.Head.{DeliverHead}
use Rattle.model_members.specs.Script.Answer.{Replied, Gone, HistoryFull, NoSuchMessage, NoSuchView}
use Rattle.theorem_operations.proofs.PlayedInputs.{turn_by}

module _ {Kind Op Shown : Type 0} (D : Replication Kind Op Shown) where
  abbrev pub given_turn : Playing Kind Op Shown → Head Op → (Fate → Event Op) → Option (Turn Kind Op Shown) → Playing Kind Op Shown
  given_turn p head event turn = elim turn [ None ↦ told p head Gone | Some turn ↦ if is_full D turn.before then told p head HistoryFull else take_turn D p head event turn ]

  -- to this member, if it runs
  abbrev pub given_to : Playing Kind Op Shown → Head Op → (Fate → Event Op) → ℕ → Input Op → Option (Node Kind Op Shown) → Playing Kind Op Shown
  given_to p head event i input o = given_turn p head event (option_map (λ (node : Node Kind Op Shown). turn_by i node input NoStore) o)

  abbrev pub given_room : Playing Kind Op Shown → Head Op → (Fate → Event Op) → ℕ → Input Op → Node Kind Op Shown → Playing Kind Op Shown
  given_room p head event i input node = take_turn D p head event (turn_by i node input NoStore)

  -- and what its step then tells
  abbrev pub line_for : Head Op → Stepped Kind Op Shown → Told Op Shown
  line_for head s = record { head = head; answer = Replied s.output.reply; posts = s.output.posts; ended = s.output.ended }

  abbrev pub given_fate : Playing Kind Op Shown → Head Op → (Fate → Event Op) → Stepped Kind Op Shown → Fate → Playing Kind Op Shown
  given_fate p head event s fate = did D p (event fate) (line_for head s ∷ [])

  abbrev pub deliver_message : Playing Kind Op Shown → (from to index : ℕ) → Option (Message Op) → Playing Kind Op Shown
  deliver_message p from to index o = elim o [ None ↦ told p (DeliverHead from to index None) NoSuchMessage | Some message ↦ given D p (DeliverHead from to index (Some message)) (Delivery from to index) ]

  -- a message that is there
  pub message_given : (p : Playing Kind Op Shown) (from to index : ℕ) (message : Message Op) → message_at p.world from to index ≡ Some message
      → deliver_message p from to index (message_at p.world from to index) ≡ given_to p (DeliverHead from to index (Some message)) (Delivery from to index) to (Take from message) (p.world.nodes to)
  message_given p from to index message there i = elim (there i) [
    | None ↦ told p (DeliverHead from to index None) NoSuchMessage
    | Some m ↦ given_turn p (DeliverHead from to index (Some m)) (Delivery from to index) (option_and_then (λ (message : Message Op). turn_at p.world to (Take from message) NoStore) (there i))
  ]
