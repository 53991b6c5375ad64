-- What messages stand for that have the same parts.
use Rattle.std.specs.Prelude.{◌≡◌}
use Rattle.model_history.specs.Texts.{Text}
use Rattle.model_history.specs.History.{History}
use Rattle.model_members.specs.Message.{Message as Told}
use Rattle.data_lattice.specs.declared.replica.Replica.{Ghosts}
use Rattle.member_messages.specs.declared.message.Message.{Message}
use Rattle.member_messages.specs.Standing.{StandsForMessage}
use Rattle.member_codec.specs.Messages.{message_parts}

module _ {T Kind Op Delta : Type 0} (ghosts : Ghosts T Kind Op Delta) where
  -- a message with the parts of one that was sent stands for whatever that one stands for
  abbrev pub StandByParts : (Text → Kind) → (Text → History Op) → Type 0
  StandByParts kinds logs =
      (sent read : Message T Kind Op Delta ghosts) (told : Told Op) → message_parts sent ≡ message_parts read
      → StandsForMessage ghosts.kind_of ghosts.IsDataOf kinds logs sent told → StandsForMessage ghosts.kind_of ghosts.IsDataOf kinds logs read told
