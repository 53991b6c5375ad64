-- What members post and take, and what they show of an operation.
use Rattle.std.specs.Prelude.{ℕ, ◌==◌, if◌then◌else◌, List, [], ◌∷◌}
use Rattle.model_history.specs.Texts.{Text}
use Rattle.model_history.specs.History.{History}
use Rattle.model_members.specs.Node.{Node as Meant}
use Rattle.model_kinds.specs.declared.shown.Shown.{Shown}
use Rattle.data_lattice.specs.declared.replica.Replica.{Ghosts}
use Rattle.member_keeper.specs.declared.keeper.Keeper.{Ghosts as Keeping}
use Rattle.member_messages.specs.declared.message.Message.{Message}
use Rattle.member_messages.specs.declared.message.Post.{Post}
use Rattle.member_node.specs.declared.input.Input.{Input}
use Rattle.member_node.specs.declared.input.Input.TheVariants as input
use Rattle.member_node.specs.declared.node.Node.{Node}
use Rattle.member_node.specs.declared.operation.Look.{Look}
use Rattle.member_node.specs.Members.{StandsForNode}
use Rattle.member_node.specs.Counting.{LooksAt}

module _ {T Kind Op Delta : Type 0} {ghosts : Ghosts T Kind Op Delta} where
  -- the messages to an identity, in order
  abbrev pub messages_to : ℕ → List (Post T Kind Op Delta ghosts) → List (Message T Kind Op Delta ghosts)
  messages_to id [] = []
  messages_to id (post ∷ posts) = if post.to == id then post.message ∷ messages_to id posts else messages_to id posts

  -- the message of an identity that an input takes
  abbrev pub messages_of : ℕ → Input T Kind Op Delta ghosts → List (Message T Kind Op Delta ghosts)
  messages_of id (input.Take from message) = if id == from then message ∷ [] else []
  messages_of id _ = []

-- how an operation stands, at each member of the model for which this one stands
pub record Looks {T K Kind Op Delta : Type 0} {ghosts : Ghosts T Kind Op Delta} {keeping : Keeping K} (node : Node T K Kind Op Delta ghosts keeping) (op : ℕ) (look : Look) : Type 0 where
  pub at : (kinds : Text → Kind) (logs : Text → History Op) (meant : Meant Kind Op Shown) → StandsForNode ghosts.kind_of ghosts.IsDataOf kinds logs node meant → LooksAt meant op look
