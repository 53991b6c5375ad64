-- What opening an operation prepares.
use Rattle.std.specs.Prelude.{◌≡◌, ℕ, Bool, None, length, map}
use Rattle.model_history.specs.Texts.{Text}
use Rattle.model_history.specs.Vector.{alone}
use Rattle.model_members.specs.View.{others}
use Rattle.data_lattice.specs.declared.replica.Replica.{Ghosts}
use Rattle.member_keeper.specs.declared.keeper.Keeper.{Ghosts as Keeping}
use Rattle.member_messages.specs.declared.message.Message.{Message}
use Rattle.member_node.specs.declared.node.Node.{Node}
use Rattle.member_node.specs.declared.operations.NextOperation.{NextOperation}
use Rattle.member_node.specs.declared.operations.OperationChange.TheVariants.{Opened}
use Rattle.member_node.specs.declared.plan.Prepared.{Prepared}
use Rattle.member_node.specs.declared.reply.Reply.TheVariants.{Pending}
use Rattle.member_node.specs.Operations.{known, HasRoom, asked_meant}

-- one more operation, which has counted the member itself, and the same message to each other
pub record IsOpened {T K Kind Op Delta : Type 0} {ghosts : Ghosts T Kind Op Delta} {keeping : Keeping K} (code : Node T K Kind Op Delta ghosts keeping) (key : Text) (reads : Bool) (number : ℕ) (message : Message T Kind Op Delta ghosts) (prepared : Prepared T Kind Op Delta ghosts) : Type 0 where
  pub viewed : prepared.view ≡ None
  pub next : NextOperation
  pub opens : prepared.operations ≡ Opened next
  pub room : HasRoom code.operations next
  pub asked : (op : ℕ) → asked_meant op next.asked ≡ record { op = op; key = key; reads = reads; needed = number; counted = alone code.id }
  pub reply : prepared.output.reply ≡ Pending (length (known code.operations))
  pub posts : prepared.output.posts ≡ map (λ i. record { to = i; message = message }) (others code.view code.id)
  pub none_ends : prepared.output.finished ≡ None
