-- How a client's operation ended, from its entry on.
--     closed_by, left_by        by a look after its timeout
--     HasTimedOut, WasClosed, WasLeft, IsGivenUp        what came of its timeout: it closed it, found it closed, or could not be called
--     Ends        by a look, or by its timeout
use Rattle.std.specs.Prelude.{◌≡◌, ◌≢◌, ℕ, Option}
use Rattle.model_kinds.specs.declared.operation.Op.{Op}
use Rattle.data_lattice.specs.declared.replica.Replica.{Ghosts as Data}
use Rattle.member_keeper.specs.declared.keeper.Keeper.{Ghosts as Keeping}
use Rattle.member_node.specs.declared.input.Input.TheVariants as input
use Rattle.member_node.specs.declared.operation.Look.{Look}
use Rattle.member_node.specs.declared.operation.Look.TheVariants as look
use Rattle.member_node.specs.declared.operation.OperationResult.{OperationResult}
use Rattle.member_node.specs.declared.reply.Reply.TheVariants as reply
use Rattle.world_members.specs.declared.client_line.Ended.{Ended}
use Rattle.world_members.specs.declared.client_line.Ended.TheVariants as ended
use Rattle.thread_cluster.specs.Knowing.{Sees, IsReceipt, IsShownBy}
use Rattle.thread_cluster.specs.Messages.{Looks}
use Rattle.thread_cluster.specs.Refusals.{IsFullAt}
use Rattle.thread_clients.specs.Sessions.{Session, Receipted, Meaning}
use Rattle.thread_clients.specs.Turns.{HasFound, MayGiveUp}

-- where its timeout found it closed
abbrev pub closed_by : ℕ → Look → Ended
closed_by op (look.Finished result) = ended.Finished (record { op = op; result = result })
closed_by op _ = ended.TimedOut op

-- where it has no timeout
abbrev pub left_by : ℕ → Look → Ended
left_by op (look.Finished result) = ended.Finished (record { op = op; result = result })
left_by op look.Open = ended.LeftOpen op
left_by op look.NoSuchOp = ended.TimedOut op

module _ {T K Kind Delta : Type 0} {data_of : Data T Kind Op Delta} {keeping : Keeping K} (meaning : Meaning data_of keeping) (ids : ℕ → Option ℕ) (id op : ℕ) where
  module _ (old new : Session data_of keeping) (end : Ended) where
    -- its timeout closed it
    pub record HasTimedOut : Type 0 where
      pub receipt : Receipted data_of keeping
      pub made : IsReceipt meaning ids id (input.Timeout op) old new receipt
      pub replied : receipt.output.reply ≡ reply.TimedOut
      pub is : end ≡ ended.TimedOut op

    -- its timeout found it closed, and a look told how
    pub record WasClosed : Type 0 where
      pub after : Session data_of keeping
      pub receipt : Receipted data_of keeping
      pub made : IsReceipt meaning ids id (input.Timeout op) old after receipt
      pub replied : receipt.output.reply ≢ reply.TimedOut
      pub seen : Look
      pub shown : IsShownBy meaning ids id Looks op after new seen
      pub is : end ≡ closed_by op seen

    -- its timeout was answered that the history is full, and a look told how it stands
    pub record WasLeft : Type 0 where
      pub after : Session data_of keeping
      pub sees : Sees old after
      pub full : IsFullAt meaning ids id after
      pub seen : Look
      pub shown : IsShownBy meaning ids id Looks op after new seen
      pub is : end ≡ left_by op seen

    -- what came of its timeout
    pub data IsGivenUp : Type 0 where
      timed_out : HasTimedOut → IsGivenUp
      closed : WasClosed → IsGivenUp
      left : WasLeft → IsGivenUp

  -- HOW AN OPERATION ENDED, from its entry on: a look found it finished, or its timeout was called
  pub data Ends (old new : Session data_of keeping) (end : Ended) : Type 0 where
    finished : (result : OperationResult) → HasFound meaning ids id op old new result → end ≡ ended.Finished (record { op = op; result = result }) → Ends old new end
    given_up : (before : Session data_of keeping) → MayGiveUp meaning ids id op old before → IsGivenUp before new end → Ends old new end
