-- How operations end.
use Rattle.std.proofs.Common.{◌≡◌, ◌≢◌, ℕ, Option, Some, None, refl, subst}
use Rattle.std.specs.Prelude.{Result, Err, ◌⊎◌}
use Rattle.model_kinds.specs.declared.operation.Op.{Op}
use Rattle.data_lattice.specs.declared.replica.Replica.{Ghosts as Data}
use Rattle.member_keeper.specs.declared.keeper.Keeper.{Ghosts as Keeping}
use Rattle.thread_cell.specs.Stamps.{IsTimed}
use Rattle.member_node.specs.declared.input.Input.TheVariants as input
use Rattle.member_node.specs.declared.operation.Look.{Look}
use Rattle.member_node.specs.declared.operation.OperationResult.{OperationResult}
use Rattle.member_node.specs.declared.reply.Reply.{Reply}
use Rattle.member_node.specs.declared.reply.Reply.TheVariants as reply
use Rattle.world_members.specs.declared.client_line.Ended.{Ended}
use Rattle.world_members.specs.declared.client_line.Ended.TheVariants as ended
use Rattle.thread_cluster.specs.Knowing.{GoesOn, Sees, IsNowhere, IsReceipt, IsShownBy}
use Rattle.thread_cluster.specs.Messages.{Looks}
use Rattle.thread_cluster.specs.Refusals.{IsFullAt, IsCall}
use Rattle.thread_cluster.specs.declared.error.CallError.{CallError}
use Rattle.thread_cluster.specs.declared.error.CallError.TheVariants as call
use Rattle.thread_clients.specs.Sessions.{Session, Receipted, Meaning}
use Rattle.thread_clients.specs.Turns.{HasHeardAnswers, WasFull, HasFound, HasWaited}
use Rattle.thread_clients.specs.Endings.{closed_by, left_by, IsGivenUp, Ends}
use Rattle.thread_clients.specs.Endings.IsGivenUp.{timed_out, closed, left}
use Rattle.thread_clients.specs.Endings.Ends.{finished, given_up}

module _ {T K Kind Delta : Type 0} {data_of : Data T Kind Op Delta} {keeping : Keeping K} (meaning : Meaning data_of keeping) (ids : ℕ → Option ℕ) (id op : ℕ) where
  -- after a receipt, the session goes on
  pub receipt_on : (old new : Session data_of keeping) (receipt : Receipted data_of keeping) → IsReceipt meaning ids id (input.Timeout op) old new receipt → GoesOn old new
  receipt_on old new receipt made = made.answered.goes_on

  pub closed_now : (old after new : Session data_of keeping) (receipt : Receipted data_of keeping) (told : Reply) (seen : Look) (end : Ended) → IsReceipt meaning ids id (input.Timeout op) old after receipt
      → receipt.output.reply ≡ told → told ≢ reply.TimedOut → IsShownBy meaning ids id Looks op after new seen → end ≡ closed_by op seen → IsGivenUp meaning ids id op old new end
  closed_now old after new receipt told seen end made is other shown told_end =
      closed (record { after = after; receipt = receipt; made = made; replied = λ e. other (subst (λ (r : Reply). r ≡ reply.TimedOut) is e); seen = seen; shown = shown; is = told_end })

  pub timed_out_now : (old new : Session data_of keeping) (receipt : Receipted data_of keeping) → IsReceipt meaning ids id (input.Timeout op) old new receipt → receipt.output.reply ≡ reply.TimedOut → IsGivenUp meaning ids id op old new (ended.TimedOut op)
  timed_out_now old new receipt made is = timed_out (record { receipt = receipt; made = made; replied = is; is = refl })

  pub left_now : (old after new : Session data_of keeping) (seen : Look) (end : Ended) → Sees old after → IsFullAt meaning ids id after → IsShownBy meaning ids id Looks op after new seen → end ≡ left_by op seen → IsGivenUp meaning ids id op old new end
  left_now old after new seen end sees full shown told_end = left (record { after = after; sees = sees; full = full; seen = seen; shown = shown; is = told_end })

  -- the timeout of a running member is not answered otherwise
  pub no_other : (old new : Session data_of keeping) (result : Result (Receipted data_of keeping) CallError) (error : CallError) → IsCall meaning ids id (input.Timeout op) old new result → result ≢ Err call.NoSuchView → (IsNowhere ids id → ⊥)
      → result ≡ Err error → error ≢ call.HistoryFull → error ≢ call.Memory → ⊥
  no_other old new result call.Gone c viewed runs is full memory = runs (c.gone.0 is)
  no_other old new result call.NoSuchView c viewed runs is full memory = viewed is
  no_other old new result call.HistoryFull c viewed runs is full memory = full refl
  no_other old new result call.Memory c viewed runs is full memory = memory refl

  pub found_end : (old new : Session data_of keeping) (result : OperationResult) → HasFound meaning ids id op old new result → Ends meaning ids id op old new (ended.Finished (record { op = op; result = result }))
  found_end old new result found = finished result found refl

  pub gave_up : (old before new : Session data_of keeping) (end : Ended) → HasHeardAnswers meaning ids id op old before ⊎ WasFull meaning ids old before → IsTimed before.seen.known before.seen.stamp → IsGivenUp meaning ids id op before new end → Ends meaning ids id op old new end
  gave_up old before new end waited timed up = given_up before (record { timed = timed; waited = waited }) up

  pub waited_some : (old new : Session data_of keeping) (told : Option OperationResult) (result : OperationResult) → told ≡ Some result → HasWaited meaning ids id op old new told → HasFound meaning ids id op old new result
  waited_some old new told result is waited = subst (HasWaited meaning ids id op old new) is waited

  pub waited_none : (old new : Session data_of keeping) (told : Option OperationResult) → told ≡ None → HasWaited meaning ids id op old new told → HasHeardAnswers meaning ids id op old new ⊎ WasFull meaning ids old new
  waited_none old new told is waited = (subst (HasWaited meaning ids id op old new) is waited).waited
