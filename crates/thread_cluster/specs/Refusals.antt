-- Why calls of members behind locks were refused.
--     stopped        the error that is answered where a member made no step
--     HasMadeAll, IsFullThere        the member of a place makes no more steps
--     IsFullAt        the same by identity
--     IsCall, IsInstalled, IsInstall        what a call answers, and what it leaves
--     IsFullSomewhere        a member that took less than was posted to it takes no more
use Rattle.std.specs.Prelude.{◌≡◌, ℕ, List, Result, Err, IfOk, OnErr, Option, Some, None, slice_get, ◌⊎◌, ◌↔◌}
use Rattle.data_lattice.specs.declared.replica.Replica.{Ghosts as Data}
use Rattle.member_keeper.specs.declared.keeper.Keeper.{Ghosts as Keeping}
use Rattle.thread_machine.specs.declared.machine.Machine.{Ghosts}
use Rattle.thread_machine.specs.Replays.{Replays}
use Rattle.thread_cell.specs.declared.cell.CellError.{CellError}
use Rattle.thread_cell.specs.declared.cell.CellError.TheVariants.{CellFull, Refused, Memory}
use Rattle.thread_cell.specs.declared.receipt.Receipt.{Receipt}
use Rattle.thread_cell.specs.Lists.{at}
use Rattle.thread_cell.specs.Values.{ClientParts}
use Rattle.member_views.specs.Views.{View}
use Rattle.member_node.specs.declared.input.Input.{Input}
use Rattle.member_node.specs.declared.input.Input.TheVariants as input
use Rattle.member_node.specs.declared.node.Node.{Node}
use Rattle.member_node.specs.declared.reply.Output.{Output}
use Rattle.member_node.specs.declared.reply.StepError.{StepError}
use Rattle.member_node.specs.declared.reply.StepError.TheVariants as step
use Rattle.thread_cluster.specs.Passing.{HasUnheard}
use Rattle.thread_cluster.specs.Knowing.{IsFull, Sees, StartsAt, IsNowhere, IsReceipt}
use Rattle.thread_cluster.specs.Messages.{messages_to, messages_of}
use Rattle.thread_cluster.specs.declared.error.CallError.{CallError}
use Rattle.thread_cluster.specs.declared.error.CallError.TheVariants as call

-- a full history and a member that made all its steps are told alike
abbrev pub stopped : CellError StepError → CallError
stopped CellFull = call.HistoryFull
stopped (Refused step.HistoryFull) = call.HistoryFull
stopped (Refused step.Memory) = call.Memory
stopped Memory = call.Memory

module _ {T K Kind Op Delta I F O : Type 0} {data_of : Data T Kind Op Delta} {keeping : Keeping K} (meaning : Ghosts (Node T K Kind Op Delta data_of keeping) I F O StepError) where
  -- the member of the place, after the history that the session knows, has made all its steps
  pub record HasMadeAll (p : ℕ) (session : ClientParts (Node T K Kind Op Delta data_of keeping) I F O StepError) : Type 0 where
    pub start : Node T K Kind Op Delta data_of keeping
    pub starts : StartsAt p session.seen.began start
    pub now : Node T K Kind Op Delta data_of keeping
    pub replays : Replays meaning start (at session.seen.known p) now
    pub steps : now.steps ≡ now.limit

  -- the history there is full, as far as the session knows, or the member makes no more steps
  abbrev pub IsFullThere : ℕ → ClientParts (Node T K Kind Op Delta data_of keeping) I F O StepError → Type 0
  IsFullThere p session = IsFull p session.seen.known ⊎ HasMadeAll p session

  pub record IsFullAt (ids : ℕ → Option ℕ) (id : ℕ) (session : ClientParts (Node T K Kind Op Delta data_of keeping) I F O StepError) : Type 0 where
    pub place : ℕ
    pub here : ids place ≡ Some id
    pub full : IsFullThere place session

  -- A CALL: with an answer, an entry of this input stands where the receipt says; else nothing was added, there is no such member exactly where that is answered, and who is told so knows that a history is full
  pub record IsCall (ids : ℕ → Option ℕ) (id : ℕ) (input : I) (old new : ClientParts (Node T K Kind Op Delta data_of keeping) I F O StepError) (result : Result (Receipt (Node T K Kind Op Delta data_of keeping) I F O StepError) CallError) : Type 0 where
    pub ok : IfOk result (IsReceipt meaning ids id input old new)
    pub err : OnErr result (Sees old new)
    pub gone : result ≡ Err call.Gone ↔ IsNowhere ids id
    pub full : result ≡ Err call.HistoryFull → IsFullAt ids id new

module _ {T K Kind Op Delta F O : Type 0} {data_of : Data T Kind Op Delta} {keeping : Keeping K} (meaning : Ghosts (Node T K Kind Op Delta data_of keeping) (Input T Kind Op Delta data_of) F O StepError) where
  -- an entry of the view of this number stands where the receipt says
  pub record IsInstalled (ids : ℕ → Option ℕ) (views : List View) (id number : ℕ) (old new : ClientParts (Node T K Kind Op Delta data_of keeping) (Input T Kind Op Delta data_of) F O StepError) (receipt : Receipt (Node T K Kind Op Delta data_of keeping) (Input T Kind Op Delta data_of) F O StepError) : Type 0 where
    pub view : View
    pub listed : slice_get views number ≡ Some view
    pub receipt_is : IsReceipt meaning ids id (input.Install view) old new receipt

  -- A CALL THAT INSTALLS: as any call; and that there is no such view is answered exactly where a running member has the identity and the list lacks the number
  pub record IsInstall (ids : ℕ → Option ℕ) (views : List View) (id number : ℕ) (old new : ClientParts (Node T K Kind Op Delta data_of keeping) (Input T Kind Op Delta data_of) F O StepError) (result : Result (Receipt (Node T K Kind Op Delta data_of keeping) (Input T Kind Op Delta data_of) F O StepError) CallError) : Type 0 where
    pub ok : IfOk result (IsInstalled ids views id number old new)
    pub err : OnErr result (Sees old new)
    pub gone : result ≡ Err call.Gone ↔ IsNowhere ids id
    pub no_view : result ≡ Err call.NoSuchView ↔ (¬ IsNowhere ids id × (slice_get views number ≡ None))
    pub full : result ≡ Err call.HistoryFull → IsFullAt meaning ids id new

module _ {T K Kind Op Delta F : Type 0} {data_of : Data T Kind Op Delta} {keeping : Keeping K} (meaning : Ghosts (Node T K Kind Op Delta data_of keeping) (Input T Kind Op Delta data_of) F (Output T Kind Op Delta data_of) StepError) (ids : ℕ → Option ℕ) where
  -- A TURN: the member of a place takes no more, and took less than some other one posted to it, as far as the session knows
  pub record IsFullSomewhere (session : ClientParts (Node T K Kind Op Delta data_of keeping) (Input T Kind Op Delta data_of) F (Output T Kind Op Delta data_of) StepError) : Type 0 where
    pub place : ℕ
    pub full : IsFullThere meaning place session
    pub sender : ℕ
    pub unheard : HasUnheard (λ id output. messages_to id output.posts) messages_of ids sender place session.seen.known
