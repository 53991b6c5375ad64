-- What the call of a command answers.
use Rattle.std.specs.Prelude.{◌≡◌, ℕ, List, Option, Some, None, Result, Err, IfOk, OnErr}
use Rattle.model_kinds.specs.declared.operation.Op.{Op}
use Rattle.data_lattice.specs.declared.replica.Replica.{Ghosts as Data}
use Rattle.member_keeper.specs.declared.keeper.Keeper.{Ghosts as Keeping}
use Rattle.member_views.specs.Views.{View}
use Rattle.member_node.specs.declared.input.Input.{Input}
use Rattle.world_members.specs.Asking.{input_of}
use Rattle.thread_cluster.specs.Knowing.{Sees, IsNowhere, IsReceipt}
use Rattle.thread_cluster.specs.Refusals.{IsFullAt}
use Rattle.thread_cluster.specs.declared.error.CallError.{CallError}
use Rattle.thread_cluster.specs.declared.error.CallError.TheVariants as call
use Rattle.script_reading.specs.declared.clients.Command.{Command}
use Rattle.thread_clients.specs.Sessions.{Session, Receipted, Meaning}

module _ {T K Kind Delta : Type 0} {data_of : Data T Kind Op Delta} {keeping : Keeping K} (meaning : Meaning data_of keeping) (ids : ℕ → Option ℕ) (views : List View) (command : Command)
    (old new : Session data_of keeping) where
  -- an entry of what the command gives stands where the receipt says
  pub record IsMade (receipt : Receipted data_of keeping) : Type 0 where
    pub given : Input T Kind Op Delta data_of
    pub is_given : input_of views command.ask ≡ Some given
    pub called : IsReceipt meaning ids command.at given old new receipt

  -- its member has no more room for it
  pub record HasNoRoom : Type 0 where
    pub given : Input T Kind Op Delta data_of
    pub is_given : input_of views command.ask ≡ Some given
    pub full : IsFullAt meaning ids command.at new

  -- there is no such view
  pub record IsViewless : Type 0 where
    pub runs : ¬ IsNowhere ids command.at
    pub lacks : input_of {ghosts = data_of} views command.ask ≡ None

  pub record IsCalled (result : Result (Receipted data_of keeping) CallError) : Type 0 where
    pub ok : IfOk result IsMade
    pub err : OnErr result (Sees old new)
    pub gone : result ≡ Err call.Gone → IsNowhere ids command.at
    pub no_view : result ≡ Err call.NoSuchView → IsViewless
    pub full : result ≡ Err call.HistoryFull → HasNoRoom
