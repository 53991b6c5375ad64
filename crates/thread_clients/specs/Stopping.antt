-- What a client did that was stopped, as memory was refused.
--     HasClosed, IsCutOff, IsLeftOpen, IsLeftOff        after a command's entry: takes, and maybe the timeout of what it opened
--     IsBegun, HasBegunFirst        a part of a command, and of the first of some
--     WasStopped, StopsWithin, AreStopped        a client's first commands and a part of the next, and so each client
use Rattle.std.specs.Prelude.{◌≡◌, ℕ, List, [], ◌∷◌, ◌++◌, Option, Some, slice_get}
use Rattle.model_kinds.specs.declared.operation.Op.{Op}
use Rattle.data_lattice.specs.declared.replica.Replica.{Ghosts as Data}
use Rattle.member_keeper.specs.declared.keeper.Keeper.{Ghosts as Keeping}
use Rattle.member_views.specs.Views.{View}
use Rattle.member_node.specs.declared.input.Input.TheVariants as input
use Rattle.member_node.specs.declared.reply.Reply.{Reply}
use Rattle.member_node.specs.declared.reply.Reply.TheVariants as reply
use Rattle.world_members.specs.declared.client_line.ClientLine.{ClientLine}
use Rattle.thread_cluster.specs.Knowing.{Sees, IsReceipt}
use Rattle.script_reading.specs.declared.clients.Command.{Command}
use Rattle.script_reading.specs.declared.clients.Repeated.{Repeated}
use Rattle.thread_clients.specs.Commands.{commands_of}
use Rattle.thread_clients.specs.Sessions.{Session, Receipted, Meaning}
use Rattle.thread_clients.specs.Calls.{IsMade}
use Rattle.thread_clients.specs.Turns.{TakesOn, MayGiveUp}
use Rattle.thread_clients.specs.Paths.{IsPath}

module _ {T K Kind Delta : Type 0} {data_of : Data T Kind Op Delta} {keeping : Keeping K} (meaning : Meaning data_of keeping) (ids : ℕ → Option ℕ) where
  -- the client took messages, and then called the operation's timeout, after all that allows it
  pub record HasClosed (id op : ℕ) (old new : Session data_of keeping) : Type 0 where
    pub before : Session data_of keeping
    pub takes : TakesOn ids old before
    pub may : MayGiveUp meaning ids id op old before
    pub after : Session data_of keeping
    pub receipt : Receipted data_of keeping
    pub called : IsReceipt meaning ids id (input.Timeout op) before after receipt
    pub sees : Sees after new

  -- the timeout of an operation was called, and then nothing; or it was not
  pub data IsCutOff (id op : ℕ) (old new : Session data_of keeping) : Type 0 where
    uncalled : Sees old new → IsCutOff id op old new
    gave_up : (after : Session data_of keeping) (receipt : Receipted data_of keeping) → IsReceipt meaning ids id (input.Timeout op) old after receipt → Sees after new → IsCutOff id op old new

  -- of an operation that was opened: the client took messages, or called its timeout too
  pub data IsLeftOpen (id op : ℕ) (old new : Session data_of keeping) : Type 0 where
    taking : TakesOn ids old new → IsLeftOpen id op old new
    closing : HasClosed id op old new → IsLeftOpen id op old new

  -- after an answer: no timeout is called where nothing was opened
  abbrev pub IsLeftOff : (id : ℕ) → Reply → Session data_of keeping → Session data_of keeping → Type 0
  IsLeftOff id (reply.Pending op) old new = IsLeftOpen id op old new
  IsLeftOff id _ old new = TakesOn ids old new

  module _ (views : List View) where
    -- a part of a command: its entry, and what came of it so far; or no call at all
    pub data IsBegun (command : Command) (old new : Session data_of keeping) : Type 0 where
      unmade : Sees old new → IsBegun command old new
      made : (between : Session data_of keeping) (receipt : Receipted data_of keeping) → IsMade meaning ids views command old between receipt
          → IsLeftOff command.at receipt.output.reply between new → IsBegun command old new

    abbrev pub HasBegunFirst : List Command → Session data_of keeping → Session data_of keeping → Type 0
    HasBegunFirst [] old new = Sees old new
    HasBegunFirst (command ∷ rest) old new = IsBegun command old new

    -- A CLIENT THAT WAS STOPPED: all calls that it made are those of its first commands and of a part of the next
    pub record WasStopped (client : ℕ) (commands : List Command) (old new : Session data_of keeping) : Type 0 where
      pub done : List Command
      pub rest : List Command
      pub all : commands ≡ done ++ rest
      pub lines : List ClientLine
      pub last : Session data_of keeping
      pub path : IsPath meaning ids views client old done lines last
      pub part : HasBegunFirst rest last new

    -- so it is of a client that made any commands before these, whatever comes after them
    pub record StopsWithin (client : ℕ) (commands : List Command) (old new : Session data_of keeping) (before : List ClientLine) : Type 0 where
      pub stops : (first : Session data_of keeping) (earlier later : List Command) → IsPath meaning ids views client first earlier before old → WasStopped client (earlier ++ (commands ++ later)) first new

    -- each made some of its commands, or all
    pub record AreStopped (clients : List (List Repeated)) (old new : List (Session data_of keeping)) : Type 0 where
      pub each : (k : ℕ) (commands : List Repeated) (one other : Session data_of keeping)
          → slice_get clients k ≡ Some commands → slice_get old k ≡ Some one → slice_get new k ≡ Some other → WasStopped k (commands_of commands) one other
