-- What clients did, command by command.
--     IsPath, GoesFurther        a client's commands, one after another
use Rattle.std.specs.Prelude.{ℕ, List, [], ◌∷◌, ◌++◌, Option}
use Rattle.model_kinds.specs.declared.operation.Op.{Op}
use Rattle.data_lattice.specs.declared.replica.Replica.{Ghosts as Data}
use Rattle.member_keeper.specs.declared.keeper.Keeper.{Ghosts as Keeping}
use Rattle.member_views.specs.Views.{View}
use Rattle.world_members.specs.declared.client_line.ClientLine.{ClientLine}
use Rattle.script_reading.specs.declared.clients.Command.{Command}
use Rattle.thread_clients.specs.Sessions.{Session, Meaning}
use Rattle.thread_clients.specs.Answers.{HasMade}

module _ {T K Kind Delta : Type 0} {data_of : Data T Kind Op Delta} {keeping : Keeping K} (meaning : Meaning data_of keeping) (ids : ℕ → Option ℕ) (views : List View) (client : ℕ) where
  -- A CLIENT'S COMMANDS, one after another, with a line for each
  pub data IsPath (first : Session data_of keeping) : List Command → List ClientLine → Session data_of keeping → Type 0 where
    nothing : IsPath first [] [] first
    further : (commands : List Command) (lines : List ClientLine) (old new : Session data_of keeping) (command : Command) (line : ClientLine)
        → IsPath first commands lines old → HasMade meaning ids views command old new line client → IsPath first (commands ++ command ∷ []) (lines ++ line ∷ []) new

  -- these commands follow on any path
  pub record GoesFurther (commands : List Command) (old new : Session data_of keeping) (before after : List ClientLine) : Type 0 where
    pub further : (first : Session data_of keeping) (earlier : List Command) → IsPath first earlier before old → IsPath first (earlier ++ commands) after new
