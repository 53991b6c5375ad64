-- The lines of clients, one client's behind those of the one before.
use Rattle.std.specs.Prelude.{List, [], ◌∷◌, ◌++◌}
use Rattle.world_members.specs.declared.client_line.ClientLine.{ClientLine}
use Rattle.model_kinds.specs.declared.operation.Op.{Op}
use Rattle.data_lattice.specs.declared.replica.Replica.{Ghosts as Data}
use Rattle.member_keeper.specs.declared.keeper.Keeper.{Ghosts as Keeping}
use Rattle.thread_clients.specs.declared.clients.Played.{Played}
use Rattle.thread_clients.specs.Sessions.{Session}

-- all lines, in the order of the clients
abbrev pub all_lines : List (List ClientLine) → List ClientLine
all_lines [] = []
all_lines (l ∷ lines) = l ++ all_lines lines

module _ {T K Kind Delta : Type 0} {data_of : Data T Kind Op Delta} {keeping : Keeping K} where
  abbrev pub session_of : Played T K Kind Delta data_of keeping → Session data_of keeping
  session_of played = played.session

  abbrev pub lines_of : Played T K Kind Delta data_of keeping → List ClientLine
  lines_of played = played.lines
