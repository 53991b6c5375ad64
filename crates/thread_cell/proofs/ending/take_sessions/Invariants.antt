use Rattle.std.proofs.Common.{◌≡◌, ◌+◌, ◌≤◌, List, ◌++◌, Some, map, reverse, vec_len}
use Rattle.std.specs.Prelude.{vec_capacity}
use Rattle.std.specs.List.{All}
use Rattle.thread_cell.specs.Calls.{own_calls}
use Rattle.thread_cell.specs.Values.{ClientParts, client_calls}
use Rattle.thread_cell.specs.Closings.{Served}
use Rattle.thread_cell.proofs.ending.take_sessions.Given as goal

abbrev pub decreases-loop-session : goal.decreases-loop-session
decreases-loop-session g l = vec_len l.sessions

abbrev pub invariant-loop-session : goal.invariant-loop-session
invariant-loop-session g l = record {
  table : l.base.table_id ≡ g.N.Name.table;
  tables : All (λ s. s.seen.table ≡ g.N.Name.table) l.sessions.items;
  began : l.base.me.0.began ≡ Some l.table;
  done : List (ClientParts g.row.M.Denot g.row.M-Input.Denot g.row.M-Fate.Denot g.row.M-Output.Denot g.row.M-Refusal.Denot);
  all : l.sessions.items ++ done ≡ l.initial.sessions.items;
  served : Served done l.base.me.0;
  calls : map own_calls (reverse l.calls.items) ≡ map client_calls done;
  room : vec_len l.calls + vec_len l.sessions ≤ vec_capacity l.calls;
}
