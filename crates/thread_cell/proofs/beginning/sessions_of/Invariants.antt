use Rattle.std.proofs.Common.{◌≡◌, ◌≤◌}
use Rattle.std.specs.Prelude.{vec_capacity}
use Rattle.thread_cell.specs.Beginnings.{Opens, places_left, clients_left, begun_sessions}
use Rattle.thread_cell.proofs.beginning.sessions_of.Given as goal

abbrev pub invariant-loop-number : goal.invariant-loop-number
invariant-loop-number g l = record {
  table : l.seat.table_id ≡ g.N.Name.table;
  seat : Opens l.table (places_left l.table 0) (clients_left l.clients l.number) l.seat.me;
  sessions : l.sessions.items ≡ begun_sessions g.N.Name.table l.table l.number;
  room : l.clients ≤ vec_capacity l.sessions;
}
