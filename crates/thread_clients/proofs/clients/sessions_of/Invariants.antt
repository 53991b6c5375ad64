use Rattle.std.proofs.Common.{◌≡◌, ◌+◌, ◌≤◌, map, vec_len}
use Rattle.std.specs.Prelude.{vec_capacity}
use Rattle.std.specs.Vec.Iter.{into_iter_len}
use Rattle.thread_clients.specs.Playing.{session_of}
use Rattle.thread_clients.proofs.clients.sessions_of.Given as goal

abbrev pub invariant-loop-job : goal.invariant-loop-job
invariant-loop-job g l = record {
  items : l.sessions.items ≡ map session_of l.yielded;
  room : vec_len l.sessions + into_iter_len l.job-iterator ≤ vec_capacity l.sessions;
}
