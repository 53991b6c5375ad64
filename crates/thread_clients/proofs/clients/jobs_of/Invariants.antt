use Rattle.std.proofs.Common.{◌≡◌, ◌+◌, ◌≤◌, map, vec_len}
use Rattle.std.specs.Prelude.{vec_capacity}
use Rattle.std.specs.Vec.Iter.{into_iter_len}
use Rattle.thread_clients.specs.Playing.{job_of}
use Rattle.thread_clients.proofs.clients.jobs_of.Given as goal

abbrev pub invariant-loop-session : goal.invariant-loop-session
invariant-loop-session g l = record {
  items : l.jobs.items ≡ map job_of l.yielded;
  room : vec_len l.jobs + into_iter_len l.session-iterator ≤ vec_capacity l.jobs;
}
