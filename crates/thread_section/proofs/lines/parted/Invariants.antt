use Rattle.std.proofs.Common.{◌≡◌, ◌+◌, ◌≤◌, map, vec_len}
use Rattle.std.specs.Prelude.{vec_capacity}
use Rattle.std.specs.Vec.Iter.{into_iter_len}
use Rattle.thread_section.specs.Lines.{session_of, lines_of}
use Rattle.thread_section.proofs.lines.parted.Given as goal

abbrev pub invariant-loop-one : goal.invariant-loop-one
invariant-loop-one g l = record {
  sessions : l.sessions.items ≡ map session_of l.yielded;
  lines : l.lines.items ≡ map lines_of l.yielded;
  session_room : vec_len l.sessions + into_iter_len l.one-iterator ≤ vec_capacity l.sessions;
  line_room : vec_len l.lines + into_iter_len l.one-iterator ≤ vec_capacity l.lines;
}
