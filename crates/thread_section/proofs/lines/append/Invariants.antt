use Rattle.std.proofs.Common.{◌≡◌, ◌+◌, ◌≤◌, ◌++◌, vec_len}
use Rattle.std.specs.Prelude.{vec_capacity}
use Rattle.std.specs.Vec.Iter.{into_iter_len}
use Rattle.thread_section.proofs.lines.append.Given as goal

abbrev pub invariant-loop-line : goal.invariant-loop-line
invariant-loop-line l = record {
  items : l.all.items ≡ l.fn.all.items ++ l.yielded;
  room : vec_len l.all + into_iter_len l.line-iterator ≤ vec_capacity l.all;
}
