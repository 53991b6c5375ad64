use Rattle.std.proofs.Common.{◌≡◌}
use Rattle.thread_section.specs.Lines.{all_lines}
use Rattle.thread_section.proofs.lines.joined.Given as goal

abbrev pub invariant-loop-one : goal.invariant-loop-one
invariant-loop-one l = l.all.items ≡ all_lines l.yielded
