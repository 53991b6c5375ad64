use Rattle.std.proofs.Common.{◌-◌, length}
use Rattle.std.specs.Io.KnownBytes.{Consumes}
use Rattle.top_lines.specs.Rows.{IsOneLine}
use Rattle.top_lines.proofs.lines.next_line.Given as goal

abbrev pub invariant-loop-source : goal.invariant-loop-source
invariant-loop-source g l = IsOneLine l.line.items × Consumes (g.S.Source.left l.initial.source) (g.S.Source.left l.source) l.line.items

abbrev pub decreases-loop-source : goal.decreases-loop-source
decreases-loop-source g l = 16777217 - length l.line.items
