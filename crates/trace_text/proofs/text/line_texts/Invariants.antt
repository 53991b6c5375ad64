use Rattle.std.proofs.Common.{take}
use Rattle.trace_text.specs.Said.{AreSayable}
use Rattle.trace_text.proofs.text.line_texts.Given as goal

abbrev pub invariant-loop-line : goal.invariant-loop-line
invariant-loop-line l = AreSayable (take l.line-index l.lines)
