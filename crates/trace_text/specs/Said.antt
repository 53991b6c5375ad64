-- The texts that a trace says: those of the program's operations are UTF-8, as every text of its is.
use Rattle.std.specs.Prelude.{List, All, ⊤}
use Rattle.base_bytes.specs.Spelling.{IsText}
use Rattle.model_kinds.specs.declared.operation.Op.{Op}
use Rattle.model_kinds.specs.declared.operation.Op.TheVariants as op
use Rattle.trace_lines.specs.declared.trace.TraceAct.{TraceAct}
use Rattle.trace_lines.specs.declared.trace.TraceAct.TheVariants as act
use Rattle.trace_lines.specs.declared.trace.TraceLine.{TraceLine}

abbrev pub HasTexts : Op → Type 0
HasTexts (op.Add element) = IsText element
HasTexts (op.Remove element) = IsText element
HasTexts (op.Assign text now) = IsText text
HasTexts _ = ⊤

abbrev pub SaysTexts : TraceAct → Type 0
SaysTexts (act.Record op) = HasTexts op
SaysTexts _ = ⊤

abbrev pub AreSayable : List TraceLine → Type 0
AreSayable lines = All (λ line. SaysTexts line.act) lines
