use Rattle.std.proofs.Common.{[], ◌∷◌, Ok, subst}
use Rattle.top_lines.specs.Rows.{ReadsByte}
use Rattle.top_lines.proofs.Lasting.{one_byte, part_on}
use Rattle.top_lines.proofs.lines.next_line.Goals as goal

pub returns-then-is_err : goal.returns-then-is_err
returns-then-is_err g c =
    let byte = c.in-Ok-Some.byte in
    let left = g.S.Source.left in
    let read = subst (λ found. ReadsByte (left c.loop-source.source) (left c.next_byte.new.source) (Ok found)) c.in-Ok-Some.field-0-is c.in-Ok-Some.ensures in
    part_on (left c.args.source.now) (left c.loop-source.source) (left c.next_byte.new.source) c.loop-source.line.items (byte ∷ [])
    c.loop-source.invariant.0 (one_byte byte c.if-byte-eq10.false) c.loop-source.invariant.1 read
