use Rattle.std.proofs.Common.{◌∙◌}
use Rattle.member_codec.specs.Views.{view_in}
use Rattle.member_codec.proofs.Whole.{whole_fails, left_over, nothing_left}
use Rattle.member_codec.proofs.view_codec.read_all.Goals as goal

pub returns-then-next-bytes : goal.returns-then-next-bytes
returns-then-next-bytes c = left_over view_in c.args.bytes.now c.in-Ok.view c.in-Ok.next c.in-Ok.ensures.exact c.if-next-bytes.true

pub returns-else-next-bytes : goal.returns-else-next-bytes
returns-else-next-bytes c = nothing_left view_in c.args.bytes.now c.in-Ok.view c.in-Ok.next c.in-Ok.ensures.exact c.if-next-bytes.false

pub returns-in-Err : goal.returns-in-Err
returns-in-Err c =
    let f = whole_fails view_in c.args.bytes.now c.in-Err.error c.in-Err.ensures.exact in
    (f.0, f.1, c.of.ensures ∙ f.2)
