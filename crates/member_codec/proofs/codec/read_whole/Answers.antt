use Rattle.std.proofs.Common.{◌∙◌}
use Rattle.data_codec.specs.Envelopes.{parts_in}
use Rattle.member_codec.specs.Groups.{group_in}
use Rattle.member_codec.specs.Messages.{message_parts, message_in}
use Rattle.member_codec.proofs.Whole.{whole_fails, left_over, nothing_left}
use Rattle.member_codec.proofs.codec.read_whole.Goals as goal

pub returns-then-next-bytes : goal.returns-then-next-bytes
returns-then-next-bytes g c = left_over (message_in (parts_in g.T.SpelledData.is_known g.T.SpelledData.read_in 1) (group_in g.T.SpelledDelta.is_delta_byte g.T.SpelledDelta.delta_in)) c.args.bytes.now (message_parts c.in-Ok.message) c.in-Ok.next c.in-Ok.ensures.exact c.if-next-bytes.true

pub returns-else-next-bytes : goal.returns-else-next-bytes
returns-else-next-bytes g c = nothing_left (message_in (parts_in g.T.SpelledData.is_known g.T.SpelledData.read_in 1) (group_in g.T.SpelledDelta.is_delta_byte g.T.SpelledDelta.delta_in)) c.args.bytes.now (message_parts c.in-Ok.message) c.in-Ok.next c.in-Ok.ensures.exact c.if-next-bytes.false

pub returns-in-Err : goal.returns-in-Err
returns-in-Err g c =
    let f = whole_fails (message_in (parts_in g.T.SpelledData.is_known g.T.SpelledData.read_in 1) (group_in g.T.SpelledDelta.is_delta_byte g.T.SpelledDelta.delta_in)) c.args.bytes.now c.in-Err.error c.in-Err.ensures.exact in
    (f.0, f.1, c.of.ensures ∙ f.2)
