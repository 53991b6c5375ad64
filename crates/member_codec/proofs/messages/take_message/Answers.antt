use Rattle.data_codec.specs.Envelopes.{parts_in}
use Rattle.member_codec.specs.Groups.{group_in}
use Rattle.std.proofs.lemmas.Bool.{eq-eqb}
use Rattle.member_codec.proofs.Bodies.{format_fails, format_unknown, format_read}
use Rattle.member_codec.proofs.messages.take_message.Goals as goal

pub returns-then-format-ne1-clause-exact : goal.returns-then-format-ne1-clause-exact
returns-then-format-ne1-clause-exact g c =
    format_unknown (parts_in g.T.SpelledData.is_known g.T.SpelledData.read_in 1) (group_in g.T.SpelledDelta.is_delta_byte g.T.SpelledDelta.delta_in) c.args.from.now c.args.place c.in-Ok.format c.in-Ok.next c.in-Ok.ensures.exact c.requires c.if-format-ne1.true

pub returns-else-format-ne1-clause-exact : goal.returns-else-format-ne1-clause-exact
returns-else-format-ne1-clause-exact g c =
    rw (format_read (parts_in g.T.SpelledData.is_known g.T.SpelledData.read_in 1) (group_in g.T.SpelledDelta.is_delta_byte g.T.SpelledDelta.delta_in) c.args.from.now c.args.place c.in-Ok.format c.in-Ok.next c.in-Ok.ensures.exact (eq-eqb c.in-Ok.format 1 c.if-format-ne1.false)) c.take_kind.ensures.exact

pub returns-in-Err-clause-exact : goal.returns-in-Err-clause-exact
returns-in-Err-clause-exact g c =
    format_fails (parts_in g.T.SpelledData.is_known g.T.SpelledData.read_in 1) (group_in g.T.SpelledDelta.is_delta_byte g.T.SpelledDelta.delta_in) c.args.from.now c.args.place c.in-Err.error c.in-Err.ensures.exact
