use Rattle.data_codec.specs.Envelopes.{parts_in}
use Rattle.member_codec.specs.Groups.{group_in}
use Rattle.member_codec.proofs.Bodies.{kind_fails, kind_unknown, kind_read}
use Rattle.member_codec.proofs.messages.take_kind.Goals as goal

pub returns-in-Some-clause-exact : goal.returns-in-Some-clause-exact
returns-in-Some-clause-exact g c =
    rw (kind_read (parts_in g.T.SpelledData.is_known g.T.SpelledData.read_in 1) (group_in g.T.SpelledDelta.is_delta_byte g.T.SpelledDelta.delta_in) c.args.from.now c.args.place c.in-Ok.byte c.in-Ok.next c.in-Ok.ensures.exact c.in-Some.ensures.some c.in-Some.kind c.in-Some.ensures.value) c.take_body.ensures.exact

pub returns-in-None-clause-exact : goal.returns-in-None-clause-exact
returns-in-None-clause-exact g c =
    kind_unknown (parts_in g.T.SpelledData.is_known g.T.SpelledData.read_in 1) (group_in g.T.SpelledDelta.is_delta_byte g.T.SpelledDelta.delta_in) c.args.from.now c.args.place c.in-Ok.byte c.in-Ok.next c.in-Ok.ensures.exact c.requires c.in-None.ensures.none

pub returns-in-Err-clause-exact : goal.returns-in-Err-clause-exact
returns-in-Err-clause-exact g c =
    kind_fails (parts_in g.T.SpelledData.is_known g.T.SpelledData.read_in 1) (group_in g.T.SpelledDelta.is_delta_byte g.T.SpelledDelta.delta_in) c.args.from.now c.args.place c.in-Err.error c.in-Err.ensures.exact
