use Rattle.member_codec.proofs.Changes.{before_fails, change_fails, group_read}
use Rattle.member_codec.proofs.groups.GroupPiece.take.Goals as goal

pub returns-in-Ok-read_change-clause-exact : goal.returns-in-Ok-read_change-clause-exact
returns-in-Ok-read_change-clause-exact g c =
    group_read g.T.SpelledDelta.is_delta_byte g.T.SpelledDelta.delta_in c.args.from.now c.args.place (c.in-Ok.front.origin, ((c.in-Ok.front.span.after, c.in-Ok.front.span.upto), c.in-Ok.front.needs)) c.in-Ok.middle c.in-Ok.ensures.exact c.in-Ok-read_change.delta c.in-Ok-read_change.next c.in-Ok-read_change.ensures.exact

pub returns-in-Err-read_change-clause-exact : goal.returns-in-Err-read_change-clause-exact
returns-in-Err-read_change-clause-exact g c =
    change_fails g.T.SpelledDelta.is_delta_byte g.T.SpelledDelta.delta_in c.args.from.now c.args.place (c.in-Ok.front.origin, ((c.in-Ok.front.span.after, c.in-Ok.front.span.upto), c.in-Ok.front.needs)) c.in-Ok.middle c.in-Ok.ensures.exact c.in-Err-read_change.error c.in-Err-read_change.ensures.exact

pub returns-in-Err-clause-exact : goal.returns-in-Err-clause-exact
returns-in-Err-clause-exact g c = before_fails g.T.SpelledDelta.is_delta_byte g.T.SpelledDelta.delta_in c.args.from.now c.args.place c.in-Err.error c.in-Err.ensures.exact
