use Rattle.member_codec.proofs.ViewPlaces.{front_fails, front_read}
use Rattle.member_codec.proofs.views.take_parts.Goals as goal

pub returns-in-Ok-clause-exact : goal.returns-in-Ok-clause-exact
returns-in-Ok-clause-exact c = rw (front_read c.args.from.now c.args.place c.in-Ok.number c.in-Ok.given c.in-Ok.next c.in-Ok.ensures.exact) c.take_members.ensures.exact

pub returns-in-Err-clause-exact : goal.returns-in-Err-clause-exact
returns-in-Err-clause-exact c = front_fails c.args.from.now c.args.place c.in-Err.error c.in-Err.ensures.exact
