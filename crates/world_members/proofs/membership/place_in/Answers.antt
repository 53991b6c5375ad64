use Rattle.std.proofs.Common.{sym, subst}
use Rattle.member_views.specs.Sound.{IsView}
use Rattle.world_places.proofs.Seats.{few_seat, last_sound}
use Rattle.world_members.proofs.membership.place_in.Goals as goal

pub returns-clause-within : goal.returns-clause-within
returns-clause-within c = few_seat c.last.result.now (subst (λ v. IsView v) (sym c.last.ensures.last) (last_sound c.args.views.now c.last.ensures.sound)) c.args.id c.place_of.result c.place_of.ensures
