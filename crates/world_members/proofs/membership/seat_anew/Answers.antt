use Rattle.world_places.proofs.Seats.{seats_anew}
use Rattle.world_members.proofs.membership.seat_anew.Goals as goal

pub returns-in-Ok-clause-seats : goal.returns-in-Ok-clause-seats
returns-in-Ok-clause-seats g c =
    seats_anew c.args.id c.args.view.now c.args.keys.now c.args.place c.args.nodes.now.items c.seat.new.nodes.items c.args.spare.now.items c.clear_at.new.spare.items c.seat.new.spare.items c.in_ok-clear_at.ensures.clears c.in-Ok.ensures.seats
