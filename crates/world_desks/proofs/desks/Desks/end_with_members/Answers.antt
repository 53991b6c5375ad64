use Rattle.std.proofs.Common.{rules}
use Rattle.std.specs.Prelude.{is_some}
use Rattle.std.proofs.lemmas.Fn.{filter_same}
use Rattle.member_views.specs.Sound.{last_view}
use Rattle.world_places.specs.Places.{member_of}
use Rattle.world_desks.specs.declared.seats.Seat.{Seat}
use Rattle.world_desks.proofs.Notified.{ends_with_members}
use Rattle.world_desks.proofs.desks.Desks.end_with_members.Goals as goal

pub returns : goal.returns
returns g c =
    ends_with_members g.T.SpelledData c.args.world.now c.args.self.now (record c.args.self.now { seats = c.retain.new.self })
    (filter_same _ (λ (seat : Seat). is_some (member_of (last_view c.args.world.now.views) c.args.world.now.nodes.items seat.id)) _ (λ x b f' k. search rules) c.args.self.now.seats.items c.retain.new.self.items c.retain.ensures.filtered)
