use Rattle.std.proofs.Common.{◌≡◌, arith, sym, subst, true}
use Rattle.model_members.specs.View.{is_member, first_view}
use Rattle.theorem_runs.proofs.ViewLaws.{first_member}
use Rattle.world_places.specs.Seating.{Seats}
use Rattle.world_places.proofs.Starting.{one_seated, all_seated, still_kept, kept_after}
use Rattle.world_places.proofs.start.seat_first.Goals as goal

pub seat-requires-clause-member : goal.seat-requires-clause-member
seat-requires-clause-member g c =
    let same : c.unwrap-id.result ≡ c.loop-place.place = grind arith in
    subst (λ v. is_member v c.unwrap-id.result ≡ true) (sym c.requires.view) (first_member c.args.members c.unwrap-id.result (omega arith))

pub returns-in_err-seat-clause-kept : goal.returns-in_err-seat-clause-kept
returns-in_err-seat-clause-kept g c =
    kept_after c.args.keys.now c.args.members c.args.spare.now c.loop-place.place c.loop-place.nodes c.loop-place.spare c.loop-place.invariant c.seat.new.nodes c.seat.new.spare c.in_err-seat.ensures.nodes_stay c.in_err-seat.ensures.spare_stay
    (omega arith) c.requires.keepers

pub loop-place-preserved : goal.loop-place-preserved
loop-place-preserved g c =
    let same : c.unwrap-id.result ≡ c.loop-place.place = grind arith in
    one_seated c.args.keys.now c.args.members c.args.spare.now c.loop-place.place c.loop-place.nodes c.seat.new.nodes c.loop-place.spare c.seat.new.spare c.seat.ensures.len_nodes c.seat.ensures.len_spare c.loop-place.invariant
    (subst (λ i. Seats {ghosts = g.T.Replica} {keeping = g.K.Keeper} i (first_view c.args.members) c.args.keys.now c.loop-place.place c.loop-place.nodes.items c.seat.new.nodes.items c.loop-place.spare.items c.seat.new.spare.items) same
    (subst (λ v. Seats {ghosts = g.T.Replica} {keeping = g.K.Keeper} c.unwrap-id.result v c.args.keys.now c.loop-place.place c.loop-place.nodes.items c.seat.new.nodes.items c.loop-place.spare.items c.seat.new.spare.items) c.requires.view c.in_ok-seat.ensures.seats))

pub returns-clause-seats : goal.returns-clause-seats
returns-clause-seats g c = all_seated c.args.keys.now c.args.members c.args.spare.now c.loop-place.place c.loop-place.nodes c.loop-place.spare c.loop-place.invariant (omega arith)

pub returns-clause-kept : goal.returns-clause-kept
returns-clause-kept g c = still_kept c.args.keys.now c.args.members c.args.spare.now c.loop-place.place c.loop-place.nodes c.loop-place.spare c.loop-place.invariant (omega arith) c.requires.keepers
