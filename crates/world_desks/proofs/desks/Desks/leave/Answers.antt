use Rattle.std.proofs.Common.{List, ap, sym, ◌∙◌, ◌==◌, position}
use Rattle.member_desk.specs.declared.followed.Followed.{Followed}
use Rattle.member_desk.specs.declared.look.Told.{Told}
use Rattle.member_desk.specs.Subscriptions.{is_subscribed, without_subscription}
use Rattle.world_desks.specs.declared.seats.Seat.{Seat}
use Rattle.world_desks.specs.Seats.{desk_of}
use Rattle.world_desks.proofs.Placed.{desk_here, edited_here, desk_none, nothing_changed}
use Rattle.world_desks.proofs.desks.Desks.leave.Goals as goal

pub returns-in-Some-clause-was : goal.returns-in-Some-clause-was
returns-in-Some-clause-was c =
    c.unsubscribe.ensures.was ∙ ap (λ (d : List (Followed Told)). is_subscribed d c.args.key.now c.args.client) (desk_here c.args.self.now.seats.items c.args.at c.in-Some.index (c.in-Some.ensures.value ∙ ap (λ (seats : List Seat). position (λ (seat : Seat). seat.id == c.args.at) seats) c.as_slice.ensures.value) c.index_mut.result.now c.index_mut.ensures.value)

pub returns-in-Some-clause-now : goal.returns-in-Some-clause-now
returns-in-Some-clause-now c = λ i.
    let here = desk_here c.args.self.now.seats.items c.args.at c.in-Some.index (c.in-Some.ensures.value ∙ ap (λ (seats : List Seat). position (λ (seat : Seat). seat.id == c.args.at) seats) c.as_slice.ensures.value) c.index_mut.result.now c.index_mut.ensures.value in
    edited_here c.args.self.now.seats.items c.args.at c.in-Some.index (c.in-Some.ensures.value ∙ ap (λ (seats : List Seat). position (λ (seat : Seat). seat.id == c.args.at) seats) c.as_slice.ensures.value) c.index_mut.result.now c.index_mut.ensures.value c.unsubscribe.new.self (without_subscription (desk_of c.args.self.now.seats.items c.args.at) c.args.key.now c.args.client)
    (c.unsubscribe.ensures.now ∙ ap (λ (d : List (Followed Told)). without_subscription d c.args.key.now c.args.client) here) i

pub returns-in-None-clause-was : goal.returns-in-None-clause-was
returns-in-None-clause-was c = ap (λ (d : List (Followed Told)). is_subscribed d c.args.key.now c.args.client) (sym (desk_none c.args.self.now.seats.items c.args.at (c.in-None.ensures.value ∙ ap (λ (seats : List Seat). position (λ (seat : Seat). seat.id == c.args.at) seats) c.as_slice.ensures.value)))

pub returns-in-None-clause-now : goal.returns-in-None-clause-now
returns-in-None-clause-now c = λ i.
    let none = desk_none c.args.self.now.seats.items c.args.at (c.in-None.ensures.value ∙ ap (λ (seats : List Seat). position (λ (seat : Seat). seat.id == c.args.at) seats) c.as_slice.ensures.value) in
    nothing_changed c.args.self.now.seats.items c.args.at (without_subscription (desk_of c.args.self.now.seats.items c.args.at) c.args.key.now c.args.client)
    (none ∙ ap (λ (d : List (Followed Told)). without_subscription d c.args.key.now c.args.client) (sym none)) i
