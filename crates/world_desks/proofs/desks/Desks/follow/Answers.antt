use Rattle.std.proofs.Common.{◌≡◌, List, ap, sym, subst, refl, ◌∙◌, ◌==◌, position, IfOk}
use Rattle.std.specs.Prelude.{if◌then◌else◌}
use Rattle.model_history.specs.Table.{with_at}
use Rattle.member_desk.specs.declared.client.Subscribed.{Subscribed}
use Rattle.member_desk.specs.declared.client.Subscribed.TheVariants as subscribed
use Rattle.member_desk.specs.declared.followed.Followed.{Followed}
use Rattle.member_desk.specs.declared.look.Told.{Told}
use Rattle.member_desk.specs.Subscriptions.{is_subscribed, with_subscription}
use Rattle.member_desk.proofs.Editing.{on_ok}
use Rattle.world_desks.specs.declared.seats.Seat.{Seat}
use Rattle.world_desks.specs.Seats.{desk_of}
use Rattle.world_desks.proofs.Placed.{desk_here, edited_here, desk_none, desk_added}
use Rattle.world_desks.proofs.desks.Desks.follow.Goals as goal

pub returns-in-Some-clause-ok : goal.returns-in-Some-clause-ok
returns-in-Some-clause-ok c =
    let here = desk_here c.args.self.now.seats.items c.args.at c.in-Some.index (c.in-Some.ensures.value ∙ ap (λ (seats : List Seat). position (λ (seat : Seat). seat.id == c.args.at) seats) c.as_slice.ensures.value) c.index_mut.result.now c.index_mut.ensures.value in
    on_ok c.subscribe.result c.subscribe.ensures.ok (λ same.
    edited_here c.args.self.now.seats.items c.args.at c.in-Some.index (c.in-Some.ensures.value ∙ ap (λ (seats : List Seat). position (λ (seat : Seat). seat.id == c.args.at) seats) c.as_slice.ensures.value) c.index_mut.result.now c.index_mut.ensures.value c.subscribe.new.self (with_subscription (desk_of c.args.self.now.seats.items c.args.at) c.args.key.now c.args.client)
    (same ∙ ap (λ (d : List (Followed Told)). with_subscription d c.args.key.now c.args.client) here))

pub returns-in-Some-clause-standing : goal.returns-in-Some-clause-standing
returns-in-Some-clause-standing c =
    subst (λ (d : List (Followed Told)). IfOk c.subscribe.result (λ (s : Subscribed). s ≡ (if is_subscribed d c.args.key.now c.args.client then subscribed.Standing else subscribed.New)))
    (desk_here c.args.self.now.seats.items c.args.at c.in-Some.index (c.in-Some.ensures.value ∙ ap (λ (seats : List Seat). position (λ (seat : Seat). seat.id == c.args.at) seats) c.as_slice.ensures.value) c.index_mut.result.now c.index_mut.ensures.value) c.subscribe.ensures.standing

pub returns-in_ok-push-in-None-clause-ok : goal.returns-in_ok-push-in-None-clause-ok
returns-in_ok-push-in-None-clause-ok c = λ i.
    let none = (c.in-None.ensures.value ∙ ap (λ (seats : List Seat). position (λ (seat : Seat). seat.id == c.args.at) seats) c.as_slice.ensures.value) in
    let nothing = desk_none c.args.self.now.seats.items c.args.at none in
    desk_added c.args.self.now.seats.items c.push.new.self.items c.args.at (record { id = c.args.at; desk = c.subscribe-in-None.new.self }) none refl c.in_ok-push-in-None.ensures.items i
    ∙ ap (λ (d : List (Followed Told)). with_at (desk_of c.args.self.now.seats.items) c.args.at d i)
    (c.in_ok-subscribed-in-None.ensures.ok ∙ ap (λ (d : List (Followed Told)). with_subscription d c.args.key.now c.args.client) (c.new-desk.ensures ∙ sym nothing))

pub returns-in_ok-push-in-None-clause-standing : goal.returns-in_ok-push-in-None-clause-standing
returns-in_ok-push-in-None-clause-standing c =
    let nothing = desk_none c.args.self.now.seats.items c.args.at (c.in-None.ensures.value ∙ ap (λ (seats : List Seat). position (λ (seat : Seat). seat.id == c.args.at) seats) c.as_slice.ensures.value) in
    c.in_ok-subscribed-in-None.ensures.standing
    ∙ ap (λ (d : List (Followed Told)). if is_subscribed d c.args.key.now c.args.client then subscribed.Standing else subscribed.New) (c.new-desk.ensures ∙ sym nothing)
