use Rattle.std.proofs.Common.{List, ap, subst, ◌∙◌, ◌==◌, position, IfOk, set}
use Rattle.member_desk.specs.declared.followed.Followed.{Followed}
use Rattle.member_desk.specs.declared.look.Told.{Told}
use Rattle.member_desk.specs.declared.notice.Notice.{Notice}
use Rattle.member_desk.specs.Members.{IsToldBy}
use Rattle.world_desks.specs.declared.seats.Seat.{Seat}
use Rattle.world_desks.specs.Seats.{desk_of}
use Rattle.world_desks.proofs.Notified.{always, told_nobody}
use Rattle.world_desks.proofs.Placed.{desk_here, edited_here, stands_here, desk_none}
use Rattle.world_desks.proofs.desks.Desks.notices_of.Goals as goal

pub returns-in-Some-clause-told : goal.returns-in-Some-clause-told
returns-in-Some-clause-told g c =
    let here = desk_here c.args.self.now.seats.items c.args.at c.in-Some.index (c.in-Some.ensures.value ∙ ap (λ (seats : List Seat). position (λ (seat : Seat). seat.id == c.args.at) seats) c.as_slice.ensures.value) c.index_mut.result.now c.index_mut.ensures.value in
    let there = stands_here c.args.self.now.seats.items c.args.at c.in-Some.index (c.in-Some.ensures.value ∙ ap (λ (seats : List Seat). position (λ (seat : Seat). seat.id == c.args.at) seats) c.as_slice.ensures.value) c.index_mut.result.now c.index_mut.ensures.value c.notices.new.self in
    subst (λ (d : List (Followed Told)). IfOk c.notices.result (λ (notices : List Notice). IsToldBy c.args.node.now d notices (desk_of (set c.args.self.now.seats.items c.in-Some.index (record { id = c.index_mut.result.now.id; desk = c.notices.new.self })) c.args.at))) here
    (subst (λ (d : List (Followed Told)). IfOk c.notices.result (λ (notices : List Notice). IsToldBy c.args.node.now c.index_mut.result.now.desk notices d)) there c.notices.ensures.told)

pub returns-in-Some-clause-others : goal.returns-in-Some-clause-others
returns-in-Some-clause-others g c =
    always c.notices.result
    (edited_here c.args.self.now.seats.items c.args.at c.in-Some.index (c.in-Some.ensures.value ∙ ap (λ (seats : List Seat). position (λ (seat : Seat). seat.id == c.args.at) seats) c.as_slice.ensures.value) c.index_mut.result.now c.index_mut.ensures.value c.notices.new.self (desk_of (set c.args.self.now.seats.items c.in-Some.index (record { id = c.index_mut.result.now.id; desk = c.notices.new.self })) c.args.at)
    (stands_here c.args.self.now.seats.items c.args.at c.in-Some.index (c.in-Some.ensures.value ∙ ap (λ (seats : List Seat). position (λ (seat : Seat). seat.id == c.args.at) seats) c.as_slice.ensures.value) c.index_mut.result.now c.index_mut.ensures.value c.notices.new.self))

pub returns-in-None-clause-told : goal.returns-in-None-clause-told
returns-in-None-clause-told g c = told_nobody c.args.node.now (desk_of c.args.self.now.seats.items c.args.at) c.new.result (desk_none c.args.self.now.seats.items c.args.at (c.in-None.ensures.value ∙ ap (λ (seats : List Seat). position (λ (seat : Seat). seat.id == c.args.at) seats) c.as_slice.ensures.value)) c.new.ensures
