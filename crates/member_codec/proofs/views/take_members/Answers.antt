use Rattle.std.proofs.Common.{◌≡◌, true, false, List, drop, Ok, sym, ap, ◌∙◌}
use Rattle.member_views.specs.Views.{View}
use Rattle.member_codec.specs.Views.{is_view, Seat, view_with}
use Rattle.member_codec.proofs.ViewPlaces.{seats_fail, no_view, view_read}
use Rattle.member_codec.proofs.views.take_members.Goals as goal

pub returns-in-Ok-Some-clause-exact : goal.returns-in-Ok-Some-clause-exact
returns-in-Ok-Some-clause-exact c =
    let made = rw c.in-Ok-Some.field-0-is at c.in-Ok-Some.ensures in
    let same : c.as_slice.result.now ≡ c.in-Ok.seats = cc c.as_slice.ensures in
    let whole : is_view (view_with c.args.number c.args.given c.in-Ok.seats) ≡ true = ap (λ (seats : List Seat). is_view (view_with c.args.number c.args.given seats)) (sym same) ∙ made.1 in
    let told : view_with c.args.number c.args.given c.in-Ok.seats ≡ c.in-Ok-Some.view = ap (view_with c.args.number c.args.given) (sym same) ∙ sym made.0 in
    view_read c.args.from.now c.args.place c.args.number c.args.given c.in-Ok.seats c.in-Ok.next c.in-Ok.ensures.exact whole ∙ ap (λ (view : View). Ok (view, drop c.in-Ok.next c.args.from.now)) told

pub returns-in-Ok-None-clause-exact : goal.returns-in-Ok-None-clause-exact
returns-in-Ok-None-clause-exact c =
    let none = rw c.in-Ok-None.field-0-is at c.in-Ok-None.ensures in
    let same : c.as_slice.result.now ≡ c.in-Ok.seats = cc c.as_slice.ensures in
    let broken : is_view (view_with c.args.number c.args.given c.in-Ok.seats) ≡ false = ap (λ (seats : List Seat). is_view (view_with c.args.number c.args.given seats)) (sym same) ∙ none in
    no_view c.args.from.now c.args.place c.args.number c.args.given c.in-Ok.seats c.in-Ok.next c.in-Ok.ensures.exact c.requires broken

pub returns-clause-exact : goal.returns-clause-exact
returns-clause-exact c = seats_fail c.args.from.now c.args.place c.args.number c.args.given c.in-Err.error c.in-Err.ensures.exact
