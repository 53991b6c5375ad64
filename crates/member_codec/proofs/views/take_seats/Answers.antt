use Rattle.std.proofs.Common.{List, drop, subst}
use Rattle.base_places.specs.Places.{GivesOn}
use Rattle.member_codec.specs.Views.{Seat, seats_in}
use Rattle.member_codec.proofs.SameKeyed.{same_items}
use Rattle.member_codec.proofs.views.take_seats.Goals as goal

pub returns-clause-exact : goal.returns-clause-exact
returns-clause-exact c =
    subst (λ (f : List Seat → List Seat). GivesOn c.args.from.now f c.take.result (seats_in (drop c.args.place c.args.from.now))) (λ j xs. same_items xs j) c.take.ensures.exact
