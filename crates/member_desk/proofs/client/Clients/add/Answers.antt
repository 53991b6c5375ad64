use Rattle.std.proofs.Common.{List, [], ◌∷◌, refl, sym, ◌∙◌, subst}
use Rattle.member_desk.specs.declared.client.Client.{Client}
use Rattle.member_desk.specs.declared.place.Place.TheVariants.{At}
use Rattle.member_desk.specs.Places.{IsPlace}
use Rattle.member_desk.specs.Subscriptions.{by_number, untold}
use Rattle.member_desk.proofs.Subscribing.{edited_same}
use Rattle.member_desk.proofs.client.Clients.add.Goals as goal

pub returns-in-At-clause-ok : goal.returns-in-At-clause-ok
returns-in-At-clause-ok c =
    let place = subst (λ (t : List Client). IsPlace (by_number c.args.number) t (At c.in-At.field-0)) (c.as_slice.ensures.value ∙ c.self.view_is) c.in-At.ensures in
    sym (edited_same (by_number c.args.number) (λ client. client ∷ []) (untold c.args.number ∷ []) c.args.self.now place.item place.found refl)
