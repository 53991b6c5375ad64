use Rattle.std.proofs.Common.{◌≡◌, ◌<◌, List, [], length, get_or, subst, sym, ap, ◌∙◌}
use Rattle.std.specs.FinSet as set
use Rattle.model_history.specs.Texts.{Text}
use Rattle.data_growing.specs.Texts.{IsPlace}
use Rattle.data_orset.specs.declared.dot_list.Spot.{Spot}
use Rattle.data_orset.specs.Placing.{Placed, at_dot, key_of, AreDots}
use Rattle.data_orset.specs.Keeping.{set_of}
use Rattle.data_orset.specs.Spots.{dots_in, AreInOrder, IsSpotFound}
use Rattle.data_orset.proofs.SpotOrder.{spots_in_order, has_found, absent_text}
use Rattle.data_orset.specs.DotLaws.{itself}
use Rattle.data_orset.proofs.SetsOfDots.{contains_set_of}
use Rattle.data_orset.proofs.dot_list.DotList.has.Goals as goal

pub find_spot-requires : goal.find_spot-requires
find_spot-requires c =
    subst AreInOrder (sym c.deref-in-Ok.ensures.value) (spots_in_order c.self.inside.texts.items c.self.inside.spots.items c.self.invariant (subst AreDots (sym c.self.view_is) c.requires))

pub returns-in-Ok : goal.returns-in-Ok
returns-in-Ok c =
    let is = subst (λ (ts : List Text). (c.in-Ok.place < length ts) × (get_or ts c.in-Ok.place [] ≡ c.args.element.now)) c.deref.ensures.value c.in-Ok.ensures in
    c.is_ok.ensures.value
    ∙ has_found c.self.inside.texts.items c.self.inside.spots.items (record { place = c.in-Ok.place; dot = c.args.dot.now }) c.args.element.now c.find_spot.result c.self.invariant is
    (subst (λ (ss : List Spot). IsSpotFound ss (record { place = c.in-Ok.place; dot = c.args.dot.now }) c.find_spot.result) c.deref-in-Ok.ensures.value c.find_spot.ensures)
    ∙ ap (λ (ps : List Placed). set.contains (set_of ps) (key_of (at_dot c.args.dot.now c.args.element.now))) c.self.view_is

pub returns-in-Err : goal.returns-in-Err
returns-in-Err c =
    let x : Placed = at_dot c.args.dot.now c.args.element.now in
    let place = subst (λ (ts : List Text). IsPlace ts c.args.element.now c.in-Err.field-0) c.deref.ensures.value c.in-Err.ensures in
    sym (ap (λ (ps : List Placed). set.contains (set_of ps) (key_of x)) (sym c.self.view_is) ∙ contains_set_of (dots_in c.self.inside.texts.items c.self.inside.spots.items) (key_of x)
    ∙ absent_text c.self.inside.texts.items c.self.inside.spots.items x place.absent c.self.invariant.within (key_of x) (itself (key_of x)))
