use Rattle.std.proofs.Common.{◌≡◌, ◌<◌, List, [], ◌∷◌, length, get_or, true, false, subst, sym}
use Rattle.model_history.specs.Texts.{Text}
use Rattle.data_growing.specs.Texts.{IsPlace}
use Rattle.data_orset.specs.declared.dot_list.Spot.{Spot}
use Rattle.data_orset.specs.Placing.{Placed, at_dot}
use Rattle.data_orset.specs.Keeping.{AreMerged}
use Rattle.data_orset.specs.Spots.{dots_in, AreInOrder, IsGap}
use Rattle.data_orset.proofs.OneDot.{IsGapOf, absent_gap, take_one, take_none}
use Rattle.data_orset.proofs.SetsOfDots.{is_at, one_at}
use Rattle.data_orset.proofs.SpotOrder.{spots_in_order, stands_for, stands_at, within_dots, gap_of, absent_text}
use Rattle.data_orset.proofs.dot_list.changes.take_out.Goals as goal

pub find_spot-requires : goal.find_spot-requires
find_spot-requires c = subst AreInOrder (sym c.deref-in-Ok.ensures.value) (spots_in_order c.args.texts.now.items c.args.spots.now.items c.requires.spots c.requires.dots)

pub returns-in-Ok-find_spot-clause-left : goal.returns-in-Ok-find_spot-clause-left
returns-in-Ok-find_spot-clause-left c =
    let texts : List Text = c.args.texts.now.items in
    let spots : List Spot = c.args.spots.now.items in
    let spot : Spot = record { place = c.in-Ok.place; dot = c.args.dot.now } in
    let is = subst (λ (ts : List Text). (c.in-Ok.place < length ts) × (get_or ts c.in-Ok.place [] ≡ c.args.element.now)) c.deref.ensures.value c.in-Ok.ensures in
    let at = subst (λ (ss : List Spot). (c.in-Ok-find_spot.index < length ss) × (spot ≡ get_or ss c.in-Ok-find_spot.index spot)) c.deref-in-Ok.ensures.value c.in-Ok-find_spot.ensures in
    subst (AreMerged false (λ _. true) (λ _. false) (dots_in texts spots) (at_dot c.args.dot.now c.args.element.now ∷ [])) (sym c.drop_spot.ensures.rest)
    (take_one (dots_in texts spots) (at_dot c.args.dot.now c.args.element.now) c.in-Ok-find_spot.index c.requires.dots (within_dots texts spots c.in-Ok-find_spot.index at.0)
    (stands_at texts spots spot c.args.element.now c.in-Ok-find_spot.index is.1 at))

pub returns-in_default-find_spot-clause-left : goal.returns-in_default-find_spot-clause-left
returns-in_default-find_spot-clause-left c =
    let texts : List Text = c.args.texts.now.items in
    let spots : List Spot = c.args.spots.now.items in
    let spot : Spot = record { place = c.in-Ok.place; dot = c.args.dot.now } in
    let x : Placed = at_dot c.args.dot.now c.args.element.now in
    let is = subst (λ (ts : List Text). (c.in-Ok.place < length ts) × (get_or ts c.in-Ok.place [] ≡ c.args.element.now)) c.deref.ensures.value c.in-Ok.ensures in
    let gap = subst (λ (ss : List Spot). IsGap ss spot c.in_default-find_spot.field-0) c.deref-in-Ok.ensures.value c.in_default-find_spot.ensures in
    let here = subst (λ p. IsGapOf (dots_in texts spots) p c.in_default-find_spot.field-0) (stands_for texts spot c.args.element.now is.1) (gap_of texts spots spot c.in_default-find_spot.field-0 c.requires.spots is.0 gap) in
    take_none (dots_in texts spots) x c.requires.dots (λ k there. absent_gap (is_at k) (one_at k) x there (dots_in texts spots) c.in_default-find_spot.field-0 here)

pub returns-in_default-clause-left : goal.returns-in_default-clause-left
returns-in_default-clause-left c =
    let texts : List Text = c.args.texts.now.items in
    let spots : List Spot = c.args.spots.now.items in
    let x : Placed = at_dot c.args.dot.now c.args.element.now in
    let place = subst (λ (ts : List Text). IsPlace ts c.args.element.now c.in_default.field-0) c.deref.ensures.value c.in_default.ensures in
    take_none (dots_in texts spots) x c.requires.dots (absent_text texts spots x place.absent c.requires.spots.within)
