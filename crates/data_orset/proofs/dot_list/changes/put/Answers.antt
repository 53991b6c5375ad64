use Rattle.std.proofs.Common.{◌≡◌, ◌<◌, ◌++◌, List, [], ◌∷◌, length, take, drop, get_or, true, refl, subst, sym, ap, ◌∙◌}
use Rattle.model_history.specs.Texts.{Text}
use Rattle.data_orset.specs.declared.dot_list.Spot.{Spot}
use Rattle.data_orset.specs.Placing.{Placed, at_dot, AreDots}
use Rattle.data_orset.specs.Keeping.{AreMerged}
use Rattle.data_orset.specs.Spots.{dots_in, AreInOrder, IsGap}
use Rattle.data_orset.proofs.OneDot.{IsGapOf, put_one, put_again}
use Rattle.data_orset.proofs.Tables.{placed_put}
use Rattle.data_orset.proofs.SpotOrder.{spots_in_order, stands_for, stands_at, within_dots, gap_of}
use Rattle.data_orset.proofs.dot_list.changes.put.Goals as goal

pub find_spot-requires : goal.find_spot-requires
find_spot-requires c =
    subst AreInOrder (sym c.deref.ensures.value)
    (spots_in_order c.intern.new.texts.items c.intern.new.spots.items c.in_ok-place.ensures.spots (subst AreDots (sym c.in_ok-place.ensures.same) c.requires.dots))

pub returns-in-Ok-clause-ok : goal.returns-in-Ok-clause-ok
returns-in-Ok-clause-ok c =
    let texts : List Text = c.intern.new.texts.items in
    let spots : List Spot = c.intern.new.spots.items in
    let spot : Spot = record { place = c.in_ok-place.place; dot = c.args.dot.now } in
    let x : Placed = at_dot c.args.dot.now c.args.element.now in
    let at = subst (λ (ss : List Spot). (c.in-Ok.field-0 < length ss) × (spot ≡ get_or ss c.in-Ok.field-0 spot)) c.deref.ensures.value c.in-Ok.ensures in
    subst (λ (ps : List Placed). AreMerged true (λ _. true) (λ _. true) ps (x ∷ []) (dots_in texts spots)) c.in_ok-place.ensures.same
    (put_again (dots_in texts spots) x c.in-Ok.field-0 (subst AreDots (sym c.in_ok-place.ensures.same) c.requires.dots) (within_dots texts spots c.in-Ok.field-0 at.0)
    (stands_at texts spots spot c.args.element.now c.in-Ok.field-0 c.in_ok-place.ensures.place.1 at))

pub returns-in_ok-insert-in-Err-clause-ok : goal.returns-in_ok-insert-in-Err-clause-ok
returns-in_ok-insert-in-Err-clause-ok c =
    let texts : List Text = c.intern.new.texts.items in
    let spots : List Spot = c.intern.new.spots.items in
    let spot : Spot = record { place = c.in_ok-place.place; dot = c.args.dot.now } in
    let x : Placed = at_dot c.args.dot.now c.args.element.now in
    let ps : List Placed = dots_in texts spots in
    let named = stands_for texts spot c.args.element.now c.in_ok-place.ensures.place.1 in
    let gap = subst (λ (ss : List Spot). IsGap ss spot c.in-Err.index) c.deref.ensures.value c.in-Err.ensures in
    let here = subst (λ p. IsGapOf ps p c.in-Err.index) named (gap_of texts spots spot c.in-Err.index c.in_ok-place.ensures.spots c.in_ok-place.ensures.place.0 gap) in
    let new : dots_in texts c.insert.new.self.items ≡ take c.in-Err.index ps ++ x ∷ drop c.in-Err.index ps =
    ap (dots_in texts) c.in_ok-insert-in-Err.ensures.items ∙ placed_put texts spots ps c.in-Err.index c.in-Err.index spot refl ∙ ap (λ (p : Placed). take c.in-Err.index ps ++ p ∷ drop c.in-Err.index ps) named in
    subst (λ (qs : List Placed). AreMerged true (λ _. true) (λ _. true) qs (x ∷ []) (dots_in texts c.insert.new.self.items)) c.in_ok-place.ensures.same
    (subst (AreMerged true (λ _. true) (λ _. true) ps (x ∷ [])) (sym new) (put_one ps x c.in-Err.index c.requires.seq (subst AreDots (sym c.in_ok-place.ensures.same) c.requires.dots) here))
