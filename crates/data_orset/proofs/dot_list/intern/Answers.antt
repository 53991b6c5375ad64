use Rattle.std.proofs.Common.{◌≡◌, List, length, map, ap, sym, ◌∙◌, subst, arith}
use Rattle.std.specs.List.{insert}
use Rattle.std.proofs.lemmas.List.{length-map}
use Rattle.model_history.specs.Texts.{Text}
use Rattle.data_growing.specs.Texts.{IsPlace}
use Rattle.data_orset.specs.declared.dot_list.Spot.{Spot}
use Rattle.data_orset.specs.Spots.{placed_in, AreSpots, shifted}
use Rattle.data_orset.proofs.Tables.{spots_after, same_after, written}
use Rattle.data_orset.proofs.dot_list.intern.Goals as goal

pub returns-in_ok-insert-in-Err-clause-spots : goal.returns-in_ok-insert-in-Err-clause-spots
returns-in_ok-insert-in-Err-clause-spots c =
    let texts : List Text = c.args.texts.now.items in
    let spots : List Spot = c.args.spots.now.items in
    let place : IsPlace texts c.args.element.now c.in-Err.place = subst (λ (ts : List Text). IsPlace ts c.args.element.now c.in-Err.place) c.deref.ensures.value c.in-Err.ensures in
    let moved : c.make_room.new.spots ≡ map (shifted c.in-Err.place) spots = c.make_room.ensures ∙ ap (map (shifted c.in-Err.place)) c.deref_mut.ensures.value in
    let back = written c.args.spots.now.len c.make_room.new.spots spots (ap length moved ∙ length-map spots (shifted c.in-Err.place)) (omega (arith, c.args.spots.now.ok)) in
    let table : c.insert.new.self.items ≡ insert texts c.in-Err.place c.args.element.now = c.in_ok-insert-in-Err.ensures.items ∙ ap (insert texts c.in-Err.place) c.copied.ensures in
    subst (AreSpots c.insert.new.self.items) (sym (back ∙ moved))
    (subst (λ (ts : List Text). AreSpots ts (map (shifted c.in-Err.place) spots)) (sym table) (spots_after texts c.in-Err.place c.args.element.now spots place c.requires))

pub returns-in_ok-insert-in-Err-clause-same : goal.returns-in_ok-insert-in-Err-clause-same
returns-in_ok-insert-in-Err-clause-same c =
    let texts : List Text = c.args.texts.now.items in
    let spots : List Spot = c.args.spots.now.items in
    let place : IsPlace texts c.args.element.now c.in-Err.place = subst (λ (ts : List Text). IsPlace ts c.args.element.now c.in-Err.place) c.deref.ensures.value c.in-Err.ensures in
    let moved : c.make_room.new.spots ≡ map (shifted c.in-Err.place) spots = c.make_room.ensures ∙ ap (map (shifted c.in-Err.place)) c.deref_mut.ensures.value in
    let back = written c.args.spots.now.len c.make_room.new.spots spots (ap length moved ∙ length-map spots (shifted c.in-Err.place)) (omega (arith, c.args.spots.now.ok)) in
    let table : c.insert.new.self.items ≡ insert texts c.in-Err.place c.args.element.now = c.in_ok-insert-in-Err.ensures.items ∙ ap (insert texts c.in-Err.place) c.copied.ensures in
    ap (λ (ss : List Spot). map (placed_in c.insert.new.self.items) ss) (back ∙ moved) ∙ ap (λ (ts : List Text). map (placed_in ts) (map (shifted c.in-Err.place) spots)) table
    ∙ same_after texts c.in-Err.place c.args.element.now spots place c.requires
