use Rattle.std.proofs.Common.{◌≡◌, ◌+◌, List, [], length, map, take, drop, get_or, ◌++◌, refl, ap, sym, ◌∙◌, subst, arith}
use Rattle.std.proofs.lemmas.List.{length-map}
use Rattle.model_history.specs.Texts.{Text}
use Rattle.data_orset.specs.declared.dot_list.Spot.{Spot}
use Rattle.data_orset.specs.Spots.{placed_in, AreSpots, lowered}
use Rattle.data_orset.proofs.Tables.{forgot_spots, forgot_same, written}
use Rattle.data_orset.proofs.dot_list.drop_text.Goals as goal

pub returns-clause-spots : goal.returns-clause-spots
returns-clause-spots c =
    let texts : List Text = c.args.texts.now.items in
    let spots : List Spot = c.args.spots.now.items in
    let moved : c.close.new.spots ≡ map (lowered c.args.place) spots = c.close.ensures ∙ ap (map (lowered c.args.place)) c.deref_mut.ensures.value in
    let back = written c.args.spots.now.len c.close.new.spots spots (ap length moved ∙ length-map spots (lowered c.args.place)) (omega (arith, c.args.spots.now.ok)) in
    let table : c.remove.new.self.items ≡ take c.args.place texts ++ drop (c.args.place + 1) texts = c.remove.ensures.by_index.2 in
    subst (AreSpots c.remove.new.self.items) (sym (back ∙ moved))
    (subst (λ (ts : List Text). AreSpots ts (map (lowered c.args.place) spots)) (sym table) (forgot_spots texts (get_or texts c.args.place []) c.args.place spots (c.requires.within, refl) c.requires.spots c.requires.unused))

pub returns-clause-same : goal.returns-clause-same
returns-clause-same c =
    let texts : List Text = c.args.texts.now.items in
    let spots : List Spot = c.args.spots.now.items in
    let moved : c.close.new.spots ≡ map (lowered c.args.place) spots = c.close.ensures ∙ ap (map (lowered c.args.place)) c.deref_mut.ensures.value in
    let back = written c.args.spots.now.len c.close.new.spots spots (ap length moved ∙ length-map spots (lowered c.args.place)) (omega (arith, c.args.spots.now.ok)) in
    let table : c.remove.new.self.items ≡ take c.args.place texts ++ drop (c.args.place + 1) texts = c.remove.ensures.by_index.2 in
    ap (λ (ss : List Spot). map (placed_in c.remove.new.self.items) ss) (back ∙ moved) ∙ ap (λ (ts : List Text). map (placed_in ts) (map (lowered c.args.place) spots)) table
    ∙ forgot_same texts (get_or texts c.args.place []) c.args.place spots (c.requires.within, refl) c.requires.spots c.requires.unused
