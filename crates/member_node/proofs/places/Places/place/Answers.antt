use Rattle.std.proofs.Common.{◌≡◌, ℕ, List, [], ◌∷◌, Bool, true, false, Option, Some, None, position, bytes_eq, refl, sym, ap, ◌∙◌, arith}
use Rattle.member_node.proofs.Common.{Text, KeyState, AreDistinctKeys, bytes_eq-tells}
use Rattle.member_node.proofs.Lists.{position-found, position-none}
use Rattle.member_node.proofs.Restorings.{all_fail, names_apart}
use Rattle.member_node.specs.Keys.{IsKeyAt}
use Rattle.member_node.proofs.places.Places.place.Goals as goal

-- a key of this name is the one that a walk finds
walked_to : {T Kind Op Delta : Type 0} (keys : List (KeyState T Kind Op Delta)) (d : KeyState T Kind Op Delta) → AreDistinctKeys keys → (name : Text) (place : ℕ) → IsKeyAt keys name place
    → (walked : Option ℕ) → walked ≡ position (λ state. bytes_eq state.name name) keys → Some place ≡ walked
walked_to keys d distinct name place at None none =
    let no : true ≡ false = sym (at.named d) ∙ all_fail (λ state. bytes_eq state.name name) keys place d (position-none (λ state. bytes_eq state.name name) keys none) at.within in
    absurd (cc no)
walked_to keys d distinct name place at (Some other) some =
    let found = position-found (λ state. bytes_eq state.name name) keys other some in
    ap Some (names_apart keys distinct place other d d at.within found.within (bytes_eq-tells _ _ (at.named d) ∙ sym (bytes_eq-tells _ _ (found.passes d))))

stands_there : {T Kind Op Delta : Type 0} (keys : List (KeyState T Kind Op Delta)) → AreDistinctKeys keys → (name : Text) (place : ℕ) → IsKeyAt keys name place → Some place ≡ position (λ state. bytes_eq state.name name) keys
stands_there [] distinct name place at = absurd (let within = at.within in omega arith)
stands_there (d ∷ rest) distinct name place at = walked_to (d ∷ rest) d distinct name place at (position (λ state. bytes_eq state.name name) (d ∷ rest)) refl

pub returns-in-Some : goal.returns-in-Some
returns-in-Some g c = stands_there c.args.keys.now c.requires.distinct c.args.key.now c.in-Some.place c.in-Some.ensures
