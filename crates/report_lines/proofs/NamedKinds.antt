-- The kinds of declared keys, by their names.
use Rattle.std.proofs.Common.{◌≡◌, zero, suc, ◌<◌, List, [], ◌∷◌, length, map, get_or, Bool, true, false, Some, refl, sym, ap, ◌∙◌, arith}
use Rattle.std.specs.Prelude.{if◌then◌else◌, slice_get, option_map}
use Rattle.std.specs.Str.{bytes_eq}
use Rattle.model_history.specs.Texts.{Text}
use Rattle.model_members.proofs.Steps.{bytes_eq-same, bytes_eq-tells}
use Rattle.model_kinds.specs.declared.kind.Kind.{Kind}
use Rattle.model_kinds.specs.declared.kind.Kind.TheVariants.{GCounter}
use Rattle.member_node.specs.declared.key.KeyDecl.{KeyDecl}
use Rattle.member_node.specs.Members.{AreDistinct, AreOfKinds}
use Rattle.std.proofs.lemmas.Option.{slice_get-map, slice_get-get_or}
use Rattle.report_lines.proofs.Orders.{distinct_tail}

other_name : (x y : Text) → (x ≡ y → ⊥) → bytes_eq x y ≡ false
other_name x y other = go (bytes_eq x y) refl
  where
    go : (b : Bool) → bytes_eq x y ≡ b → b ≡ false
    go true e = absurd (other (bytes_eq-tells x y e))
    go false e = refl

module _ {T Op Delta : Type 0} where
  -- the kind of the first key of this name
  pub kind_among : List (KeyDecl T Kind Op Delta) → Text → Kind
  kind_among [] name = GCounter
  kind_among (d ∷ ds) name = if bytes_eq d.key name then d.kind else kind_among ds name

  -- keys with distinct names have the kinds that they are found with
  pub are_of_kinds : (decls : List (KeyDecl T Kind Op Delta)) → AreDistinct (map (λ (d : KeyDecl T Kind Op Delta). d.key) decls) → AreOfKinds (kind_among decls) decls
  unfolding kind_among
  are_of_kinds [] apart i x less = absurd (omega (arith, less))
  are_of_kinds (d ∷ ds) apart zero x less = ap (λ b. if b then d.kind else kind_among ds d.key) (bytes_eq-same d.key)
  are_of_kinds (d ∷ ds) apart (suc i) x less =
      let here : i < length ds = omega (arith, less) in
      let name = (get_or ds i x).key in
      let at : slice_get (map (λ (e : KeyDecl T Kind Op Delta). e.key) ds) i ≡ Some name = slice_get-map (λ (e : KeyDecl T Kind Op Delta). e.key) ds i ∙ ap (option_map (λ (e : KeyDecl T Kind Op Delta). e.key)) (slice_get-get_or ds i x here) in
      let other = other_name d.key name (λ same. let twice = apart zero (suc i) d.key refl (at ∙ ap Some (sym same)) in omega (arith, twice)) in
      ap (λ b. if b then d.kind else kind_among ds name) other ∙ are_of_kinds ds (distinct_tail d.key (map (λ (e : KeyDecl T Kind Op Delta). e.key) ds) apart) i x here
