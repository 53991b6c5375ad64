-- The keys of a report: they are those that were declared, and their names rise.
use Rattle.std.proofs.Common.{◌≡◌, ◌≢◌, ℕ, zero, suc, List, [], ◌∷◌, ◌++◌, map, Bool, true, false, Some, refl, sym, ap, subst, ◌∙◌, arith, ⊎_elim, ◌⊎◌}
use Rattle.std.specs.Prelude.{fold, if◌then◌else◌, slice_get, AllPairs, IsPermutation}
use Rattle.std.proofs.lemmas.Bool.{cases_Bool}
use Rattle.std.proofs.lemmas.List.{append-nil}
use Rattle.std.proofs.lemmas.List.Sorted.{IsPermutation-refl, IsPermutation-sym, IsPermutation-trans, IsPermutation-insert, IsPermutation-middle, IsPermutation-append_right}
use Rattle.model_history.specs.Texts.{Text, text_lt}
use Rattle.base_bytes.specs.TextOrder.{IsBelowAll, IsRising}
use Rattle.base_bytes.proofs.TextLaws.{lt_trans, lt_one_way, lt_or_same}
use Rattle.script_reading.specs.declared.script.ScriptKey.{ScriptKey}
use Rattle.member_node.specs.Members.{AreDistinct}
use Rattle.report_lines.specs.Run.{place_in, placed, ordered, in_order}
use Rattle.report_lines.proofs.Orders.{placed_insert, map_ordered, distinct_tail, distinct_ordered, apart_names}

-- THE SAME KEYS

module _ {X : Type 0} (name : X → Text) where
  placed_moves : (xs : List X) (x : X) → IsPermutation (x ∷ xs) (placed name xs x)
  placed_moves xs x = subst (IsPermutation (x ∷ xs)) (sym (placed_insert name xs x)) (IsPermutation-insert xs (place_in (map name xs) (name x)) x)

  fold_moves : (start xs : List X) → IsPermutation (xs ++ start) (fold (placed name) start xs)
  fold_moves start [] = IsPermutation-refl start
  fold_moves start (x ∷ xs) =
      let front = IsPermutation-sym _ _ (IsPermutation-middle xs x start) in
      let put = IsPermutation-append_right xs (x ∷ start) (placed name start x) (placed_moves start x) in
      IsPermutation-trans _ _ _ front (IsPermutation-trans _ _ _ put (fold_moves (placed name start x) xs))

  pub ordered_moves : (xs : List X) → IsPermutation xs (ordered name xs)
  ordered_moves xs = subst (λ l. IsPermutation l (ordered name xs)) (append-nil xs) (fold_moves [] xs)

-- TEXTS THAT NEVER FALL

abbrev NoneBefore : Text → List Text → Type 0
NoneBefore x [] = Unit {0}
NoneBefore x (y ∷ ys) = (text_lt y x ≡ false) × NoneBefore x ys

abbrev AreNotFalling : List Text → Type 0
AreNotFalling [] = Unit {0}
AreNotFalling (x ∷ xs) = NoneBefore x xs × AreNotFalling xs

abbrev put : List Text → Text → List Text
put = placed (λ text. text)

none_put : (w x : Text) (ys : List Text) → text_lt x w ≡ false → NoneBefore w ys → NoneBefore w (put ys x)
none_put w x [] p h = (p, tt)
none_put w x (y ∷ ys) p h = go (text_lt x y) (none_put w x ys p h.1)
  where
    go : (less : Bool) → NoneBefore w (put ys x) → NoneBefore w (if less then x ∷ y ∷ ys else y ∷ put ys x)
    go true later = (p, h)
    go false later = (h.0, later)

none_below : (x y : Text) (ys : List Text) → text_lt x y ≡ true → NoneBefore y ys → NoneBefore x ys
none_below x y [] p h = tt
none_below x y (z ∷ zs) p h = (
  ⊎_elim (λ (less : text_lt z x ≡ true). absurd (let e = sym (lt_trans z x y less p) ∙ h.0 in cc e)) (λ (not_less : text_lt z x ≡ false). not_less) (cases_Bool (text_lt z x)),
  none_below x y zs p h.1,
)

not_falling_put : (ys : List Text) (x : Text) → AreNotFalling ys → AreNotFalling (put ys x)
not_falling_put [] x h = (tt, tt)
not_falling_put (y ∷ ys) x h = go (text_lt x y) refl (not_falling_put ys x h.1)
  where
    go : (less : Bool) → text_lt x y ≡ less → AreNotFalling (put ys x) → AreNotFalling (if less then x ∷ y ∷ ys else y ∷ put ys x)
    go true before later = ((lt_one_way x y before, none_below x y ys before h.0), h)
    go false after later = (none_put y x ys after h.0, later)

not_falling : (start xs : List Text) → AreNotFalling start → AreNotFalling (fold put start xs)
not_falling start [] h = h
not_falling start (x ∷ xs) h = not_falling (put start x) xs (not_falling_put start x h)

-- TEXTS THAT DIFFER AND NEVER FALL

below_all : (x : Text) (ys : List Text) → NoneBefore x ys → ((j : ℕ) → slice_get ys j ≡ Some x → ⊥) → IsBelowAll x ys
below_all x [] h apart = tt
below_all x (y ∷ ys) h apart = (
  ⊎_elim (λ (less : text_lt x y ≡ true). less) (λ (rest : (x ≡ y) ⊎ (text_lt y x ≡ true)). ⊎_elim
      (λ (same : x ≡ y). absurd (apart zero (ap Some (sym same))))
      (λ (more : text_lt y x ≡ true). absurd (let e = sym more ∙ h.0 in cc e)) rest) (lt_or_same x y),
  below_all x ys h.1 (λ j e. apart (suc j) e),
)

rising : (xs : List Text) → AreNotFalling xs → AreDistinct xs → IsRising xs
rising [] h apart = tt
rising (x ∷ xs) h apart = (below_all x xs h.0 (λ j e. let s = apart zero (suc j) x refl e in omega (arith, s)), rising xs h.1 (distinct_tail x xs apart))

pub keys_rise : (keys : List ScriptKey) → AllPairs (λ (a b : ScriptKey). a.key ≢ b.key) keys → IsRising (map (λ (key : ScriptKey). key.key) (in_order keys))
keys_rise keys apart =
    let name = λ (key : ScriptKey). key.key in
    let names : List Text = map name keys in
    subst IsRising (sym (map_ordered name name (λ text. text) (λ key. refl) keys)) (rising (ordered (λ text. text) names) (not_falling [] names tt) (distinct_ordered names (apart_names keys apart)))
