-- Lists of keys, and parts of them.
--     whole_is_part        all keys are a part of all
--     none_found        an unknown key
--     asks_more        with one more key a member asks for known ones still
--     rising_distinct        names that rise are distinct
use Rattle.std.proofs.Common.{◌≡◌, ℕ, zero, suc, List, [], ◌∷◌, refl, sym, ap, subst, ◌∙◌, Bool, true, false, Some, None, filter, find, if◌then◌else◌, bytes_eq}
use Rattle.std.specs.Prelude.{◌||◌, IsTrue, IsFalse, slice_get}
use Rattle.std.specs.List.{list_all}
use Rattle.base_bytes.specs.TextOrder.{IsBelowAll, IsRising}
use Rattle.base_bytes.proofs.TextLaws.{lt_never}
use Rattle.model_history.specs.Texts.{Text, text_lt}
use Rattle.model_members.specs.Node.{KeyDecl, Node, OpenOperation, with_key}
use Rattle.model_members.proofs.Steps.{bytes_eq-same}
use Rattle.member_node.specs.Keys.{AreDistinct}
use Rattle.theorem_declaring.specs.Parts.{knows, IsPart}
use Rattle.theorem_declaring.proofs.Growing.{knows_with_key}
use Rattle.theorem_processes.specs.Keys.{AsksOnly}
use Rattle.theorem_operations.proofs.Lists.{first_true, second_true, both_true, or_left, or_right}

-- LISTS

module _ {X : Type 0} (p : X → Bool) where
  pub filter_all : (xs : List X) → list_all p xs ≡ true → filter p xs ≡ xs
  filter_all [] e = refl
  filter_all (x ∷ xs) e = ap (λ (b : Bool). if b then x ∷ filter p xs else filter p xs) (first_true (p x) (list_all p xs) e) ∙ ap (λ (ys : List X). x ∷ ys) (filter_all xs (second_true (p x) (list_all p xs) e))

  all_more : (q : X → Bool) → ((x : X) → p x ≡ true → q x ≡ true) → (xs : List X) → list_all p xs ≡ true → list_all q xs ≡ true
  all_more q more [] e = refl
  all_more q more (x ∷ xs) e = both_true (q x) (list_all q xs) (more x (first_true (p x) (list_all p xs) e)) (all_more q more xs (second_true (p x) (list_all p xs) e))

-- KEYS

module _ {Kind : Type 0} where
  all_named : (keys part : List (KeyDecl Kind)) → ((name : Text) → IsTrue (knows part name) → IsTrue (knows keys name)) → list_all (λ (decl : KeyDecl Kind). knows keys decl.name) part ≡ true
  all_named keys [] has = refl
  all_named keys (decl ∷ part) has =
      both_true (knows keys decl.name) (list_all (λ (d : KeyDecl Kind). knows keys d.name) part) (has decl.name (or_left (bytes_eq decl.name decl.name) (knows part decl.name) (bytes_eq-same decl.name)))
      (all_named keys part (λ name there. has name (or_right (bytes_eq decl.name name) (knows part name) there)))

  pub whole_is_part : (keys : List (KeyDecl Kind)) → IsPart keys keys
  whole_is_part keys = sym (filter_all (λ (decl : KeyDecl Kind). knows keys decl.name) keys (all_named keys keys (λ name there. there)))

  pub none_found : (keys : List (KeyDecl Kind)) (key : Text) → find (λ (decl : KeyDecl Kind). bytes_eq decl.name key) keys ≡ None → IsFalse (knows keys key)
  none_found [] key none = refl
  none_found (decl ∷ keys) key none = by (bytes_eq decl.name key) none (none_found keys key)
    where
      by : (b : Bool) → (if b then Some decl else find (λ (d : KeyDecl Kind). bytes_eq d.name key) keys) ≡ None → (find (λ (d : KeyDecl Kind). bytes_eq d.name key) keys ≡ None → IsFalse (knows keys key)) → (b || knows keys key) ≡ false
      by true here later = absurd (cc here)
      by false here later = later here

  pub asks_more : {Op Shown : Type 0} (keys : List (KeyDecl Kind)) (new : KeyDecl Kind) (node : Node Kind Op Shown) → AsksOnly keys node → AsksOnly (with_key new keys) node
  asks_more keys new node asks =
      all_more (λ (o : OpenOperation). knows keys o.key) (λ (o : OpenOperation). knows (with_key new keys) o.key) (λ o there. knows_with_key new keys o.key ∙ or_right (bytes_eq new.name o.key) (knows keys o.key) there) node.open_operations asks

-- NAMES

below_at : (x : Text) (ys : List Text) (k : ℕ) (y : Text) → IsBelowAll x ys → slice_get ys k ≡ Some y → IsTrue (text_lt x y)
below_at x [] k y below e = absurd (cc e)
below_at x (z ∷ ys) zero y below e = let same : z ≡ y = cc e in subst (λ (t : Text). IsTrue (text_lt x t)) same below.0
below_at x (z ∷ ys) (suc k) y below e = below_at x ys k y below.1 e

never_below : (x y : Text) (ys : List Text) (k : ℕ) → IsBelowAll x ys → Some x ≡ Some y → slice_get ys k ≡ Some y → ⊥
never_below x y ys k below e f = let same : x ≡ y = cc e in let less = below_at x ys k y below f in let both = sym (subst (λ (t : Text). IsTrue (text_lt t y)) same less) ∙ lt_never y in cc both

pub rising_distinct : (names : List Text) → IsRising names → AreDistinct names
rising_distinct [] rising i j name e f = absurd (cc e)
rising_distinct (x ∷ xs) rising zero zero name e f = refl
rising_distinct (x ∷ xs) rising zero (suc j) name e f = absurd (never_below x name xs j rising.0 e f)
rising_distinct (x ∷ xs) rising (suc i) zero name e f = absurd (never_below x name xs i rising.0 f e)
rising_distinct (x ∷ xs) rising (suc i) (suc j) name e f = ap suc (rising_distinct xs rising.1 i j name e f)
