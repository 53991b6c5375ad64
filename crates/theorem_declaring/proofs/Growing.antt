-- One more key in its place among those declared before.
--     nothing_is_part        at first none is declared
--     knows_with_key, grown        the new one is known then; the member uses only these and that one
use Rattle.std.proofs.Common.{◌≡◌, ℕ, zero, suc, List, [], ◌∷◌, refl, sym, ap, ◌∙◌, subst, Bool, true, false, ◌||◌, Some, inl, inr, map, filter, if◌then◌else◌, slice_get}
use Rattle.std.specs.Str.{bytes_eq}
use Rattle.std.proofs.lemmas.Bool.{cases_Bool, or_parts}
use Rattle.std.proofs.lemmas.List.Elements.{filter_agree}
use Rattle.model_history.specs.Texts.{Text, text_lt}
use Rattle.model_members.specs.Node.{KeyDecl, with_key, Node}
use Rattle.base_bytes.specs.TextOrder.{IsBelowAll, IsRising}
use Rattle.base_bytes.proofs.TextLaws.{lt_one_way, lt_differ, lt_differ_too, texts_eq}
use Rattle.theorem_declaring.specs.Parts.{knows, IsPart, UsesOnly}
use Rattle.theorem_declaring.proofs.Lists.{none_kept}

module _ {Kind : Type 0} (new : KeyDecl Kind) where
  abbrev names : List (KeyDecl Kind) → List Text
  names keys = map (λ (decl : KeyDecl Kind). decl.name) keys

  -- it is known then, and the others are as before
  pub knows_with_key : (keys : List (KeyDecl Kind)) (name : Text) → knows (with_key new keys) name ≡ (bytes_eq new.name name || knows keys name)
  knows_with_key [] name = refl
  knows_with_key (decl ∷ decls) name = elim (cases_Bool (text_lt new.name decl.name)) [
    | inl before ↦ rw before refl
    | inr after ↦ rw after (ap (λ b. bytes_eq decl.name name || b) (knows_with_key decls name) ∙ swapped (bytes_eq decl.name name) (bytes_eq new.name name) (knows decls name))
  ]
    where
      swapped : (a b c : Bool) → (a || (b || c)) ≡ (b || (a || c))
      swapped true true c = refl
      swapped true false c = refl
      swapped false b c = refl

  module _ (kept : KeyDecl Kind → Bool) where
    -- what is kept with the new one
    abbrev kept_too : KeyDecl Kind → Bool
    kept_too decl = bytes_eq new.name decl.name || kept decl

    -- behind the new key all stays
    kept_behind : (keys : List (KeyDecl Kind)) → IsBelowAll new.name (names keys) → filter kept_too keys ≡ filter kept keys
    kept_behind [] below = refl
    kept_behind (decl ∷ decls) below = rw (lt_differ new.name decl.name below.0) (ap (λ (ks : List (KeyDecl Kind)). if kept decl then decl ∷ ks else ks) (kept_behind decls below.1))

    -- it comes before all that are behind it
    put_first : (keys : List (KeyDecl Kind)) → IsBelowAll new.name (names keys) → with_key new (filter kept keys) ≡ new ∷ filter kept keys
    put_first [] below = refl
    put_first (decl ∷ decls) below = elim (cases_Bool (kept decl)) [
      | inl is ↦ rw is (rw below.0 refl)
      | inr out ↦ rw out (put_first decls below.1)
    ]

    -- a key among others that come behind this one
    is_behind : (first : Text) (keys : List (KeyDecl Kind)) (k : ℕ) → IsBelowAll first (names keys) → slice_get keys k ≡ Some new → text_lt first new.name ≡ true
    is_behind first [] k below has = absurd (cc has)
    is_behind first (decl ∷ decls) zero below has = let same : decl ≡ new = cc has in subst (λ (d : KeyDecl Kind). text_lt first d.name ≡ true) same below.0
    is_behind first (decl ∷ decls) (suc k) below has = is_behind first decls k below.1 has

    put_is : (keys : List (KeyDecl Kind)) (k : ℕ) → IsRising (names keys) → slice_get keys k ≡ Some new → kept new ≡ false → with_key new (filter kept keys) ≡ filter kept_too keys
    put_is [] k rising has out = absurd (cc has)
    put_is (decl ∷ decls) zero rising has out =
        let same : decl ≡ new = cc has in
        let below = subst (λ (d : KeyDecl Kind). IsBelowAll d.name (names decls)) same rising.0 in
        rw (same, out, texts_eq new.name) (put_first decls below ∙ ap (λ (ks : List (KeyDecl Kind)). new ∷ ks) (sym (kept_behind decls below)))
    put_is (decl ∷ decls) (suc k) rising has out =
        let before = is_behind decl.name decls k rising.0 has in
        let later = put_is decls k rising.1 has out in
        rw (lt_differ_too decl.name new.name before) (elim (cases_Bool (kept decl)) [
          | inl is ↦ rw is (rw (lt_one_way decl.name new.name before) (ap (λ (ks : List (KeyDecl Kind)). decl ∷ ks) later))
          | inr not_kept ↦ rw not_kept later
        ])

pub nothing_is_part : {Kind : Type 0} (all : List (KeyDecl Kind)) → IsPart [] all
nothing_is_part all = sym (none_kept (λ decl. false) (λ decl. refl) all)

pub grown_part : {Kind : Type 0} (part all : List (KeyDecl Kind)) (new : KeyDecl Kind) (k : ℕ) → IsPart part all → IsRising (map (λ (decl : KeyDecl Kind). decl.name) all) → slice_get all k ≡ Some new → knows part new.name ≡ false → IsPart (with_key new part) all
grown_part {Kind} part all new k is_part rising has unknown =
    ap (with_key new) is_part ∙ put_is new (λ (decl : KeyDecl Kind). knows part decl.name) all k rising has unknown
    ∙ filter_agree (λ (decl : KeyDecl Kind). bytes_eq new.name decl.name || knows part decl.name) (λ (decl : KeyDecl Kind). knows (with_key new part) decl.name) (λ decl. sym (knows_with_key new part decl.name)) all

pub grown : {Kind Op Shown : Type 0} (part : List (KeyDecl Kind)) (node : Node Kind Op Shown) (new : KeyDecl Kind) (k : ℕ) → UsesOnly part node → IsRising (map (λ (decl : KeyDecl Kind). decl.name) node.keys) → slice_get node.keys k ≡ Some new → knows part new.name ≡ false → UsesOnly (with_key new part) node
grown part node new k uses rising has unknown =
    record {
      is_part = grown_part part node.keys new k uses.is_part rising has unknown;
      no_others = λ key still. uses.no_others key (or_parts (bytes_eq new.name key) (knows part key) (sym (knows_with_key new part key) ∙ still)).1;
    }
