-- Keys of which no two have one name.
use Rattle.std.proofs.Common.{◌≡◌, ℕ, suc, ◌+◌, ◌<◌, List, [], ◌∷◌, map, take, length, Bool, true, false, Option, None, Some, refl, sym, ap, subst, ◌∙◌, arith, inl, inr}
use Rattle.std.specs.Prelude.{slice_get}
use Rattle.std.specs.List.{list_any}
use Rattle.std.specs.Str.{bytes_eq}
use Rattle.std.specs.Option.{option_map}
use Rattle.std.proofs.lemmas.Bool.{cases_lt}
use Rattle.std.proofs.lemmas.Option.{slice_get-map, slice_get_within, get_or_from_slice_get}
use Rattle.std.proofs.lemmas.List.Folds.{list_any_at}
use Rattle.model_history.specs.Texts.{Text}
use Rattle.model_history.proofs.HistoryLaws.{slice_get-take}
use Rattle.model_history.proofs.PartLaws.{slice_get-taken}
use Rattle.base_bytes.proofs.TextLaws.{texts_eq, eq_texts}
use Rattle.member_node.specs.Members.{AreDistinct}
use Rattle.member_embedding.specs.Names.{AreDistinctBelow}

module _ {X : Type 0} (p : X → Bool) where
  -- an element that passes the test
  pub record Passes (xs : List X) : Type 0 where
    pub index : ℕ
    pub item : X
    pub there : slice_get xs index ≡ Some item
    pub passes : p item ≡ true

  pub passing : (xs : List X) → list_any p xs ≡ true → Passes xs
  passing [] is = absurd (cc is)
  passing (x ∷ xs) is =
      elim (p x) as (λ b. p x ≡ b → Passes (x ∷ xs)) [
        | true ↦ (λ passed. record { index = 0; item = x; there = refl; passes = passed })
        | false ↦ (λ failed. let later = passing xs (cc (failed, is)) in record { index = suc later.index; item = later.item; there = later.there; passes = later.passes })
      ] refl

  list_any-from-slice : (xs : List X) (i : ℕ) (x : X) → slice_get xs i ≡ Some x → p x ≡ true → list_any p xs ≡ true
  list_any-from-slice xs i x there passed = list_any_at p xs i x (slice_get_within xs i x there) (ap p (get_or_from_slice_get xs i x x there) ∙ passed)

module _ {X : Type 0} (name : X → Text) where
  -- the element of a name
  named : (xs : List X) (i : ℕ) (this : Text) → slice_get (map name xs) i ≡ Some this → (x : X) × (slice_get xs i ≡ Some x) × (name x ≡ this)
  named xs i this at_i = from (slice_get xs i) refl
    where
      from : (o : Option X) → slice_get xs i ≡ o → (x : X) × (slice_get xs i ≡ Some x) × (name x ≡ this)
      from None is = absurd (cc (at_i, slice_get-map name xs i, ap (option_map name) is))
      from (Some x) is = (x, is, cc (at_i, slice_get-map name xs i, ap (option_map name) is))

  -- whether an element has this name
  abbrev has_name : Text → X → Bool
  has_name this x = bytes_eq (name x) this

  pub none_below : (xs : List X) → AreDistinctBelow name 0 xs
  none_below xs i j x y few = let none : ⊥ = omega arith in absurd none

  -- a name that is not among those before it
  new_at : (xs : List X) (k j : ℕ) (x y : X) → slice_get xs k ≡ Some x → j < k → slice_get xs j ≡ Some y → list_any (has_name (name x)) (take k xs) ≡ false → name x ≡ name y → ⊥
  new_at xs k j x y here before there none same =
      let among = list_any-from-slice (has_name (name x)) (take k xs) j y (slice_get-taken xs k j before ∙ there) (ap (λ n. bytes_eq n (name x)) (sym same) ∙ texts_eq (name x)) in
      absurd (cc (none, among))

  pub one_more : (xs : List X) (k : ℕ) (x : X) → slice_get xs k ≡ Some x → list_any (has_name (name x)) (take k xs) ≡ false → AreDistinctBelow name k xs → AreDistinctBelow name (k + 1) xs
  one_more xs k z here none before i j x y i_in j_in at_i at_j same =
      elim (cases_lt i k) [
        | inl i_below ↦ elim (cases_lt j k) [
          | inl j_below ↦ before i j x y i_below j_below at_i at_j same
          | inr j_last ↦ (let j_is : j ≡ k = omega arith in
              let y_is : z ≡ y = cc (here, subst (λ m. slice_get xs m ≡ Some y) j_is at_j) in
              absurd (new_at xs k i z x here i_below at_i none (ap name y_is ∙ sym same)))
        ]
        | inr i_last ↦ elim (cases_lt j k) [
          | inl j_below ↦ (let i_is : i ≡ k = omega arith in
              let x_is : z ≡ x = cc (here, subst (λ m. slice_get xs m ≡ Some x) i_is at_i) in
              absurd (new_at xs k j z y here j_below at_j none (ap name x_is ∙ same)))
          | inr j_last ↦ (omega arith)
        ]
      ]

  -- all of them
  pub distinct_all : (xs : List X) → AreDistinctBelow name (length xs) xs → AreDistinct (map name xs)
  distinct_all xs below i j this at_i at_j =
      let a = named xs i this at_i in
      let b = named xs j this at_j in
      below i j a.0 b.0 (slice_get_within xs i a.0 a.1) (slice_get_within xs j b.0 b.1) a.1 b.1 (a.2 ∙ sym b.2)

  -- one stands twice
  pub twice : (xs : List X) (k : ℕ) (x : X) → slice_get xs k ≡ Some x → list_any (has_name (name x)) (take k xs) ≡ true → AreDistinct (map name xs) → ⊥
  twice xs k x here among distinct =
      let found = passing (has_name (name x)) (take k xs) among in
      let there = slice_get-take xs k found.index found.item found.there in
      let same : name found.item ≡ name x = eq_texts (name found.item) (name x) found.passes in
      let equal : found.index ≡ k = distinct found.index k (name x)
      (slice_get-map name xs found.index ∙ ap (option_map name) there.1 ∙ ap Some same) (slice_get-map name xs k ∙ ap (option_map name) here) in
      let before = there.0 in omega arith
