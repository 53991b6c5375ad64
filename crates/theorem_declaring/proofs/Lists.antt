-- What looks through a part of a list finds what it would in all of it, where it passes over what was left out.
--     filter_part, any_part, flat_part, find_part        so it is for each way to look
--     find_none, found, filter_none        what a search finds
--     filter_twice, all_filtered        what a filter keeps
use Rattle.std.proofs.Common.{◌≡◌, List, [], ◌∷◌, ◌++◌, refl, sym, ap, ◌∙◌, Bool, true, false, ◌||◌, Some, None, inl, inr, map, filter, find, flat_map, if◌then◌else◌}
use Rattle.std.specs.List.{list_any, list_all}
use Rattle.std.proofs.lemmas.Bool.{cases_Bool, or_parts, and_from}

pub find_none : {X : Type 0} (test : X → Bool) (xs : List X) → list_any test xs ≡ false → find test xs ≡ None
find_none test [] none = refl
find_none test (x ∷ xs) none =
    let parts = or_parts (test x) (list_any test xs) none in
    rw parts.0 (find_none test xs parts.1)

pub found : {X : Type 0} (test : X → Bool) (xs : List X) (x : X) → find test xs ≡ Some x → test x ≡ true
found test [] x is = absurd (cc is)
found test (y ∷ ys) x is = elim (cases_Bool (test y)) [
  | inl here ↦ let e = rw here at is in let same : y ≡ x = cc e in ap test (sym same) ∙ here
  | inr other ↦ found test ys x (rw other at is)
]

pub filter_none : {X Y : Type 0} (test : Y → Bool) (h : X → Y) → ((x : X) → test (h x) ≡ false) → (xs : List X) → filter test (map h xs) ≡ []
filter_none test h none [] = refl
filter_none test h none (x ∷ xs) = rw (none x) (filter_none test h none xs)

pub all_pass : {X : Type 0} (test : X → Bool) → ((x : X) → test x ≡ true) → (xs : List X) → list_all test xs ≡ true
all_pass test pass [] = refl
all_pass test pass (x ∷ xs) = and_from (test x) (list_all test xs) (pass x) (all_pass test pass xs)

-- what a filter keeps, it keeps again
pub filter_twice : {X : Type 0} (test : X → Bool) (xs : List X) → filter test xs ≡ filter test (filter test xs)
filter_twice test [] = refl
filter_twice test (x ∷ xs) = elim (cases_Bool (test x)) [
  | inl kept ↦ rw kept (rw kept (ap (λ ys. x ∷ ys) (filter_twice test xs)))
  | inr out ↦ rw out (filter_twice test xs)
]

pub all_filtered : {X : Type 0} (test : X → Bool) (xs : List X) → list_all test (filter test xs) ≡ true
all_filtered test [] = refl
all_filtered test (x ∷ xs) = elim (cases_Bool (test x)) [
  | inl kept ↦ rw kept (and_from (test x) (list_all test (filter test xs)) kept (all_filtered test xs))
  | inr out ↦ rw out (all_filtered test xs)
]

module _ {X Y : Type 0} (kept : X → Bool) (h : X → Y) where
  pub filter_part : (test : Y → Bool) → ((x : X) → kept x ≡ false → test (h x) ≡ false) → (xs : List X) → filter test (map h (filter kept xs)) ≡ filter test (map h xs)
  filter_part test none [] = refl
  filter_part test none (x ∷ xs) = elim (cases_Bool (kept x)) [
    | inl is ↦ rw is (ap (λ ys. if test (h x) then h x ∷ ys else ys) (filter_part test none xs))
    | inr out ↦ rw (out, none x out) (filter_part test none xs)
  ]

  pub any_part : (test : Y → Bool) → ((x : X) → kept x ≡ false → test (h x) ≡ false) → (xs : List X) → list_any test (map h (filter kept xs)) ≡ list_any test (map h xs)
  any_part test none [] = refl
  any_part test none (x ∷ xs) = elim (cases_Bool (kept x)) [
    | inl is ↦ rw is (ap (λ b. test (h x) || b) (any_part test none xs))
    | inr out ↦ rw (out, none x out) (any_part test none xs)
  ]

  pub flat_part : {A : Type 0} (f : Y → List A) → ((x : X) → kept x ≡ false → f (h x) ≡ []) → (xs : List X) → flat_map f (map h (filter kept xs)) ≡ flat_map f (map h xs)
  flat_part f none [] = refl
  flat_part f none (x ∷ xs) = elim (cases_Bool (kept x)) [
    | inl is ↦ rw is (ap (λ items. f (h x) ++ items) (flat_part f none xs))
    | inr out ↦ rw (out, none x out) (flat_part f none xs)
  ]

pub find_part : {X : Type 0} (kept test : X → Bool) → ((x : X) → kept x ≡ false → test x ≡ false) → (xs : List X) → find test (filter kept xs) ≡ find test xs
find_part kept test none [] = refl
find_part kept test none (x ∷ xs) = elim (cases_Bool (kept x)) [
  | inl is ↦ rw is (ap (λ o. if test x then Some x else o) (find_part kept test none xs))
  | inr out ↦ rw (out, none x out) (find_part kept test none xs)
]

pub none_kept : {X : Type 0} (test : X → Bool) → ((x : X) → test x ≡ false) → (xs : List X) → filter test xs ≡ []
none_kept test none [] = refl
none_kept test none (x ∷ xs) = rw (none x) (none_kept test none xs)
