-- Lists and tests: what is in a list that was filtered, mapped or joined, and what tests tell.
use Rattle.std.proofs.Common.{◌≡◌, ◌≢◌, ℕ, zero, suc, ◌<◌, List, [], ◌∷◌, ◌++◌, length, map, refl, sym, ap, subst, ◌∙◌, arith, Bool, true, false, Some, inl, inr}
use Rattle.std.specs.Prelude.{if◌then◌else◌, slice_get, filter, find, nat_lt, ◌==◌, ◌||◌, ◌&&◌, not}
use Rattle.std.specs.List.{list_any, AllByRecursion}
use Rattle.std.proofs.lemmas.Bool.Decides.{eqb_tells, nat_tests}
use Rattle.std.proofs.lemmas.Bool.{eq-eqb}
use Rattle.model_history.specs.Vector.{alone}
use Rattle.model_history.proofs.PruneLaws.{IsIn, in_tail}
use Rattle.model_members.specs.Script.{last_of}

-- TESTS

pub first_true : (a b : Bool) → (a && b) ≡ true → a ≡ true
first_true true b e = refl
first_true false b e = absurd (cc e)

pub second_true : (a b : Bool) → (a && b) ≡ true → b ≡ true
second_true true b e = e
second_true false b e = absurd (cc e)

pub both_true : (a b : Bool) → a ≡ true → b ≡ true → (a && b) ≡ true
both_true true b e f = f
both_true false b e f = absurd (cc e)

pub or_left : (a b : Bool) → a ≡ true → (a || b) ≡ true
or_left true b e = refl
or_left false b e = absurd (cc e)

pub or_right : (a b : Bool) → b ≡ true → (a || b) ≡ true
or_right true b e = refl
or_right false b e = e

pub or_more : (a b c d : Bool) → (a ≡ true → c ≡ true) → (b ≡ true → d ≡ true) → (a || b) ≡ true → (c || d) ≡ true
or_more true b c d f g e = or_left c d (f refl)
or_more false b c d f g e = or_right c d (g e)

pub not_true : (b : Bool) → not b ≡ true → b ≡ false
not_true true e = absurd (cc e)
not_true false e = refl

pub same_number : (a b : ℕ) → (a == b) ≡ true → a ≡ b
same_number a b e = elim (eqb_tells a b) [ inl is ↦ is.1 | inr isnt ↦ absurd (let f = sym e ∙ isnt.0 in cc f) ]

-- a set is a member's own
pub is_alone : (i t : ℕ) → alone i t ≡ true → t ≡ i
is_alone i t e = elim (eqb_tells t i) [ inl is ↦ is.1 | inr isnt ↦ absurd (let f = sym e ∙ isnt.0 in cc f) ]

-- WHAT IS IN A LIST

pub get_front : {X : Type 0} (xs ys : List X) (k : ℕ) (x : X) → slice_get xs k ≡ Some x → slice_get (xs ++ ys) k ≡ Some x
get_front [] ys k x e = absurd (cc e)
get_front (z ∷ xs) ys zero x e = e
get_front (z ∷ xs) ys (suc k) x e = get_front xs ys k x e

pub to_filter : {X : Type 0} (p : X → Bool) (xs : List X) (x : X) → IsIn xs x → p x ≡ true → IsIn (filter p xs) x
to_filter p [] x h e = absurd (cc h.1)
to_filter p (y ∷ xs) x (zero, is) e = let same : y ≡ x = cc is in subst (λ (b : Bool). IsIn (if b then y ∷ filter p xs else filter p xs) x) (sym (ap p same ∙ e)) (zero, is)
to_filter p (y ∷ xs) x (suc k, is) e = by_test (p y) (to_filter p xs x (k, is) e)
  where
    by_test : (b : Bool) → IsIn (filter p xs) x → IsIn (if b then y ∷ filter p xs else filter p xs) x
    by_test true h = (suc h.0, h.1)
    by_test false h = h

pub to_map : {X Y : Type 0} (f : X → Y) (xs : List X) (x : X) → IsIn xs x → IsIn (map f xs) (f x)
to_map f [] x h = absurd (cc h.1)
to_map f (y ∷ xs) x (zero, is) = let same : y ≡ x = cc is in (zero, ap (λ z. Some (f z)) same)
to_map f (y ∷ xs) x (suc k, is) = let h = to_map f xs x (k, is) in (suc h.0, h.1)

pub in_filtered : {X : Type 0} (p : X → Bool) (xs : List X) (x : X) → IsIn (filter p xs) x → IsIn xs x
in_filtered p [] x h = absurd (cc h.1)
in_filtered p (y ∷ xs) x h = go (p y) h (λ m. in_filtered p xs x m)
  where
    there : IsIn (y ∷ filter p xs) x → (IsIn (filter p xs) x → IsIn xs x) → IsIn (y ∷ xs) x
    there (zero, is) later = (zero, is)
    there (suc k, is) later = in_tail y xs x (later (k, is))

    go : (b : Bool) → IsIn (if b then y ∷ filter p xs else filter p xs) x → (IsIn (filter p xs) x → IsIn xs x) → IsIn (y ∷ xs) x
    go true m later = there m later
    go false m later = in_tail y xs x (later m)

pub in_mapped : {X Y : Type 0} (f : X → Y) (xs : List X) (y : Y) → IsIn (map f xs) y → (x : X) × IsIn xs x × (f x ≡ y)
in_mapped f [] y h = absurd (cc h.1)
in_mapped f (x ∷ xs) y (zero, e) = let same : f x ≡ y = cc e in (x, (zero, refl), same)
in_mapped f (x ∷ xs) y (suc k, e) = let r = in_mapped f xs y (k, e) in (r.0, in_tail x xs r.0 r.1, r.2)

pub find_in : {X : Type 0} (p : X → Bool) (xs : List X) (x : X) → find p xs ≡ Some x → IsIn xs x
find_in p [] x e = absurd (cc e)
find_in p (y ∷ xs) x e = go (p y) refl e (λ f. find_in p xs x f)
  where
    go : (b : Bool) → p y ≡ b → (if b then Some y else find p xs) ≡ Some x → (find p xs ≡ Some x → IsIn xs x) → IsIn (y ∷ xs) x
    go true is f later = (zero, f)
    go false is f later = in_tail y xs x (later f)

-- what is found is the only one that passes
pub find_only : {X : Type 0} (p : X → Bool) (xs : List X) (x : X) → IsIn xs x → p x ≡ true → ((y : X) → IsIn xs y → p y ≡ true → y ≡ x) → find p xs ≡ Some x
find_only p [] x h e only = absurd (cc h.1)
find_only p (y ∷ xs) x h e only = by_test (p y) refl h (λ m. find_only p xs x m e (λ z hz ez. only z (in_tail y xs z hz) ez))
  where
    there : p y ≡ false → IsIn (y ∷ xs) x → IsIn xs x
    there is (zero, f) = absurd (let same : y ≡ x = cc f in let g = sym is ∙ ap p same ∙ e in cc g)
    there is (suc k, f) = (k, f)

    by_test : (b : Bool) → p y ≡ b → IsIn (y ∷ xs) x → (IsIn xs x → find p xs ≡ Some x) → (if b then Some y else find p xs) ≡ Some x
    by_test true is m later = ap Some (only y (zero, refl) is)
    by_test false is m later = later (there is m)

pub in_front : {X : Type 0} (xs ys : List X) (x : X) → IsIn xs x → IsIn (xs ++ ys) x
in_front xs ys x h = (h.0, get_front xs ys h.0 x h.1)

pub in_end : {X : Type 0} (xs : List X) (x : X) → IsIn (xs ++ x ∷ []) x
in_end [] x = (zero, refl)
in_end (y ∷ xs) x = let h = in_end xs x in (suc h.0, h.1)

-- a list has an element that passes
pub any_in : {X : Type 0} (p : X → Bool) (xs : List X) (x : X) → IsIn xs x → p x ≡ true → list_any p xs ≡ true
any_in p [] x h e = absurd (cc h.1)
any_in p (y ∷ xs) x h e = go (p y) refl h.0 h.1 (λ m. any_in p xs x m e)
  where
    go : (b : Bool) → p y ≡ b → (k : ℕ) → slice_get (y ∷ xs) k ≡ Some x → (IsIn xs x → list_any p xs ≡ true) → (b || list_any p xs) ≡ true
    go true is k f later = refl
    go false is zero f later = absurd (let same : y ≡ x = cc f in let g = sym is ∙ ap p same ∙ e in cc g)
    go false is (suc k) f later = later (k, f)

pub in_any : (js : List ℕ) (t : ℕ) → IsIn js t → list_any (λ j. j == t) js ≡ true
in_any [] t h = absurd (cc h.1)
in_any (j ∷ js) t (zero, e) = let same : j ≡ t = cc e in ap (λ b. b || list_any (λ j. j == t) js) (eq-eqb j t same)
in_any (j ∷ js) t (suc k, e) = or_right (j == t) _ (in_any js t (k, e))

pub any_append : {X : Type 0} (p : X → Bool) (xs ys : List X) → list_any p ys ≡ true → list_any p (xs ++ ys) ≡ true
any_append p [] ys e = e
any_append p (x ∷ xs) ys e = by (p x) (any_append p xs ys e)
  where
    by : (b : Bool) → list_any p (xs ++ ys) ≡ true → (b || list_any p (xs ++ ys)) ≡ true
    by true h = refl
    by false h = h

pub any_before : {X : Type 0} (p : X → Bool) (xs ys : List X) → list_any p (xs ++ ys) ≡ false → list_any p xs ≡ false
any_before p [] ys e = refl
any_before p (x ∷ xs) ys e = by (p x) e (λ f. any_before p xs ys f)
  where
    by : (b : Bool) → (b || list_any p (xs ++ ys)) ≡ false → (list_any p (xs ++ ys) ≡ false → list_any p xs ≡ false) → (b || list_any p xs) ≡ false
    by true f later = f
    by false f later = later f

pub all_changed : {X : Type 0} (P Q : X → Type 0) → ((x : X) → P x → Q x) → (xs : List X) → AllByRecursion P xs → AllByRecursion Q xs
all_changed P Q h [] all = tt
all_changed P Q h (x ∷ xs) all = (h x all.0, all_changed P Q h xs all.1)

pub map_length : {X Y : Type 0} (f : X → Y) (xs : List X) → length (map f xs) ≡ length xs
map_length f [] = refl
map_length f (x ∷ xs) = ap suc (map_length f xs)

pub not_empty : {X : Type 0} (xs : List X) → 0 < length xs → xs ≢ []
not_empty [] h = absurd (omega arith)
not_empty (x ∷ xs) h = λ e. absurd (cc e)

pub is_empty : {X : Type 0} (xs : List X) → nat_lt 0 (length xs) ≡ false → xs ≡ []
is_empty [] h = refl
is_empty (x ∷ xs) h = absurd (let p : 0 < suc (length xs) = omega arith in grind (arith, nat_tests))

pub any_more : {X : Type 0} (p q : X → Bool) → ((x : X) → p x ≡ true → q x ≡ true) → (xs : List X) → list_any p xs ≡ true → list_any q xs ≡ true
any_more p q h [] e = e
any_more p q h (x ∷ xs) e = or_more (p x) (list_any p xs) (q x) (list_any q xs) (h x) (any_more p q h xs) e

pub last_pushed : {X : Type 0} (xs : List X) (x : X) → last_of (xs ++ x ∷ []) ≡ Some x
last_pushed [] x = refl
last_pushed (y ∷ []) x = refl
last_pushed (y ∷ z ∷ xs) x = last_pushed (z ∷ xs) x

pub all_first : {X : Type 0} (P : X → Type 0) (xs ys : List X) → AllByRecursion P (xs ++ ys) → AllByRecursion P xs
all_first P [] ys all = tt
all_first P (x ∷ xs) ys all = (all.0, all_first P xs ys all.1)

pub all_last : {X : Type 0} (P : X → Type 0) (xs ys : List X) → AllByRecursion P (xs ++ ys) → AllByRecursion P ys
all_last P [] ys all = all
all_last P (x ∷ xs) ys all = all_last P xs ys all.1
