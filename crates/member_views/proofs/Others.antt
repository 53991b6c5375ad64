-- The members but one.
use Rattle.std.proofs.Common.{◌≡◌, ◌≢◌, ℕ, suc, ◌+◌, ◌<◌, ◌==◌, ◌||◌, Bool, true, false, not, List, [], ◌∷◌, length, map, filter, find, refl, ap, sym, subst, ◌∙◌, cond, arith}
use Rattle.std.specs.Prelude.{Some, All, AllPairs}
use Rattle.std.specs.List.{list_any}
use Rattle.std.proofs.lemmas.Bool.Decides.{nat_tests}
use Rattle.std.proofs.lemmas.List.Elements.{All-filter, All-cons, All-head, All-tail}
use Rattle.member_views.specs.Views.{Member}

abbrev pub is_other : ℕ → Member → Bool
is_other i m = not (m.identity == i)

abbrev pub Rise : List Member → Type 0
Rise = AllPairs (λ (a b : Member). a.identity < b.identity)

abbrev pub StandApart : List Member → Type 0
StandApart = AllPairs (λ (a b : Member). a.place ≢ b.place)

module _ {X : Type 0} (R : X → X → Type 0) (x : X) (xs : List X) (h : AllPairs R (x ∷ xs)) where
  pub pairs_head : All (R x) xs
  pairs_head k d within = h 0 (suc k) d (omega arith) (omega arith)

  pub pairs_tail : AllPairs R xs
  pairs_tail i j d lt within = h (suc i) (suc j) d (omega arith) (omega arith)

-- a filter that every element passes
filter_all : {X : Type 0} (p : X → Bool) (xs : List X) → All (λ x. p x ≡ true) xs → filter p xs ≡ xs
filter_all p [] h = refl
filter_all p (x ∷ xs) h =
    ap (λ b. cond b (x ∷ filter p xs) (filter p xs)) (All-head (λ y. p y ≡ true) x xs h) ∙ ap (λ ys. x ∷ ys) (filter_all p xs (All-tail (λ y. p y ≡ true) x xs h))

above_differs : (i j k : ℕ) → (j == i) ≡ true → j < k → not (k == i) ≡ true
above_differs i j k is less = grind (arith, nat_tests)

-- who comes after a member is another
later_are_others : (i : ℕ) (m : Member) (ms : List Member) → (m.identity == i) ≡ true → All (λ (n : Member). m.identity < n.identity) ms → filter (is_other i) ms ≡ ms
later_are_others i m ms is h = filter_all (is_other i) ms (λ k d within. above_differs i m.identity _ is (h k d within))

-- one is a member, so the others are one fewer
pub length_others : (i : ℕ) (ms : List Member) → Rise ms → list_any (λ j. j == i) (map (λ (m : Member). m.identity) ms) ≡ true → length (filter (is_other i) ms) + 1 ≡ length ms
length_others i [] rise is = absurd (cc is)
length_others i (m ∷ ms) rise is =
    go (m.identity == i) refl (length_others i ms (pairs_tail (λ (a b : Member). a.identity < b.identity) m ms rise)) is
  where
    later : (m.identity == i) ≡ true → length (filter (is_other i) ms) ≡ length ms
    later here = ap length (later_are_others i m ms here (pairs_head (λ (a b : Member). a.identity < b.identity) m ms rise))

    go : (b : Bool) → (m.identity == i) ≡ b → (list_any (λ j. j == i) (map (λ (n : Member). n.identity) ms) ≡ true → length (filter (is_other i) ms) + 1 ≡ length ms)
        → (b || list_any (λ j. j == i) (map (λ (n : Member). n.identity) ms)) ≡ true → length (cond (not b) (m ∷ filter (is_other i) ms) (filter (is_other i) ms)) + 1 ≡ suc (length ms)
    go true here among found = omega (arith, later here)
    go false here among found = omega (arith, among found)

-- what is looked up is one of the list
pub All-find : {X : Type 0} (P : X → Type 0) (p : X → Bool) (xs : List X) (y : X) → find p xs ≡ Some y → All P xs → P y
All-find P p [] y is h = absurd (cc is)
All-find P p (x ∷ xs) y is h = go (p x) (λ found. All-find P p xs y found (All-tail P x xs h)) is
  where
    go : (b : Bool) → (find p xs ≡ Some y → P y) → cond b (Some x) (find p xs) ≡ Some y → P y
    go true rest found = subst P (cc found) (All-head P x xs h)
    go false rest found = rest found

-- a member is found
pub found_member : (i : ℕ) (ms : List Member) → list_any (λ j. j == i) (map (λ (m : Member). m.identity) ms) ≡ true → (m : Member) × (find (λ (m : Member). m.identity == i) ms ≡ Some m)
found_member i [] is = absurd (cc is)
found_member i (m ∷ ms) is = go (m.identity == i) (found_member i ms) is
  where
    go : (b : Bool) → (list_any (λ j. j == i) (map (λ (n : Member). n.identity) ms) ≡ true → (n : Member) × (find (λ (n : Member). n.identity == i) ms ≡ Some n))
        → (b || list_any (λ j. j == i) (map (λ (n : Member). n.identity) ms)) ≡ true → (n : Member) × (cond b (Some m) (find (λ (n : Member). n.identity == i) ms) ≡ Some n)
    go true rest found = (m, refl)
    go false rest found = rest found

abbrev RunsElsewhere : Member → Member → Type 0
RunsElsewhere found m = m.place ≢ found.place

-- none of the others runs at the place of the one that is found
pub others_run_elsewhere : (i : ℕ) (ms : List Member) (found : Member) → StandApart ms → find (λ (m : Member). m.identity == i) ms ≡ Some found → All (RunsElsewhere found) (filter (is_other i) ms)
others_run_elsewhere i [] found apart is = absurd (cc is)
others_run_elsewhere i (m ∷ ms) found apart is =
    go (m.identity == i) (others_run_elsewhere i ms found (pairs_tail (λ (a b : Member). a.place ≢ b.place) m ms apart)) is
  where
    first : All (λ (n : Member). m.place ≢ n.place) ms
    first = pairs_head (λ (a b : Member). a.place ≢ b.place) m ms apart

    go : (b : Bool) → (find (λ (n : Member). n.identity == i) ms ≡ Some found → All (RunsElsewhere found) (filter (is_other i) ms))
        → cond b (Some m) (find (λ (n : Member). n.identity == i) ms) ≡ Some found → All (RunsElsewhere found) (cond (not b) (m ∷ filter (is_other i) ms) (filter (is_other i) ms))
    go true rest here = let same : m ≡ found = cc here in
        All-filter (is_other i) (RunsElsewhere found) ms (λ k d within at. first k d within (ap (λ (x : Member). x.place) same ∙ sym at))
    go false rest among = All-cons (RunsElsewhere found) m (filter (is_other i) ms) (All-find (λ (n : Member). m.place ≢ n.place) (λ (n : Member). n.identity == i) ms found among first) (rest among)
