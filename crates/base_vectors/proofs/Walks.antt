-- Going over the identities, from 0 up.
use Rattle.std.proofs.Common.{nat_lt, Option, Some, None, find, ◌≤◌, cond, List, not, inl, inr, ◌≡◌, ℕ, zero, suc, ◌+◌, ◌-◌, ◌<◌, Bool, true, false, ◌&&◌, ◌||◌, [], ◌∷◌, ◌++◌, arith, refl, ap, sym, ◌∙◌, ⊎_elim}
use Rattle.std.specs.List.{range_with_len, list_any, list_all, filter_map, cons_option}
use Rattle.std.proofs.lemmas.Bool.{cases_eq, cases_Bool, or_left, or_right, and_from, lt-ltb, le-ltb, and_parts}
use Rattle.std.proofs.lemmas.List.{append-nil}
use Rattle.std.proofs.lemmas.List.Folds.{list_any-append, list_all-append}
use Rattle.std.proofs.lemmas.List.Elements.{filter_map-append}
use mathlib.Core.Bool.{or-false, and-true}
use Rattle.model_history.specs.Vector.{VersionVector, first_lacking}
use Rattle.model_history.specs.Table.{identity_limit, identities}

pub range_more : (first n : ℕ) → range_with_len first (n + 1) ≡ range_with_len first n ++ (first + n) ∷ []
range_more first zero = let e : first ≡ first + 0 = omega arith in ap (λ m. m ∷ []) e
range_more first (suc n) =
    let a : suc n + 1 ≡ suc (n + 1) = omega arith in
    let b : first + 1 + n ≡ first + suc n = omega arith in
    rw a (ap (λ xs. first ∷ xs) (range_more (first + 1) n ∙ ap (λ m. range_with_len (first + 1) n ++ m ∷ []) b))

-- the numbers from 0 on, one more
pub counted_more : (n : ℕ) → range_with_len 0 (n + 1) ≡ range_with_len 0 n ++ n ∷ []
counted_more n = let e : 0 + n ≡ n = omega arith in range_more 0 n ∙ ap (λ m. range_with_len 0 n ++ m ∷ []) e

-- one more identity passed
pub any_more : (test : ℕ → Bool) (n : ℕ) → list_any test (range_with_len 0 (n + 1)) ≡ (list_any test (range_with_len 0 n) || test n)
any_more test n =
    ap (list_any test) (counted_more n) ∙ list_any-append test (range_with_len 0 n) (n ∷ []) ∙ ap (λ b. list_any test (range_with_len 0 n) || b) (or-false (test n))

pub all_more : (test : ℕ → Bool) (n : ℕ) → list_all test (range_with_len 0 (n + 1)) ≡ (list_all test (range_with_len 0 n) && test n)
all_more test n =
    ap (list_all test) (counted_more n) ∙ list_all-append test (range_with_len 0 n) (n ∷ []) ∙ ap (λ b. list_all test (range_with_len 0 n) && b) (and-true (test n))

pub all_below : (test : ℕ → Bool) (n : ℕ) → ((i : ℕ) → i < n → test i ≡ true) → list_all test (range_with_len 0 n) ≡ true
all_below test zero holds = refl
all_below test (suc n) holds =
    let e : suc n ≡ n + 1 = omega arith in
    ap (λ m. list_all test (range_with_len 0 m)) e ∙ all_more test n ∙ and_from _ _ (all_below test n (λ i l. holds i (omega arith))) (holds n (omega arith))

pub each_below : (test : ℕ → Bool) (n : ℕ) → list_all test (range_with_len 0 n) ≡ true → (i : ℕ) → i < n → test i ≡ true
each_below test zero all i l = absurd (omega arith)
each_below test (suc n) all i l =
    let e : suc n ≡ n + 1 = omega arith in
    let both : (list_all test (range_with_len 0 n) && test n) ≡ true = sym (ap (λ m. list_all test (range_with_len 0 m)) e ∙ all_more test n) ∙ all in
    ⊎_elim (λ (same : i ≡ n). ap test same ∙ (and_parts _ _ both).1) (λ ne. each_below test n (and_parts _ _ both).0 i (omega arith)) (cases_eq i n)

-- every identity passes
pub all_identities : (test : ℕ → Bool) → ((i : ℕ) → i < identity_limit → test i ≡ true) → list_all test identities ≡ true
all_identities test holds = all_below test identity_limit holds

pub each_identity : (test : ℕ → Bool) → list_all test identities ≡ true → (i : ℕ) → i < identity_limit → test i ≡ true
each_identity test all i l = each_below test identity_limit all i l

pub any_below : (test : ℕ → Bool) (n i : ℕ) → i < n → test i ≡ true → list_any test (range_with_len 0 n) ≡ true
any_below test zero i l holds = absurd (omega arith)
any_below test (suc n) i l holds =
    let e : suc n ≡ n + 1 = omega arith in
    ap (λ m. list_any test (range_with_len 0 m)) e ∙ any_more test n
    ∙ ⊎_elim (λ (same : i ≡ n). or_right _ _ (ap test (sym same) ∙ holds)) (λ ne. or_left _ _ (any_below test n i (omega arith) holds)) (cases_eq i n)

-- some identity passes
pub any_identity : (test : ℕ → Bool) (i : ℕ) → i < identity_limit → test i ≡ true → list_any test identities ≡ true
any_identity test i l holds = any_below test identity_limit i l holds

-- some identity fails
pub not_all_identities : (test : ℕ → Bool) (i : ℕ) → i < identity_limit → test i ≡ false → list_all test identities ≡ false
not_all_identities test i l fails = elim (cases_Bool (list_all test identities)) [
  | inl all ↦ absurd (let x : true ≡ false = sym (each_identity test all i l) ∙ fails in cc)
  | inr some ↦ some
]

-- all pass one test where none passes the other
pub all_or_any : (test other : ℕ → Bool) → ((i : ℕ) → test i ≡ not (other i)) → (xs : List ℕ) → list_all test xs ≡ not (list_any other xs)
all_or_any test other same [] = refl
all_or_any test other same (x ∷ xs) = ap (λ b. b && list_all test xs) (same x) ∙ ap (λ b. not (other x) && b) (all_or_any test other same xs) ∙ neither (other x) (list_any other xs)
  where
    neither : (b c : Bool) → (not b && not c) ≡ not (b || c)
    neither true c = refl
    neither false c = refl

pub none_more : (test : ℕ → Bool) (n : ℕ) → list_any test (range_with_len 0 n) ≡ false → test n ≡ false → list_any test (range_with_len 0 (n + 1)) ≡ false
none_more test n none fails = any_more test n ∙ ap (λ b. b || test n) none ∙ fails

pub all_one_more : (test : ℕ → Bool) (n : ℕ) → list_all test (range_with_len 0 n) ≡ true → test n ≡ true → list_all test (range_with_len 0 (n + 1)) ≡ true
all_one_more test n all holds = all_more test n ∙ ap (λ b. b && test n) all ∙ holds

-- every identity was passed
pub any_at_end : (test : ℕ → Bool) (n : ℕ) → n ≡ identity_limit → list_any test (range_with_len 0 n) ≡ list_any test identities
any_at_end test n e = ap (λ k. list_any test (range_with_len 0 k)) e

pub all_at_end : (test : ℕ → Bool) (n : ℕ) → n ≡ identity_limit → list_all test (range_with_len 0 n) ≡ list_all test identities
all_at_end test n e = ap (λ k. list_all test (range_with_len 0 k)) e

find_from : (test : ℕ → Bool) (first n i : ℕ) → first ≤ i → i < first + n → test i ≡ true → ((j : ℕ) → j < i → test j ≡ false) → find test (range_with_len first n) ≡ Some i
find_from test first zero i l m holds others = absurd (omega arith)
find_from test first (suc n) i l m holds others = ⊎_elim
    (λ (e : first ≡ i). ap (λ b. cond b (Some first) (find test (range_with_len (first + 1) n))) (ap test e ∙ holds) ∙ ap Some e)
    (λ ne. let before : first < i = omega arith in
    ap (λ b. cond b (Some first) (find test (range_with_len (first + 1) n))) (others first before) ∙ find_from test (first + 1) n i (omega arith) (omega arith) holds others) (cases_eq first i)

find_nothing : (test : ℕ → Bool) (first n : ℕ) → ((i : ℕ) → i < first + n → test i ≡ false) → find test (range_with_len first n) ≡ None
find_nothing test first zero fails = refl
find_nothing test first (suc n) fails =
    ap (λ b. cond b (Some first) (find test (range_with_len (first + 1) n))) (fails first (omega arith)) ∙ find_nothing test (first + 1) n (λ i l. fails i (omega arith))

-- the least identity that passes
pub find_first : (test : ℕ → Bool) (i : ℕ) → i < identity_limit → test i ≡ true → ((j : ℕ) → j < i → test j ≡ false) → find test identities ≡ Some i
find_first test i l holds others = find_from test 0 identity_limit i (omega arith) (omega arith) holds others

pub find_none : (test : ℕ → Bool) → ((i : ℕ) → i < identity_limit → test i ≡ false) → find test identities ≡ None
find_none test fails = find_nothing test 0 identity_limit (λ i l. fails i (omega arith))

-- the least identity that lacks, as a search finds it
pub lacking_first : (vector needs : VersionVector) (id : ℕ) → id < identity_limit → vector id < needs id → ((j : ℕ) → j < id → needs j ≤ vector j) → first_lacking vector needs ≡ Some id
lacking_first vector needs id l lacks others = find_first (λ i. nat_lt (vector i) (needs i)) id l (lt-ltb (vector id) (needs id) lacks) (λ j m. le-ltb (vector j) (needs j) (others j m))

pub lacking_none : (vector needs : VersionVector) → ((i : ℕ) → i < identity_limit → needs i ≤ vector i) → first_lacking vector needs ≡ None
lacking_none vector needs covers = find_none (λ i. nat_lt (vector i) (needs i)) (λ i l. le-ltb (vector i) (needs i) (covers i l))

-- A WALK THAT ENDS BEFORE THE LAST IDENTITY, where nothing follows

past : (n more : ℕ) → n + suc more ≡ n + more + 1
past n more = omega arith

filter_map_past : {X : Type 0} (f : ℕ → Option X) (n more : ℕ) → ((i : ℕ) → n ≤ i → f i ≡ None) → filter_map f (range_with_len 0 (n + more)) ≡ filter_map f (range_with_len 0 n)
filter_map_past f n zero none = let e : n + 0 ≡ n = omega arith in ap (λ m. filter_map f (range_with_len 0 m)) e
filter_map_past f n (suc more) none =
    ap (λ m. filter_map f (range_with_len 0 m)) (past n more) ∙ ap (filter_map f) (counted_more (n + more)) ∙ filter_map-append f (range_with_len 0 (n + more)) ((n + more) ∷ [])
    ∙ ap (λ o. filter_map f (range_with_len 0 (n + more)) ++ cons_option o []) (none (n + more) (omega arith)) ∙ append-nil (filter_map f (range_with_len 0 (n + more))) ∙ filter_map_past f n more none

any_past : (test : ℕ → Bool) (n more : ℕ) → ((i : ℕ) → n ≤ i → test i ≡ false) → list_any test (range_with_len 0 (n + more)) ≡ list_any test (range_with_len 0 n)
any_past test n zero none = let e : n + 0 ≡ n = omega arith in ap (λ m. list_any test (range_with_len 0 m)) e
any_past test n (suc more) none =
    ap (λ m. list_any test (range_with_len 0 m)) (past n more) ∙ any_more test (n + more)
    ∙ ap (λ b. list_any test (range_with_len 0 (n + more)) || b) (none (n + more) (omega arith)) ∙ or-false (list_any test (range_with_len 0 (n + more))) ∙ any_past test n more none

all_past : (test : ℕ → Bool) (n more : ℕ) → ((i : ℕ) → n ≤ i → test i ≡ true) → list_all test (range_with_len 0 (n + more)) ≡ list_all test (range_with_len 0 n)
all_past test n zero holds = let e : n + 0 ≡ n = omega arith in ap (λ m. list_all test (range_with_len 0 m)) e
all_past test n (suc more) holds =
    ap (λ m. list_all test (range_with_len 0 m)) (past n more) ∙ all_more test (n + more)
    ∙ ap (λ b. list_all test (range_with_len 0 (n + more)) && b) (holds (n + more) (omega arith)) ∙ and-true (list_all test (range_with_len 0 (n + more))) ∙ all_past test n more holds

pub filter_map_end : {X : Type 0} (f : ℕ → Option X) (n : ℕ) → n ≤ identity_limit → ((i : ℕ) → n ≤ i → f i ≡ None) → filter_map f (range_with_len 0 n) ≡ filter_map f identities
filter_map_end f n few none = let e : n + (identity_limit - n) ≡ identity_limit = omega arith in
    sym (filter_map_past f n (identity_limit - n) none) ∙ ap (λ m. filter_map f (range_with_len 0 m)) e

pub any_end : (test : ℕ → Bool) (n : ℕ) → n ≤ identity_limit → ((i : ℕ) → n ≤ i → test i ≡ false) → list_any test (range_with_len 0 n) ≡ list_any test identities
any_end test n few none = let e : n + (identity_limit - n) ≡ identity_limit = omega arith in
    sym (any_past test n (identity_limit - n) none) ∙ ap (λ m. list_any test (range_with_len 0 m)) e

pub all_end : (test : ℕ → Bool) (n : ℕ) → n ≤ identity_limit → ((i : ℕ) → n ≤ i → test i ≡ true) → list_all test (range_with_len 0 n) ≡ list_all test identities
all_end test n few holds = let e : n + (identity_limit - n) ≡ identity_limit = omega arith in
    sym (all_past test n (identity_limit - n) holds) ∙ ap (λ m. list_all test (range_with_len 0 m)) e
