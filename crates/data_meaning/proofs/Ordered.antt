-- A list of a history's records that is sorted by origin and number is the history's own.
--     Rises        of any two elements the first has the lesser origin, or the same and no greater number
--     same_order        two lists that rise and have the same elements are the same
--     in_order_means        records of a history that were sorted by origin and number are the history's own list
use Rattle.std.proofs.Common.{◌≡◌, ℕ, zero, suc, ◌+◌, ◌-◌, ◌<◌, ◌≤◌, ◌⊎◌, inl, inr, List, [], ◌∷◌, ◌++◌, length, map, Bool, true, false, cond, ◌&&◌, refl, ap, sym, ◌∙◌, subst, arith, get_or, flat_map}
use Rattle.std.specs.Prelude.{◌==◌, nat_lt, sum_by, slice_get, Some}
use Rattle.std.specs.List.{AllByRecursion, range_with_len}
use Rattle.std.specs.List.Sorted.{IsPermutation, IsSortedByKey}
use Rattle.std.specs.Ordering.{nat_cmp, ordering_then, is_lt}
use Rattle.std.specs.declared.cmp.Ordering.TheVariants.{Less, Equal, Greater}
use Rattle.std.proofs.lemmas.Bool.Decides.{nat_tests}
use Rattle.std.proofs.lemmas.List.Elements.{All-from_recursion, recursion_from_All}
use Rattle.std.proofs.lemmas.List.Sorted.{All-permutation, sum_by-IsPermutation, IsPermutation-map, IsPermutation-sym, IsPermutation-trans}
use Rattle.std.proofs.lemmas.List.Sums.{sum_by-cons}
use Rattle.model_history.specs.Table.{identity_limit}
use Rattle.model_history.specs.History.{Record as Meant, Stamped, History, stamped_from, all_records}
use Rattle.model_kinds.specs.declared.operation.Op.{Op}
use Rattle.data_meaning.specs.declared.record.Record.{Record}
use Rattle.data_meaning.specs.Records.{stamped}

abbrev S : Type 0
S = Stamped Op

-- x comes before y, or has its key
abbrev NotAfter : S → S → Type 0
NotAfter x y = (x.origin < y.origin) ⊎ ((x.origin ≡ y.origin) × (x.number ≤ y.number))

-- the key comes before that of x
abbrev Before : ℕ → ℕ → S → Type 0
Before o n x = (o < x.origin) ⊎ ((o ≡ x.origin) × (n < x.number))

abbrev pub Rises : List S → Type 0
Rises [] = Unit {0}
Rises (x ∷ xs) = AllByRecursion (NotAfter x) xs × Rises xs

abbrev here : ℕ → ℕ → S → ℕ
here o n x = cond ((x.origin == o) && (x.number == n)) 1 0

weaken : (P Q : S → Type 0) → ((x : S) → P x → Q x) → (xs : List S) → AllByRecursion P xs → AllByRecursion Q xs
weaken P Q f [] h = tt
weaken P Q f (x ∷ xs) h = (f x h.0, weaken P Q f xs h.1)

is_here : (x : S) → here x.origin x.number x ≡ 1
is_here x =
    let o : (x.origin == x.origin) ≡ true = grind (arith, nat_tests) in
    let n : (x.number == x.number) ≡ true = grind (arith, nat_tests) in
    ap (λ b. cond (b && (x.number == x.number)) 1 0) o ∙ ap (λ b. cond b 1 0) n

not_here : (o n : ℕ) (x : S) → Before o n x → here o n x ≡ 0
not_here o n x (inl less) = let other : (x.origin == o) ≡ false = grind (arith, nat_tests) in ap (λ b. cond (b && (x.number == n)) 1 0) other
not_here o n x (inr less) =
    let other : (x.number == n) ≡ false = grind (arith, nat_tests) in
    ap (λ b. cond ((x.origin == o) && b) 1 0) other ∙ neither (x.origin == o)
  where
    count : Bool → ℕ
    count b = cond b 1 0

    neither : (b : Bool) → count (b && false) ≡ 0
    neither true = refl
    neither false = refl

absent : (o n : ℕ) (xs : List S) → AllByRecursion (Before o n) xs → sum_by (here o n) xs ≡ 0
absent o n [] h = refl
absent o n (x ∷ xs) h = let rest = absent o n xs h.1 in let this = not_here o n x h.0 in omega (arith, sum_by-cons (here o n) x xs)

later : (o n : ℕ) (x y : S) → Before o n x → NotAfter x y → Before o n y
later o n x y (inl a) (inl b) = inl (omega arith)
later o n x y (inl a) (inr b) = inl (omega arith)
later o n x y (inr a) (inl b) = inl (omega arith)
later o n x y (inr a) (inr b) = inr (omega arith, omega arith)

all_later : (o n : ℕ) (x : S) (xs : List S) → Before o n x → Rises (x ∷ xs) → AllByRecursion (Before o n) (x ∷ xs)
all_later o n x xs before rises = (before, weaken (NotAfter x) (Before o n) (λ y. later o n x y before) xs rises.0)

which : (x y : S) → Before x.origin x.number y ⊎ (((x.origin ≡ y.origin) × (x.number ≡ y.number)) ⊎ Before y.origin y.number x)
which x y = by_origin (nat_lt x.origin y.origin) (x.origin == y.origin) refl refl
  where
    by_number : x.origin ≡ y.origin → (b c : Bool) → nat_lt x.number y.number ≡ b → (x.number == y.number) ≡ c → Before x.origin x.number y ⊎ (((x.origin ≡ y.origin) × (x.number ≡ y.number)) ⊎ Before y.origin y.number x)
    by_number o true c e f = inl (inr (o, grind (arith, nat_tests)))
    by_number o false true e f = inr (inl (o, grind (arith, nat_tests)))
    by_number o false false e f = inr (inr (inr (sym o, grind (arith, nat_tests))))

    by_origin : (b c : Bool) → nat_lt x.origin y.origin ≡ b → (x.origin == y.origin) ≡ c → Before x.origin x.number y ⊎ (((x.origin ≡ y.origin) × (x.number ≡ y.number)) ⊎ Before y.origin y.number x)
    by_origin true c e f = inl (inl (grind (arith, nat_tests)))
    by_origin false true e f = by_number (grind (arith, nat_tests)) (nat_lt x.number y.number) (x.number == y.number) refl refl
    by_origin false false e f = inr (inr (inl (grind (arith, nat_tests))))

-- a key that is counted in one list stands in the other
not_behind : (x : S) (xs ys : List S) → AllByRecursion (Before x.origin x.number) ys → ((o n : ℕ) → sum_by (here o n) (x ∷ xs) ≡ sum_by (here o n) ys) → ⊥
not_behind x xs ys before counts =
    let none = absent x.origin x.number ys before in
    let one = is_here x in
    let same = counts x.origin x.number in
    omega (arith, sum_by-cons (here x.origin x.number) x xs)

module _ (Known : S → Type 0) (once : (x y : S) → Known x → Known y → x.origin ≡ y.origin → x.number ≡ y.number → x ≡ y) where
  pub same_order : (xs ys : List S) → Rises xs → Rises ys → AllByRecursion Known xs → AllByRecursion Known ys → ((o n : ℕ) → sum_by (here o n) xs ≡ sum_by (here o n) ys) → xs ≡ ys
  same_order [] [] up also known there counts = refl
  same_order (x ∷ xs) [] up also known there counts = absurd (not_behind x xs [] tt counts)
  same_order [] (y ∷ ys) up also known there counts = absurd (not_behind y ys [] tt (λ o n. sym (counts o n)))
  same_order (x ∷ xs) (y ∷ ys) up also known there counts = elim (which x y) [
    | inl less ↦ absurd (not_behind x xs (y ∷ ys) (all_later x.origin x.number y ys less also) counts)
    | inr other ↦ elim other [
      | inr more ↦ absurd (not_behind y ys (x ∷ xs) (all_later y.origin y.number x xs more up) (λ o n. sym (counts o n)))
      | inl key ↦
          let is = once x y known.0 there.0 key.0 key.1 in
          let rest = same_order xs ys up.1 also.1 known.1 there.1 (λ o n.
          let first = ap (here o n) is in
          let both = counts o n in
          omega (arith, sum_by-cons (here o n) x xs, sum_by-cons (here o n) y ys)) in
          λ i. is i ∷ rest i
    ]
  ]

-- WHAT A SORT GIVES

not_less : (a b c d : ℕ) → is_lt (ordering_then (nat_cmp a b) (nat_cmp c d)) ≡ false → (b < a) ⊎ ((b ≡ a) × (d ≤ c))
not_less a b c d = by_first (nat_lt a b) (a == b) refl refl
  where
    by_second : b ≡ a → (p q : Bool) → nat_lt c d ≡ p → (c == d) ≡ q → is_lt (cond p Less (cond q Equal Greater)) ≡ false → (b < a) ⊎ ((b ≡ a) × (d ≤ c))
    by_second same true q e f h = absurd (cc h)
    by_second same false q e f h = inr (same, grind (arith, nat_tests))

    by_first : (p q : Bool) → nat_lt a b ≡ p → (a == b) ≡ q → is_lt (ordering_then (cond p Less (cond q Equal Greater)) (nat_cmp c d)) ≡ false → (b < a) ⊎ ((b ≡ a) × (d ≤ c))
    by_first true q e f h = absurd (cc h)
    by_first false true e f h = by_second (grind (arith, nat_tests)) (nat_lt c d) (c == d) refl refl h
    by_first false false e f h = inl (grind (arith, nat_tests))

-- each is not after the next
abbrev Steps : List S → Type 0
Steps [] = Unit {0}
Steps (x ∷ []) = Unit {0}
Steps (x ∷ y ∷ ys) = NotAfter x y × Steps (y ∷ ys)

onward : (x y z : S) → NotAfter x y → NotAfter y z → NotAfter x z
onward x y z (inl a) (inl b) = inl (omega arith)
onward x y z (inl a) (inr b) = inl (omega arith)
onward x y z (inr a) (inl b) = inl (omega arith)
onward x y z (inr a) (inr b) = inr (omega arith, omega arith)

far : (x : S) (xs : List S) → Steps (x ∷ xs) → AllByRecursion (NotAfter x) xs
far x [] h = tt
far x (y ∷ ys) h = (h.0, weaken (NotAfter y) (NotAfter x) (λ z. onward x y z h.0) ys (far y ys h.1))

rises_by_steps : (xs : List S) → Steps xs → Rises xs
rises_by_steps [] h = tt
rises_by_steps (x ∷ []) h = (tt, tt)
rises_by_steps (x ∷ y ∷ ys) h = (far x (y ∷ ys) h, rises_by_steps (y ∷ ys) h.1)

abbrev pub Sorted : List Record → Type 0
Sorted xs = IsSortedByKey {K = ℕ × ℕ} (λ (r : Record). (r.origin, r.number)) (λ a b. ordering_then (nat_cmp a.0 b.0) (nat_cmp a.1 b.1)) xs

steps_of : (xs : List Record) → Sorted xs → Steps (map stamped xs)
steps_of [] up = tt
steps_of (x ∷ []) up = tt
steps_of (x ∷ y ∷ ys) up =
    let l : 0 + 1 < length (x ∷ y ∷ ys) = omega arith in (
      not_less y.origin x.origin y.number x.number (up 0 x (omega arith) l),
      steps_of (y ∷ ys) (λ k d a b.
          let next : (suc k) + 1 ≡ suc (k + 1) = omega arith in
          let in_range : suc k + 1 < length (x ∷ y ∷ ys) = omega arith in
          subst (λ n. is_lt (ordering_then (nat_cmp (get_or (x ∷ y ∷ ys) n d).origin (get_or (y ∷ ys) k d).origin) (nat_cmp (get_or (x ∷ y ∷ ys) n d).number (get_or (y ∷ ys) k d).number)) ≡ false) next (up (suc k) d (omega arith) in_range)),
    )

-- THE RECORDS OF A HISTORY

rises_append : (xs ys : List S) → Rises xs → Rises ys → AllByRecursion (λ x. AllByRecursion (NotAfter x) ys) xs → Rises (xs ++ ys)
rises_append [] ys up also between = also
rises_append (x ∷ xs) ys up also between = (both xs up.0, rises_append xs ys up.1 also between.1)
  where
    both : (zs : List S) → AllByRecursion (NotAfter x) zs → AllByRecursion (NotAfter x) (zs ++ ys)
    both [] h = between.0
    both (z ∷ zs) h = (h.0, both zs h.1)

all_append : (P : S → Type 0) (xs ys : List S) → AllByRecursion P xs → AllByRecursion P ys → AllByRecursion P (xs ++ ys)
all_append P [] ys h g = g
all_append P (x ∷ xs) ys h g = (h.0, all_append P xs ys h.1 g)

abbrev OfRow : ℕ → ℕ → S → Type 0
OfRow i n x = (x.origin ≡ i) × (n ≤ x.number)

row : (i n : ℕ) (rs : List (Meant Op)) → AllByRecursion (OfRow i n) (stamped_from i n rs)
row i n [] = tt
row i n (r ∷ rs) = ((refl, omega arith), weaken (OfRow i (suc n)) (OfRow i n) (λ x h. (h.0, omega arith)) (stamped_from i (suc n) rs) (row i (suc n) rs))

row_rises : (i n : ℕ) (rs : List (Meant Op)) → Rises (stamped_from i n rs)
row_rises i n [] = tt
row_rises i n (r ∷ rs) = (
  weaken (OfRow i (suc n)) (NotAfter (record { origin = i; number = n; action = r.action; past = r.past })) (λ x h. inr (sym h.0, omega arith)) (stamped_from i (suc n) rs) (row i (suc n) rs),
  row_rises i (suc n) rs,
)

module _ (H : History Op) where
  abbrev Stands : S → Type 0
  Stands x = slice_get (H x.origin) (x.number - 1) ≡ Some (record { action = x.action; past = x.past })

  row_stands : (i n : ℕ) (rs : List (Meant Op)) → ((k : ℕ) (r : Meant Op) → slice_get rs k ≡ Some r → slice_get (H i) (n + k) ≡ Some r) → AllByRecursion Stands (stamped_from i (suc n) rs)
  row_stands i n [] at = tt
  row_stands i n (r ∷ rs) at = (
    let first : n + 0 ≡ suc n - 1 = omega arith in subst (λ k. slice_get (H i) k ≡ Some r) first (at 0 r refl),
    row_stands i (suc n) rs (λ k s e. let next : n + suc k ≡ suc n + k = omega arith in subst (λ m. slice_get (H i) m ≡ Some s) next (at (suc k) s e)),
  )

  abbrev rows : ℕ → ℕ → List S
  rows first len = flat_map (λ i. stamped_from i 1 (H i)) (range_with_len first len)

  rows_from : (first len : ℕ) → AllByRecursion (λ x. first ≤ x.origin) (rows first len)
  rows_from first zero = tt
  rows_from first (suc len) =
      all_append (λ x. first ≤ x.origin) (stamped_from first 1 (H first)) (rows (first + 1) len)
      (weaken (OfRow first 1) (λ x. first ≤ x.origin) (λ x h. omega arith) _ (row first 1 (H first)))
      (weaken (λ x. first + 1 ≤ x.origin) (λ x. first ≤ x.origin) (λ x h. omega arith) _ (rows_from (first + 1) len))

  rows_rise : (first len : ℕ) → Rises (rows first len)
  rows_rise first zero = tt
  rows_rise first (suc len) =
      rises_append (stamped_from first 1 (H first)) (rows (first + 1) len) (row_rises first 1 (H first)) (rows_rise (first + 1) len)
      (weaken (OfRow first 1) (λ x. AllByRecursion (NotAfter x) (rows (first + 1) len)) (λ x h.
      weaken (λ y. first + 1 ≤ y.origin) (NotAfter x) (λ y g. inl (omega arith)) _ (rows_from (first + 1) len)) _ (row first 1 (H first)))

  rows_stand : (first len : ℕ) → AllByRecursion Stands (rows first len)
  rows_stand first zero = tt
  rows_stand first (suc len) =
      all_append Stands (stamped_from first 1 (H first)) (rows (first + 1) len)
      (row_stands first 0 (H first) (λ k r e. let same : k ≡ 0 + k = omega arith in subst (λ m. slice_get (H first) m ≡ Some r) same e)) (rows_stand (first + 1) len)

  stands_once : (x y : S) → Stands x → Stands y → x.origin ≡ y.origin → x.number ≡ y.number → x ≡ y
  stands_once x y at there origin number =
      let same : slice_get (H x.origin) (x.number - 1) ≡ slice_get (H y.origin) (y.number - 1) = λ i. slice_get (H (origin i)) (number i - 1) in
      let is : Some (let r : Meant Op = record { action = x.action; past = x.past } in r) ≡ Some (let r : Meant Op = record { action = y.action; past = y.past } in r) = sym at ∙ same ∙ there in
      let parts : (let r : Meant Op = record { action = x.action; past = x.past } in r) ≡ record { action = y.action; past = y.past } = cc is in
      λ i. record { origin = origin i; number = number i; action = (parts i).action; past = (parts i).past }

  -- the records in any order, and then sorted
  pub in_order_means : (records sorted : List Record) → IsPermutation (map stamped records) (all_records H) → IsPermutation records sorted → Sorted sorted → map stamped sorted ≡ all_records H
  in_order_means records sorted listed moved up =
      let perm = IsPermutation-trans (map stamped sorted) (map stamped records) (all_records H) (IsPermutation-sym (map stamped records) (map stamped sorted) (IsPermutation-map stamped records sorted moved)) listed in
      let known = rows_stand 0 identity_limit in
      same_order Stands stands_once (map stamped sorted) (all_records H) (rises_by_steps (map stamped sorted) (steps_of sorted up)) (rows_rise 0 identity_limit)
      (recursion_from_All Stands (map stamped sorted) (All-permutation Stands (all_records H) (map stamped sorted) (IsPermutation-sym (map stamped sorted) (all_records H) perm) (All-from_recursion Stands (all_records H) known)))
      known (λ o n. sym (sum_by-IsPermutation (here o n) (map stamped sorted) (all_records H) perm))
