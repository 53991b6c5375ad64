-- Lists by their places, and tables: what a write to one place leaves at each; lists whose items are changed one by one; two lists whose items correspond.
use Rattle.std.proofs.Common.{◌≡◌, ◌≢◌, ℕ, zero, suc, ◌+◌, ◌<◌, ◌≤◌, List, [], ◌∷◌, length, map, get_or, set, replicate, refl, sym, ap, subst, ◌∙◌, arith, true, false, Option, Some, None, inl, inr, ◌++◌}
use Rattle.std.specs.Prelude.{is_some, if◌then◌else◌, slice_get, option_map, ◌==◌, nat_lt}
use Rattle.std.specs.List.{AllZip}
use Rattle.std.specs.Option.{ForSome}
use Rattle.std.proofs.lemmas.Bool.Decides.{eqb_tells, nat_tests}
use Rattle.std.proofs.lemmas.Option.{slice_get-map, slice_get-get_or, slice_get_past}
use Rattle.model_history.specs.Table.{with_at}
use Rattle.model_history.proofs.HistoryLaws.{with_at_same, with_at_other}
use Rattle.world_places.specs.Channels.{Channel, passed}

same_test : (k n : ℕ) → nat_lt k n ≡ nat_lt (suc k) (suc n)
same_test k n = grind (arith, nat_tests)

-- what is there
pub some_there : {X : Type 0} (o : Option X) → is_some o ≡ true → (x : X) × (o ≡ Some x)
some_there None e = absurd (cc e)
some_there (Some x) e = (x, refl)

pub same_some : {X : Type 0} (x y : X) → Some x ≡ Some y → x ≡ y
same_some x y e = cc

-- what holds of the one that is there
pub for_this : {X : Type 0} (P : X → Type 0) (o : Option X) (x : X) → o ≡ Some x → P x → ForSome o P
for_this P o x is holds y e = subst P (same_some x y (sym is ∙ e)) holds

-- nothing is there
pub for_none : {X : Type 0} (P : X → Type 0) (o : Option X) → o ≡ None → ForSome o P
for_none P o is y e = let some : None ≡ Some y = sym is ∙ e in absurd (cc some)

-- the same is there
pub for_same : {X : Type 0} (P : X → Type 0) (o other : Option X) → other ≡ o → ForSome o P → ForSome other P
for_same P o other is holds y e = holds y (sym is ∙ e)

-- what holds of one number and of all others holds of each
pub at_one : (P : ℕ → Type 0) (i : ℕ) → P i → ((j : ℕ) → j ≢ i → P j) → (j : ℕ) → P j
at_one P i here others j = elim (eqb_tells j i) [ inl same ↦ subst P (sym same.1) here | inr other ↦ others j other.1 ]

-- the same of a table in which one item is another
pub at_each : {X : Type 0} (P : ℕ → X → Type 0) (table : ℕ → X) (i : ℕ) (x : X) → P i x → ((j : ℕ) → j ≢ i → P j (table j)) → (j : ℕ) → P j (with_at table i x j)
at_each P table i x here others =
    at_one (λ j. P j (with_at table i x j)) i (subst (P i) (sym (with_at_same table i x)) here) (λ j other. subst (P j) (sym (with_at_other table i x j other)) (others j other))

module _ {X : Type 0} where
  pub slice_get-set_same : (xs : List X) (i : ℕ) (x : X) → i < length xs → slice_get (set xs i x) i ≡ Some x
  slice_get-set_same [] i x h = absurd (omega arith)
  slice_get-set_same (y ∷ xs) zero x h = refl
  slice_get-set_same (y ∷ xs) (suc i) x h = slice_get-set_same xs i x (omega arith)

  pub slice_get-set_other : (xs : List X) (i k : ℕ) (x : X) → k ≢ i → slice_get (set xs i x) k ≡ slice_get xs k
  slice_get-set_other [] i k x h = refl
  slice_get-set_other (y ∷ xs) zero zero x h = absurd (h refl)
  slice_get-set_other (y ∷ xs) zero (suc k) x h = refl
  slice_get-set_other (y ∷ xs) (suc i) zero x h = refl
  slice_get-set_other (y ∷ xs) (suc i) (suc k) x h = slice_get-set_other xs i k x (λ e. h (ap suc e))

  pub slice_get-replicate : (n k : ℕ) (x : X) → slice_get (replicate n x) k ≡ (if nat_lt k n then Some x else None)
  slice_get-replicate zero k x = let past : nat_lt k 0 ≡ false = grind (arith, nat_tests) in sym (ap (λ b. if b then Some x else None) past)
  slice_get-replicate (suc n) zero x = let within : nat_lt 0 (suc n) ≡ true = grind (arith, nat_tests) in sym (ap (λ b. if b then Some x else None) within)
  slice_get-replicate (suc n) (suc k) x = slice_get-replicate n k x ∙ ap (λ b. if b then Some x else None) (same_test k n)

  pub slice_get-last : (xs : List X) (x : X) → slice_get (xs ++ x ∷ []) (length xs) ≡ Some x
  slice_get-last [] x = refl
  slice_get-last (y ∷ xs) x = slice_get-last xs x

  pub slice_get-first : (xs ys : List X) (k : ℕ) → k < length xs → slice_get (xs ++ ys) k ≡ slice_get xs k
  slice_get-first [] ys k h = absurd (omega arith)
  slice_get-first (x ∷ xs) ys zero h = refl
  slice_get-first (x ∷ xs) ys (suc k) h = slice_get-first xs ys k (omega arith)

  -- lists that have the same at each place
  pub same_places : (xs ys : List X) → length xs ≡ length ys → ((k : ℕ) → slice_get xs k ≡ slice_get ys k) → xs ≡ ys
  same_places [] [] e each = refl
  same_places [] (y ∷ ys) e each = absurd (omega arith)
  same_places (x ∷ xs) [] e each = absurd (omega arith)
  same_places (x ∷ xs) (y ∷ ys) e each =
      let first : Some x ≡ Some y = each 0 in
      let here : x ≡ y = cc in
      ap (λ z. z ∷ xs) here ∙ ap (λ zs. y ∷ zs) (same_places xs ys (omega arith) (λ k. each (suc k)))

module _ {X Y : Type 0} (f : X → Y) (h : Y → Y) where
  -- an item is replaced by one that is seen as h of what it was
  pub mapped_set : (xs : List X) (i : ℕ) (x old : X) → i < length xs → old ≡ get_or xs i old → f x ≡ h (f old) → (k : ℕ) → slice_get (map f (set xs i x)) k ≡ (if k == i then option_map h (slice_get (map f xs) k) else slice_get (map f xs) k)
  mapped_set xs i x old within is same k = elim (eqb_tells k i) [
    | inl here ↦
        slice_get-map f (set xs i x) k
        ∙ ap (option_map f) (ap (slice_get (set xs i x)) here.1 ∙ slice_get-set_same xs i x within)
        ∙ ap Some same
        ∙ ap (λ o. option_map h (option_map f o)) (sym (ap (slice_get xs) here.1 ∙ slice_get-get_or xs i old within ∙ ap Some (sym is)))
        ∙ ap (option_map h) (sym (slice_get-map f xs k))
        ∙ sym (ap (λ b. if b then option_map h (slice_get (map f xs) k) else slice_get (map f xs) k) here.0)
    | inr there ↦
        slice_get-map f (set xs i x) k
        ∙ ap (option_map f) (slice_get-set_other xs i k x there.1)
        ∙ sym (slice_get-map f xs k)
        ∙ sym (ap (λ b. if b then option_map h (slice_get (map f xs) k) else slice_get (map f xs) k) there.0)
  ]

  -- there is no such place
  pub mapped_past : (xs : List X) (i : ℕ) → length xs ≤ i → (k : ℕ) → slice_get (map f xs) k ≡ (if k == i then option_map h (slice_get (map f xs) k) else slice_get (map f xs) k)
  mapped_past xs i past k = elim (eqb_tells k i) [
    | inl here ↦
        let none : slice_get (map f xs) k ≡ None = slice_get-map f xs k ∙ ap (option_map f) (slice_get_past xs k (let e = here.1 in omega arith)) in
        none ∙ sym (ap (option_map h) none) ∙ sym (ap (λ b. if b then option_map h (slice_get (map f xs) k) else slice_get (map f xs) k) here.0)
    | inr there ↦ sym (ap (λ b. if b then option_map h (slice_get (map f xs) k) else slice_get (map f xs) k) there.0)
  ]

module _ {M : Type 0} where
  -- the next message due is passed, and others leave the channel as it is
  pub passed_next : (index : ℕ) (channel : Channel M) → channel.next ≡ index → record channel { next = index + 1 } ≡ passed index channel
  passed_next index channel e = elim (eqb_tells channel.next index) [
    | inl same ↦ ap (λ n. record channel { next = n }) (let one : index + 1 ≡ suc index = omega arith in one ∙ sym (ap (λ b. if b then suc index else channel.next) same.0))
    | inr other ↦ absurd (other.1 e)
  ]

  pub passed_other : (index : ℕ) (channel : Channel M) → (channel.next ≡ index → ⊥) → channel ≡ passed index channel
  passed_other index channel e = elim (eqb_tells channel.next index) [
    | inl same ↦ absurd (e same.1)
    | inr other ↦ ap (λ n. record channel { next = n }) (sym (ap (λ b. if b then suc index else channel.next) other.0))
  ]

-- LISTS WHOSE ITEMS CORRESPOND

module _ {A B : Type 0} (R : A → B → Type 0) where
  pub zip_append : (xs vs : List A) (ys ws : List B) → AllZip R xs ys → AllZip R vs ws → AllZip R (xs ++ vs) (ys ++ ws)
  zip_append [] vs [] ws all more = more
  zip_append [] vs (y ∷ ys) ws all more = absurd all
  zip_append (x ∷ xs) vs [] ws all more = absurd all
  zip_append (x ∷ xs) vs (y ∷ ys) ws all more = (all.0, zip_append xs vs ys ws all.1 more)

  pub zip_length : (xs : List A) (ys : List B) → AllZip R xs ys → length xs ≡ length ys
  zip_length [] [] all = refl
  zip_length [] (y ∷ ys) all = absurd all
  zip_length (x ∷ xs) [] all = absurd all
  zip_length (x ∷ xs) (y ∷ ys) all = ap suc (zip_length xs ys all.1)

  -- at a place there are both or neither
  pub data IsPair : Option A → Option B → Type 0 where
    both : {x : A} {y : B} → R x y → IsPair (Some x) (Some y)
    neither : IsPair None None

  pub zip_at : (xs : List A) (ys : List B) (k : ℕ) → AllZip R xs ys → IsPair (slice_get xs k) (slice_get ys k)
  zip_at [] [] k all = neither
  zip_at [] (y ∷ ys) k all = absurd all
  zip_at (x ∷ xs) [] k all = absurd all
  zip_at (x ∷ xs) (y ∷ ys) zero all = both all.0
  zip_at (x ∷ xs) (y ∷ ys) (suc k) all = zip_at xs ys k all.1

module _ {A B : Type 0} (R : A → B → Type 0) where
  pub pair_both : (a : Option A) (b : Option B) (x : A) (y : B) → IsPair R a b → a ≡ Some x → b ≡ Some y → R x y
  pair_both _ _ x y (both {x = c} {y = d} r) e f = subst (R x) (cc f) (subst (λ z. R z d) (cc e) r)
  pair_both _ _ x y neither e f = absurd (cc e)

  pub pair_some : (a : Option A) (b : Option B) (x : A) → IsPair R a b → a ≡ Some x → (y : B) × (b ≡ Some y)
  pair_some _ _ x (both {y = y} r) e = (y, refl)
  pair_some _ _ x neither e = absurd (cc e)

  pub pair_none : (a : Option A) (b : Option B) → IsPair R a b → a ≡ None → b ≡ None
  pair_none _ _ (both r) e = absurd (cc e)
  pair_none _ _ neither e = refl
