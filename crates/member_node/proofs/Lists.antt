-- Lists of a member: places, searches, and lists that are changed item after item.
-- Lists, place by place.
-- Searches of lists: where an element stands, and which it is.
-- A list of which the items are changed one after another.
-- A list that is written from its end back.
use Rattle.std.proofs.Common.{◌≡◌, ℕ, zero, suc, ◌+◌, ◌<◌, List, [], ◌∷◌, ◌++◌, length, take, get_or, refl, sym, ap, ◌∙◌, arith, Bool, true, false, Some, find, if◌then◌else◌, cond, None, position, ◌≤◌, drop, set, map, ◌-◌, subst, subst₂, inl, inr, length-append, length-set, get_or-set_other, get_or-take}
use Rattle.std.specs.List.{AllZip, position_from}
use Rattle.std.proofs.lemmas.List.{take_more, get_or_default}
use Rattle.std.proofs.lemmas.Iterator.Adapters.{position_from-zero}
use Rattle.std.proofs.lemmas.Bool.{cases_eq}
use Rattle.std.proofs.lemmas.Grind.{get_or-set_at}
use Rattle.std.proofs.Math.ListN.{get_or-append}
use Rattle.std.proofs.Math.Seq.{get_or-append_seam}
use Rattle.model_history.proofs.PartLaws.{take-take}

-- LISTS, PLACE BY PLACE

-- the last of two lists
pub record HasLast {A B : Type 0} (R : A → B → Type 0) (xs : List A) (x : A) (zs : List B) : Type 0 where
  pub before : List B
  pub last : B
  pub is : zs ≡ before ++ last ∷ []
  pub zipped : AllZip R xs before
  pub related : R x last

pub zip_last : {A B : Type 0} (R : A → B → Type 0) (xs : List A) (x : A) (zs : List B) → AllZip R (xs ++ x ∷ []) zs → HasLast R xs x zs
zip_last R [] x [] z = absurd z
zip_last R [] x (y ∷ []) z = record { before = []; last = y; is = refl; zipped = tt; related = z.0 }
zip_last R [] x (y ∷ y' ∷ ys) z = absurd z.1
zip_last R (w ∷ ws) x [] z = absurd z
zip_last R (w ∷ ws) x (y ∷ ys) z =
    let rest = zip_last R ws x ys z.1 in
    record { before = y ∷ rest.before; last = rest.last; is = ap (λ vs. y ∷ vs) rest.is; zipped = (z.0, rest.zipped); related = rest.related }

pub zip_none : {A B : Type 0} (R : A → B → Type 0) (zs : List B) → AllZip R [] zs → zs ≡ []
zip_none R [] z = refl
zip_none R (y ∷ ys) z = absurd z

pub zip_push : {A B : Type 0} (R : A → B → Type 0) (xs : List A) (ys : List B) (x : A) (y : B) → AllZip R xs ys → R x y → AllZip R (xs ++ x ∷ []) (ys ++ y ∷ [])
zip_push R [] [] x y z r = (r, tt)
zip_push R [] (b ∷ ys) x y z r = absurd z
zip_push R (a ∷ xs) [] x y z r = absurd z
zip_push R (a ∷ xs) (b ∷ ys) x y z r = (z.0, zip_push R xs ys x y z.1 r)

-- the one element that passes
pub find_one : {X : Type 0} (p : X → Bool) (xs : List X) (k : ℕ) (d : X) → k < length xs → p (get_or xs k d) ≡ true → ((j : ℕ) (e : X) → j < length xs → p (get_or xs j e) ≡ true → j ≡ k) → find p xs ≡ Some (get_or xs k d)
find_one p [] k d within passes once = absurd (omega arith)
find_one p (x ∷ xs) zero d within passes once = ap (λ b. if b then Some x else find p xs) passes
find_one p (x ∷ xs) (suc k) d within passes once = go (p x) refl (find_one p xs k d (omega arith) passes (λ j e inside holds. let same = once (suc j) e (omega arith) holds in omega arith))
  where
    go : (b : Bool) → p x ≡ b → find p xs ≡ Some (get_or xs k d) → find p (x ∷ xs) ≡ Some (get_or xs k d)
    go true is rest = absurd (let same = once 0 x (omega arith) is in omega arith)
    go false is rest = ap (λ b. if b then Some x else find p xs) is ∙ rest

-- the items up to the next place
pub one_more : {X : Type 0} (xs : List X) (i : ℕ) (x : X) → i < length xs → x ≡ get_or xs i x → take (i + 1) xs ≡ take i xs ++ x ∷ []
one_more xs i x within is = take_more xs i x within ∙ ap (λ y. take i xs ++ y ∷ []) (sym is)

-- SEARCHES

-- the first element that passes, at its place
pub record IsFound {X : Type 0} (p : X → Bool) (xs : List X) (k : ℕ) : Type 0 where
  pub within : k < length xs
  pub found : (d : X) → find p xs ≡ Some (get_or xs k d)
  pub passes : (d : X) → p (get_or xs k d) ≡ true

found_from : {X : Type 0} (p : X → Bool) (n : ℕ) (xs : List X) (i : ℕ) → position_from p n xs ≡ Some i → (k : ℕ) × (i ≡ n + k) × IsFound p xs k
found_from p n [] i e = absurd (cc e)
found_from p n (x ∷ xs) i e = go (p x) refl e (λ e'. found_from p (n + 1) xs i e')
  where
    go : (b : Bool) → p x ≡ b → cond b (Some n) (position_from p (n + 1) xs) ≡ Some i → (position_from p (n + 1) xs ≡ Some i → (k : ℕ) × (i ≡ n + 1 + k) × IsFound p xs k) → (k : ℕ) × (i ≡ n + k) × IsFound p (x ∷ xs) k
    go true is e' later =
        let same : n ≡ i = cc e' in
        (0, omega arith, record { within = omega arith; found = λ d. ap (λ b. cond b (Some x) (find p xs)) is; passes = λ d. is })
    go false is e' later =
        let r = later e' in
        let w = r.2.within in
        (suc r.0, (let h = r.1 in omega arith), record { within = omega arith; found = λ d. ap (λ b. cond b (Some x) (find p xs)) is ∙ r.2.found d; passes = r.2.passes })

none_from : {X : Type 0} (p : X → Bool) (n : ℕ) (xs : List X) → position_from p n xs ≡ None → find p xs ≡ None
none_from p n [] e = refl
none_from p n (x ∷ xs) e = go (p x) refl e (λ e'. none_from p (n + 1) xs e')
  where
    go : (b : Bool) → p x ≡ b → cond b (Some n) (position_from p (n + 1) xs) ≡ None → (position_from p (n + 1) xs ≡ None → find p xs ≡ None) → find p (x ∷ xs) ≡ None
    go true is e' later = absurd (cc e')
    go false is e' later = ap (λ b. cond b (Some x) (find p xs)) is ∙ later e'

pub position-found : {X : Type 0} (p : X → Bool) (xs : List X) (i : ℕ) → Some i ≡ position p xs → IsFound p xs i
position-found p xs i e =
    let r = found_from p 0 xs i (sym (position_from-zero p xs) ∙ sym e) in
    let same : i ≡ r.0 = (let h = r.1 in omega arith) in
    record { within = (let w = r.2.within in omega arith); found = λ d. r.2.found d ∙ ap (λ k. Some (get_or xs k d)) (sym same); passes = λ d. ap (λ k. p (get_or xs k d)) same ∙ r.2.passes d }

pub position-none : {X : Type 0} (p : X → Bool) (xs : List X) → None ≡ position p xs → find p xs ≡ None
position-none p xs e = none_from p 0 xs (sym (position_from-zero p xs) ∙ sym e)

-- ITEMS CHANGED ONE AFTER ANOTHER

-- so many are changed
abbrev pub mapped_before : {X : Type 0} → (X → X) → List X → ℕ → List X
mapped_before f xs i = map f (take i xs) ++ drop i xs

module _ {X : Type 0} (f : X → X) where
  mapped_at : (xs : List X) (i : ℕ) (d : X) → get_or (mapped_before f xs i) i d ≡ get_or xs i d
  mapped_at [] zero d = refl
  mapped_at [] (suc i) d = refl
  mapped_at (x ∷ xs) zero d = refl
  mapped_at (x ∷ xs) (suc i) d = mapped_at xs i d

  mapped_next : (xs : List X) (i : ℕ) (x : X) → i < length xs → x ≡ get_or xs i x → set (mapped_before f xs i) i (f x) ≡ mapped_before f xs (i + 1)
  mapped_next [] i x within is = absurd (omega arith)
  mapped_next (y ∷ xs) zero x within is = ap (λ z. f z ∷ xs) is
  mapped_next (y ∷ xs) (suc i) x within is =
      let next : suc (i + 1) ≡ suc i + 1 = omega arith in
      ap (λ ys. f y ∷ ys) (mapped_next xs i x (omega arith) is) ∙ ap (mapped_before f (y ∷ xs)) next

  -- one more is
  pub mapped_more : (xs now : List X) (i : ℕ) (x y : X) → now ≡ mapped_before f xs i → i < length xs → x ≡ get_or now i x → y ≡ f x → set now i y ≡ mapped_before f xs (i + 1)
  mapped_more xs now i x y is within at makes =
      let here : x ≡ get_or xs i x = at ∙ ap (λ zs. get_or zs i x) is ∙ mapped_at xs i x in
      ap (set now i) makes ∙ ap (λ zs. set zs i (f x)) is ∙ mapped_next xs i x within here

  -- all are
  pub mapped_all : (xs : List X) (i : ℕ) → length xs ≤ i → mapped_before f xs i ≡ map f xs
  mapped_all [] zero all = refl
  mapped_all [] (suc i) all = refl
  mapped_all (x ∷ xs) zero all = absurd (omega arith)
  mapped_all (x ∷ xs) (suc i) all = ap (λ ys. f x ∷ ys) (mapped_all xs i (omega arith))

-- A LIST WRITTEN FROM ITS END BACK

module _ {X C : Type 0} (change : X → C → X) (first now : List X) (changes : List C) (n : ℕ) (y at : X) (c : C)
    (within : n < length first) (same : length now ≡ length first)
    (unwritten : (k : ℕ) (d : X) → k < n + 1 → get_or now k d ≡ get_or first k d)
    (written : (k : ℕ) (d : X) (e : C) → n + 1 ≤ k → k < length first → get_or now k d ≡ change (get_or first k d) (get_or changes k e))
    (is : at ≡ get_or now n at) (makes : y ≡ change at c) (taken : (e : C) → c ≡ get_or changes n e) where
  -- those before stay unwritten
  pub still_unwritten : (k : ℕ) (d : X) → k < n → get_or (set now n y) k d ≡ get_or first k d
  still_unwritten k d below = get_or-set_other now n k y d (λ e. omega arith) ∙ unwritten k d (omega arith)

  here : (d : X) → at ≡ get_or first n d
  here d = is ∙ unwritten n at (omega arith) ∙ get_or_default first n at d within

  pub written_more : (k : ℕ) (d : X) (e : C) → n ≤ k → k < length first → get_or (set now n y) k d ≡ change (get_or first k d) (get_or changes k e)
  written_more k d e above below = elim (cases_eq k n) [
    | inl equal ↦
        get_or-set_at now n k y d equal (omega arith) ∙ makes
        ∙ (λ i. change (here d i) (taken e i)) ∙ (λ i. change (get_or first (sym equal i) d) (get_or changes (sym equal i) e))
    | inr other ↦ get_or-set_other now n k y d other ∙ written k d e (omega arith) below
  ]

-- the last of what is left of a list, and what is left then
pub last_left : {C : Type 0} (left changes : List C) (n m : ℕ) (c : C) → m ≡ n + 1 → left ≡ take m changes → ((d : C) → Some c ≡ Some (get_or left (m - 1) d)) → (e : C) → c ≡ get_or changes n e
last_left left changes n m c counted is value e =
    let v : c ≡ get_or left (m - 1) e = (let w = value e in cc w) in
    let place : m - 1 ≡ n = omega arith in
    v ∙ ap (λ k. get_or left k e) place ∙ ap (λ xs. get_or xs n e) is ∙ get_or-take m changes n e (omega arith)

pub rest_left : {C : Type 0} (left changes rest : List C) (n m : ℕ) → m ≡ n + 1 → left ≡ take m changes → rest ≡ take (m - 1) left → rest ≡ take n changes
rest_left left changes rest n m counted is cut =
    let place : m - 1 ≡ n = omega arith in
    cut ∙ ap (λ k. take k left) place ∙ ap (take n) is ∙ take-take changes n m (omega arith)

-- one more change, made of the next key
module _ {X C : Type 0} (Makes : X → C → Type 0) (keys : List X) (changes new : List C) (i : ℕ) (x : X) (c : C) (within : i < length keys) (is : x ≡ get_or keys i x) (counted : length changes ≡ i) (pushed : new ≡ changes ++ c ∷ []) (makes : Makes x c)
    (made : (k : ℕ) (d : X) (e : C) → k < i → Makes (get_or keys k d) (get_or changes k e)) where
  pub counted_more : length new ≡ i + 1
  counted_more = ap length pushed ∙ length-append changes (c ∷ []) ∙ omega arith

  pub made_more : (k : ℕ) (d : X) (e : C) → k < i + 1 → Makes (get_or keys k d) (get_or new k e)
  made_more k d e below = elim (cases_eq k i) [
    | inl equal ↦
        let key : x ≡ get_or keys k d = is ∙ get_or_default keys i x d within ∙ ap (λ j. get_or keys j d) (sym equal) in
        let change : c ≡ get_or new k e = sym (ap (λ xs. get_or xs k e) pushed ∙ ap (λ j. get_or (changes ++ c ∷ []) j e) (equal ∙ sym counted) ∙ get_or-append_seam changes c [] e) in
        subst₂ Makes key change makes
    | inr other ↦
        let change : get_or changes k e ≡ get_or new k e = sym (ap (λ xs. get_or xs k e) pushed ∙ get_or-append changes (c ∷ []) e k (omega arith)) in
        subst (Makes (get_or keys k d)) change (made k d e (omega arith))
  ]

-- the same, where each place has a change, or none
module _ {X C : Type 0} (Makes : X → C → Type 0) (keys : List X) (changes new : List C) (i : ℕ) (x : X) (c : C) (within : i < length keys) (is : x ≡ get_or keys i x) (counted : length changes ≡ length keys) (put : new ≡ set changes i c) (makes : Makes x c)
    (made : (k : ℕ) (d : X) (e : C) → k < i → Makes (get_or keys k d) (get_or changes k e)) where
  pub counted_put : length new ≡ length keys
  counted_put = ap length put ∙ length-set changes i c ∙ counted

  pub made_next : (k : ℕ) (d : X) (e : C) → k < i + 1 → Makes (get_or keys k d) (get_or new k e)
  made_next k d e below = elim (cases_eq k i) [
    | inl equal ↦
        let key : x ≡ get_or keys k d = is ∙ get_or_default keys i x d within ∙ ap (λ j. get_or keys j d) (sym equal) in
        let change : c ≡ get_or new k e = sym (ap (λ xs. get_or xs k e) put ∙ get_or-set_at changes i k c e equal (omega arith)) in
        subst₂ Makes key change makes
    | inr other ↦
        let change : get_or changes k e ≡ get_or new k e = sym (ap (λ xs. get_or xs k e) put ∙ get_or-set_other changes i k c e other) in
        subst (Makes (get_or keys k d)) change (made k d e (omega arith))
  ]

-- the same, where the next place keeps its change, or none
module _ {X C : Type 0} (Makes : X → C → Type 0) (keys : List X) (changes : List C) (i : ℕ) (x : X) (c : C) (within : i < length keys) (is : x ≡ get_or keys i x) (here : (e : C) → c ≡ get_or changes i e) (makes : Makes x c)
    (made : (k : ℕ) (d : X) (e : C) → k < i → Makes (get_or keys k d) (get_or changes k e)) where
  pub made_still : (k : ℕ) (d : X) (e : C) → k < i + 1 → Makes (get_or keys k d) (get_or changes k e)
  made_still k d e below = elim (cases_eq k i) [
    | inl equal ↦
        let key : x ≡ get_or keys k d = is ∙ get_or_default keys i x d within ∙ ap (λ j. get_or keys j d) (sym equal) in
        subst₂ Makes key (here e ∙ ap (λ j. get_or changes j e) (sym equal)) makes
    | inr other ↦ made k d e (omega arith)
  ]
