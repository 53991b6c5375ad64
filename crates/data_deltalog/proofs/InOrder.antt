-- Deltas as one.
use Rattle.std.proofs.Common.{◌≡◌, ℕ, zero, suc, ◌+◌, ◌<◌, List, [], ◌∷◌, length, drop, refl, sym, ap, subst, ◌∙◌, arith, Bool, true, false, ◌||◌, Option, Some, None}
use Rattle.std.specs.Prelude.{slice_get, fold}
use Rattle.std.specs.List.{list_any}
use Rattle.std.proofs.lemmas.Bool.{or_parts}
use Rattle.model_history.specs.History.{History}
use Rattle.data_deltalog.specs.Contents.{both, combined_of, lacks_delta}
use Rattle.data_deltalog.specs.Images.{IsKeptOf}
use Rattle.data_deltalog.proofs.Records.{drop_at_index}

by_delta : {Delta P : Type 0} (o : Option Delta) → (o ≡ None → P) → ((delta : Delta) → o ≡ Some delta → P) → P
by_delta None none some = none refl
by_delta (Some delta) none some = some delta refl

module _ {Delta : Type 0} (combined : Delta → Delta → Delta) where
  -- where one is lacking, nothing comes of the rest
  pub nothing_more : (xs : List (Option Delta)) → fold (both combined) None xs ≡ None
  nothing_more [] = refl
  nothing_more (x ∷ xs) = nothing_more xs

  -- the item at an index, before the rest
  pub combined_at : (xs : List (Option Delta)) (k : ℕ) (own : Option Delta) → slice_get xs k ≡ Some own → combined_of combined (drop k xs) ≡ fold (both combined) own (drop (k + 1) xs)
  combined_at xs k own has = ap (combined_of combined) (drop_at_index xs k own has)

  pub joined_at : (so_far : Option Delta) (xs : List (Option Delta)) (k : ℕ) (own : Option Delta) → slice_get xs k ≡ Some own → fold (both combined) so_far (drop k xs) ≡ fold (both combined) (both combined so_far own) (drop (k + 1) xs)
  joined_at so_far xs k own has = ap (fold (both combined) so_far) (drop_at_index xs k own has)

  -- all of them have their delta
  all_from : (first : Delta) (xs : List (Option Delta)) (all : Delta) → fold (both combined) (Some first) xs ≡ Some all → list_any lacks_delta xs ≡ false
  all_from first [] all e = refl
  all_from first (x ∷ xs) all e = by_delta x
      (λ is. absurd (let f : fold (both combined) None xs ≡ Some all = sym (ap (λ o. fold (both combined) (both combined (Some first) o) xs) is) ∙ e in let n = nothing_more xs in cc (f, n)))
      (λ later is. ap (λ o. lacks_delta o || list_any lacks_delta xs) is
      ∙ all_from (combined first later) xs all (sym (ap (λ o. fold (both combined) (both combined (Some first) o) xs) is) ∙ e))

  pub combined_all : (xs : List (Option Delta)) (all : Delta) → combined_of combined xs ≡ Some all → list_any lacks_delta xs ≡ false
  combined_all [] all e = absurd (cc e)
  combined_all (x ∷ xs) all e = by_delta x
      (λ is. absurd (let f : fold (both combined) None xs ≡ Some all = sym (ap (λ o. fold (both combined) o xs) is) ∙ e in let n = nothing_more xs in cc (f, n)))
      (λ first is. ap (λ o. lacks_delta o || list_any lacks_delta xs) is
      ∙ all_from first xs all (sym (ap (λ o. fold (both combined) o xs) is) ∙ e))

  -- one of them lacks it
  lacking_from : (first : Delta) (xs : List (Option Delta)) → fold (both combined) (Some first) xs ≡ None → list_any lacks_delta xs ≡ true
  lacking_from first [] e = absurd (cc e)
  lacking_from first (x ∷ xs) e = by_delta x
      (λ is. ap (λ o. lacks_delta o || list_any lacks_delta xs) is)
      (λ later is. ap (λ o. lacks_delta o || list_any lacks_delta xs) is
      ∙ lacking_from (combined first later) xs (sym (ap (λ o. fold (both combined) (both combined (Some first) o) xs) is) ∙ e))

  pub combined_lacks : (xs : List (Option Delta)) → 0 < length xs → combined_of combined xs ≡ None → list_any lacks_delta xs ≡ true
  combined_lacks [] some e = absurd (omega arith)
  combined_lacks (x ∷ xs) some e = by_delta x
      (λ is. ap (λ o. lacks_delta o || list_any lacks_delta xs) is)
      (λ first is. ap (λ o. lacks_delta o || list_any lacks_delta xs) is
      ∙ lacking_from first xs (sym (ap (λ o. fold (both combined) o xs) is) ∙ e))

pub none_lacking : {X : Type 0} (p : X → Bool) (xs : List X) → list_any p xs ≡ false → (k : ℕ) (x : X) → slice_get xs k ≡ Some x → p x ≡ false
none_lacking p [] e k x has = absurd (cc has)
none_lacking p (y ∷ xs) e zero x has = let same : y ≡ x = cc has in ap p (sym same) ∙ (or_parts (p y) (list_any p xs) e).0
none_lacking p (y ∷ xs) e (suc k) x has = none_lacking p xs (or_parts (p y) (list_any p xs) e).1 k x has

pub item_at : {X : Type 0} (xs : List X) (k : ℕ) → k < length xs → (x : X) × (slice_get xs k ≡ Some x)
item_at [] k l = absurd (omega arith)
item_at (x ∷ xs) zero l = (x, refl)
item_at (x ∷ xs) (suc k) l = item_at xs k (omega arith)

-- two lists whose items answer alike
pub alike : {X Y : Type 0} (p : X → Bool) (q : Y → Bool) (xs : List X) (ys : List Y) → length xs ≡ length ys → ((k : ℕ) (x : X) (y : Y) → slice_get xs k ≡ Some x → slice_get ys k ≡ Some y → p x ≡ q y) → list_any p xs ≡ list_any q ys
alike p q [] [] e same = refl
alike p q [] (y ∷ ys) e same = absurd (omega (arith, e))
alike p q (x ∷ xs) [] e same = absurd (omega (arith, e))
alike p q (x ∷ xs) (y ∷ ys) e same =
    ap (λ b. b || list_any p xs) (same 0 x y refl refl) ∙ ap (λ b. q y || b) (alike p q xs ys (omega (arith, e)) (λ k. same (suc k)))

-- DELTAS OF A LOG'S RECORDS, IN THEIR ORDER

module _ {Kind Delta Op : Type 0} (IsDeltaOf : Delta → History Op → ℕ → ℕ → ℕ → Type 0) (fits : Kind → Delta → Bool) (kind : Kind) (log : History Op) (origin : ℕ) where
  -- what is kept of the records from an index on, in a row
  pub record AreKeptFrom (index : ℕ) (xs : List (Option Delta)) : Type 0 where
    pub image : (k : ℕ) (own : Option Delta) → slice_get xs k ≡ Some own → IsKeptOf IsDeltaOf own log origin (index + k)
    pub fit : (k : ℕ) (own : Option Delta) (delta : Delta) → slice_get xs k ≡ Some own → own ≡ Some delta → fits kind delta ≡ true

  later_ones : (index : ℕ) (x : Option Delta) (xs : List (Option Delta)) → AreKeptFrom index (x ∷ xs) → AreKeptFrom (index + 1) xs
  later_ones index x xs kept = record {
    image = λ k own has. let e : index + suc k ≡ index + 1 + k = omega arith in subst (IsKeptOf IsDeltaOf own log origin) e (kept.image (suc k) own has);
    fit = λ k. kept.fit (suc k);
  }

  head_delta : (index : ℕ) (x : Option Delta) (xs : List (Option Delta)) → AreKeptFrom index (x ∷ xs) → (delta : Delta) → x ≡ Some delta → IsDeltaOf delta log origin index (index + 1)
  head_delta index x xs kept delta is =
      let e : index + 0 ≡ index = omega arith in
      (subst (IsKeptOf IsDeltaOf x log origin) e (kept.image 0 x refl)).delta delta is

module _ {Kind Delta Op : Type 0} (IsDeltaOf : Delta → History Op → ℕ → ℕ → ℕ → Type 0) (fits : Kind → Delta → Bool) (kind : Kind) (log : History Op) (origin : ℕ) (combined : Delta → Delta → Delta)
    (keeps : (first later : Delta) → fits kind first ≡ true → fits kind later ≡ true → fits kind (combined first later) ≡ true)
    (follows : (first later : Delta) (after mid to : ℕ) → fits kind first ≡ true → fits kind later ≡ true → IsDeltaOf first log origin after mid → IsDeltaOf later log origin mid to → IsDeltaOf (combined first later) log origin after to) where
  delta_from : (first : Delta) (xs : List (Option Delta)) (all : Delta) (after index : ℕ) → fits kind first ≡ true → IsDeltaOf first log origin after index → AreKeptFrom IsDeltaOf fits kind log origin index xs → fold (both combined) (Some first) xs ≡ Some all
      → (fits kind all ≡ true) × IsDeltaOf all log origin after (index + length xs)
  delta_from first [] all after index fit is kept e =
      let same : first ≡ all = cc e in
      let z : index ≡ index + 0 = omega arith in
      (ap (fits kind) (sym same) ∙ fit, subst (IsDeltaOf all log origin after) z (subst (λ d. IsDeltaOf d log origin after index) same is))
  delta_from first (x ∷ xs) all after index fit is kept e = by_delta x
      (λ none. absurd (let f : fold (both combined) None xs ≡ Some all = sym (ap (λ o. fold (both combined) (both combined (Some first) o) xs) none) ∙ e in let n = nothing_more combined xs in cc (f, n)))
      (λ later some.
      let later_fit = kept.fit 0 x later refl some in
      let rest = delta_from (combined first later) xs all after (index + 1) (keeps first later fit later_fit) (follows first later after index (index + 1) fit later_fit is (head_delta IsDeltaOf fits kind log origin index x xs kept later some))
      (later_ones IsDeltaOf fits kind log origin index x xs kept) (sym (ap (λ o. fold (both combined) (both combined (Some first) o) xs) some) ∙ e) in
      let z : index + 1 + length xs ≡ index + length (x ∷ xs) = omega arith in
      (rest.0, subst (IsDeltaOf all log origin after) z rest.1))

  -- the combined delta is that of all the records
  pub delta_of_all : (xs : List (Option Delta)) (all : Delta) (index : ℕ) → AreKeptFrom IsDeltaOf fits kind log origin index xs → combined_of combined xs ≡ Some all → IsDeltaOf all log origin index (index + length xs)
  delta_of_all [] all index kept e = absurd (cc e)
  delta_of_all (x ∷ xs) all index kept e = by_delta x
      (λ none. absurd (let f : fold (both combined) None xs ≡ Some all = sym (ap (λ o. fold (both combined) o xs) none) ∙ e in let n = nothing_more combined xs in cc (f, n)))
      (λ first some.
      let rest = delta_from first xs all index (index + 1) (kept.fit 0 x first refl some) (head_delta IsDeltaOf fits kind log origin index x xs kept first some) (later_ones IsDeltaOf fits kind log origin index x xs kept) (sym (ap (λ o. fold (both combined) o xs) some) ∙ e) in
      let z : index + 1 + length xs ≡ index + length (x ∷ xs) = omega arith in
      subst (IsDeltaOf all log origin index) z rest.1)
