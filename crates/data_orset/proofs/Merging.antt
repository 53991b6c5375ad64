-- Merging two lists of dots in one pass.
use Rattle.std.proofs.Common.{◌≡◌, ℕ, ◌+◌, ◌<◌, ◌≤◌, ◌⊎◌, inl, inr, List, [], ◌∷◌, ◌++◌, length, drop, get_or, Bool, true, false, cond, ◌&&◌, ◌||◌, refl, ap, sym, ◌∙◌, subst, arith, append_assoc, if◌then◌else◌}
use Rattle.std.specs.List.{filter, list_any}
use Rattle.std.specs.declared.cmp.Ordering.{Ordering}
use Rattle.std.specs.declared.cmp.Ordering.TheVariants.{Less, Equal, Greater}
use Rattle.std.proofs.lemmas.List.{drop_all, drop_more, append-nil}
use Rattle.data_orset.specs.Placing.{Placed, placed_order, IsBeforeAll, AreDots}
use Rattle.data_orset.specs.Keeping.{stays}
use Rattle.data_orset.proofs.Placings.{before_all, before_if, dots_if, before_filter, dots_filter, placed_same, greater_less, IsOfOne, absent_before}

abbrev pub by_order : Ordering → List Placed → List Placed → List Placed → List Placed
by_order Less a b c = a
by_order Equal a b c = b
by_order Greater a b c = c

-- THE MERGE, AS A FUNCTION

module _ (both : Bool) (r s : Placed → Bool) where
  abbrev pub step : Placed → (List Placed → List Placed) → List Placed → List Placed
  step x rest [] = cond (r x) (x ∷ rest []) (rest [])
  step x rest (y ∷ ys) = by_order (placed_order x y)
      (cond (r x) (x ∷ rest (y ∷ ys)) (rest (y ∷ ys)))
      (cond both (x ∷ rest ys) (rest ys))
      (cond (s y) (y ∷ step x rest ys) (step x rest ys))

  abbrev pub merge : List Placed → List Placed → List Placed
  merge [] ys = filter s ys
  merge (x ∷ xs) ys = step x (merge xs) ys

  merge_alone : (xs : List Placed) → merge xs [] ≡ filter r xs
  merge_alone [] = refl
  merge_alone (x ∷ xs) = ap (λ zs. cond (r x) (x ∷ zs) zs) (merge_alone xs)

  module _ (x y : Placed) (xs ys : List Placed) where
    abbrev chosen : Ordering → List Placed
    chosen o = by_order o (cond (r x) (x ∷ merge xs (y ∷ ys)) (merge xs (y ∷ ys))) (cond both (x ∷ merge xs ys) (merge xs ys)) (cond (s y) (y ∷ merge (x ∷ xs) ys) (merge (x ∷ xs) ys))

    front_less : placed_order x y ≡ Less → merge (x ∷ xs) (y ∷ ys) ≡ cond (r x) (x ∷ merge xs (y ∷ ys)) (merge xs (y ∷ ys))
    front_less e = ap chosen e

    front_equal : placed_order x y ≡ Equal → merge (x ∷ xs) (y ∷ ys) ≡ cond both (x ∷ merge xs ys) (merge xs ys)
    front_equal e = ap chosen e

    front_greater : placed_order x y ≡ Greater → merge (x ∷ xs) (y ∷ ys) ≡ cond (s y) (y ∷ merge (x ∷ xs) ys) (merge (x ∷ xs) ys)
    front_greater e = ap chosen e

  -- IT IS BEFORE NOTHING THAT IT SHOULDN'T BE

  before_step : (w x : Placed) (xs ys : List Placed) → placed_order w x ≡ Less → ((zs : List Placed) → IsBeforeAll w zs → IsBeforeAll w (merge xs zs)) → IsBeforeAll w ys → IsBeforeAll w (merge (x ∷ xs) ys)
  before_step w x xs [] less rest h = before_if (r x) w x (merge xs []) less (rest [] tt)
  before_step w x xs (y ∷ ys) less rest h = go (before_step w x xs ys less rest h.1) (placed_order x y) refl
    where
      go : IsBeforeAll w (merge (x ∷ xs) ys) → (o : Ordering) → placed_order x y ≡ o → IsBeforeAll w (merge (x ∷ xs) (y ∷ ys))
      go later Less e = subst (IsBeforeAll w) (sym (front_less x y xs ys e)) (before_if (r x) w x (merge xs (y ∷ ys)) less (rest (y ∷ ys) h))
      go later Equal e = subst (IsBeforeAll w) (sym (front_equal x y xs ys e)) (before_if both w x (merge xs ys) less (rest ys h.1))
      go later Greater e = subst (IsBeforeAll w) (sym (front_greater x y xs ys e)) (before_if (s y) w y (merge (x ∷ xs) ys) h.0 later)

  before_merge : (w : Placed) (xs ys : List Placed) → IsBeforeAll w xs → IsBeforeAll w ys → IsBeforeAll w (merge xs ys)
  before_merge w [] ys h k = before_filter s w ys k
  before_merge w (x ∷ xs) ys h k = before_step w x xs ys h.0 (λ zs. before_merge w xs zs h.1) k

  dots_step : (x : Placed) (xs ys : List Placed) → AreDots (x ∷ xs) → ((zs : List Placed) → AreDots zs → AreDots (merge xs zs)) → AreDots ys → AreDots (merge (x ∷ xs) ys)
  dots_step x xs [] h rest k = dots_if (r x) x (merge xs []) h.0 (before_merge x xs [] h.1 tt) (rest [] tt)
  dots_step x xs (y ∷ ys) h rest k = go (dots_step x xs ys h rest k.2) (placed_order x y) refl
    where
      go : AreDots (merge (x ∷ xs) ys) → (o : Ordering) → placed_order x y ≡ o → AreDots (merge (x ∷ xs) (y ∷ ys))
      go tail Less e =
          let later : IsBeforeAll x (y ∷ ys) = (e, before_all x y ys e k.1) in
          subst AreDots (sym (front_less x y xs ys e)) (dots_if (r x) x (merge xs (y ∷ ys)) h.0 (before_merge x xs (y ∷ ys) h.1 later) (rest (y ∷ ys) k))
      go tail Equal e =
          let same = placed_same x y e in
          subst AreDots (sym (front_equal x y xs ys e)) (dots_if both x (merge xs ys) h.0 (before_merge x xs ys h.1 (subst (λ z. IsBeforeAll z ys) (sym same) k.1)) (rest ys k.2))
      go tail Greater e =
          let less = greater_less x y e in
          let later : IsBeforeAll y (x ∷ xs) = (less, before_all y x xs less h.1) in
          subst AreDots (sym (front_greater x y xs ys e)) (dots_if (s y) y (merge (x ∷ xs) ys) k.0 (before_merge y (x ∷ xs) ys later k.1) tail)

  pub dots_merge : (xs ys : List Placed) → AreDots xs → AreDots ys → AreDots (merge xs ys)
  dots_merge [] ys h k = dots_filter s ys k
  dots_merge (x ∷ xs) ys h k = dots_step x xs ys h (λ zs. dots_merge xs zs h.2) k

-- WHAT IT HAS

any_if : (at : Placed → Bool) (b : Bool) (x : Placed) (xs : List Placed) → list_any at (cond b (x ∷ xs) xs) ≡ ((b && at x) || list_any at xs)
any_if at true x xs = refl
any_if at false x xs = refl

pub any_filter : (at : Placed → Bool) (test : Placed → Bool) (passes : Bool) → ((p : Placed) → at p ≡ true → test p ≡ passes) → (ps : List Placed) → list_any at (filter test ps) ≡ (list_any at ps && passes)
any_filter at test passes same [] = refl
any_filter at test passes same (p ∷ ps) = any_if at (test p) p (filter test ps) ∙ ap (λ b. (test p && at p) || b) (any_filter at test passes same ps) ∙ go (at p) (list_any at ps) (test p) (same p)
  where
    go : (a rest t : Bool) → (a ≡ true → t ≡ passes) → ((t && a) || (rest && passes)) ≡ ((a || rest) && passes)
    go true rest true e = e refl ∙ refl
    go true true false e = refl
    go true false false e = e refl
    go false true true e = refl
    go false true false e = refl
    go false false true e = refl
    go false false false e = refl

stays_less : (both mine theirs a t xs ys : Bool) → (a ≡ true → (t ≡ mine) × (xs ≡ false) × (ys ≡ false)) → ((t && a) || stays both mine theirs xs ys) ≡ stays both mine theirs (a || xs) ys
stays_less both mine theirs true true xs ys e =
    let f = e refl in f.0 ∙ ap (λ b. stays both mine theirs true b) (sym f.2)
stays_less both mine theirs true false xs ys e =
    let f = e refl in ap (λ b. stays both mine theirs b ys) f.1 ∙ ap (λ b. stays both mine theirs false b) f.2 ∙ f.0 ∙ ap (λ b. stays both mine theirs true b) (sym f.2)
stays_less both mine theirs false true xs ys e = refl
stays_less both mine theirs false false xs ys e = refl

stays_greater : (both mine theirs a t xs ys : Bool) → (a ≡ true → (t ≡ theirs) × (xs ≡ false) × (ys ≡ false)) → ((t && a) || stays both mine theirs xs ys) ≡ stays both mine theirs xs (a || ys)
stays_greater both mine theirs true true xs ys e =
    let f = e refl in f.0 ∙ ap (λ b. stays both mine theirs b true) (sym f.1)
stays_greater both mine theirs true false xs ys e =
    let f = e refl in ap (λ b. stays both mine theirs b ys) f.1 ∙ ap (λ b. stays both mine theirs false b) f.2 ∙ f.0 ∙ ap (λ b. stays both mine theirs b true) (sym f.1)
stays_greater both mine theirs false true xs ys e = refl
stays_greater both mine theirs false false xs ys e = refl

stays_equal : (both mine theirs a xs ys : Bool) → (a ≡ true → (xs ≡ false) × (ys ≡ false)) → ((both && a) || stays both mine theirs xs ys) ≡ stays both mine theirs (a || xs) (a || ys)
stays_equal true mine theirs true xs ys e = refl
stays_equal false mine theirs true xs ys e = let f = e refl in ap (λ b. stays false mine theirs b ys) f.0 ∙ ap (λ b. stays false mine theirs false b) f.1
stays_equal true mine theirs false xs ys e = refl
stays_equal false mine theirs false xs ys e = refl

stays_mine : (both mine theirs xs : Bool) → (xs && mine) ≡ stays both mine theirs xs false
stays_mine both mine theirs true = refl
stays_mine both mine theirs false = refl

stays_theirs : (both mine theirs ys : Bool) → (ys && theirs) ≡ stays both mine theirs false ys
stays_theirs both mine theirs true = refl
stays_theirs both mine theirs false = refl

module _ (both : Bool) (r s at : Placed → Bool) (mine theirs : Bool) (o : IsOfOne at) (my_rule : (p : Placed) → at p ≡ true → r p ≡ mine) (their_rule : (p : Placed) → at p ≡ true → s p ≡ theirs) where
  abbrev has : List Placed → Bool
  has = list_any at

  has_step : (x : Placed) (xs ys : List Placed) → AreDots (x ∷ xs) → ((zs : List Placed) → AreDots zs → has (merge both r s xs zs) ≡ stays both mine theirs (has xs) (has zs)) → AreDots ys
      → has (merge both r s (x ∷ xs) ys) ≡ stays both mine theirs (has (x ∷ xs)) (has ys)
  has_step x xs [] h rest k =
      ap has (merge_alone both r s (x ∷ xs)) ∙ any_filter at r mine my_rule (x ∷ xs) ∙ stays_mine both mine theirs (has (x ∷ xs))
  has_step x xs (y ∷ ys) h rest k = go (has_step x xs ys h rest k.2) (placed_order x y) refl
    where
      go : has (merge both r s (x ∷ xs) ys) ≡ stays both mine theirs (has (x ∷ xs)) (has ys) → (c : Ordering) → placed_order x y ≡ c → has (merge both r s (x ∷ xs) (y ∷ ys)) ≡ stays both mine theirs (has (x ∷ xs)) (has (y ∷ ys))
      go tail Less e =
          let later : IsBeforeAll x (y ∷ ys) = (e, before_all x y ys e k.1) in
          ap has (front_less both r s x y xs ys e) ∙ any_if at (r x) x (merge both r s xs (y ∷ ys)) ∙ ap (λ b. (r x && at x) || b) (rest (y ∷ ys) k)
          ∙ stays_less both mine theirs (at x) (r x) (has xs) (has (y ∷ ys)) (λ there. (my_rule x there, absent_before at o x xs there h.1, absent_before at o x (y ∷ ys) there later))
      go tail Equal e =
          let same = placed_same x y e in
          ap has (front_equal both r s x y xs ys e) ∙ any_if at both x (merge both r s xs ys) ∙ ap (λ b. (both && at x) || b) (rest ys k.2)
          ∙ stays_equal both mine theirs (at x) (has xs) (has ys) (λ there. (absent_before at o x xs there h.1, absent_before at o x ys there (subst (λ z. IsBeforeAll z ys) (sym same) k.1)))
          ∙ ap (λ z. stays both mine theirs (has (x ∷ xs)) (at z || has ys)) same
      go tail Greater e =
          let less = greater_less x y e in
          let later : IsBeforeAll y (x ∷ xs) = (less, before_all y x xs less h.1) in
          ap has (front_greater both r s x y xs ys e) ∙ any_if at (s y) y (merge both r s (x ∷ xs) ys) ∙ ap (λ b. (s y && at y) || b) tail
          ∙ stays_greater both mine theirs (at y) (s y) (has (x ∷ xs)) (has ys) (λ there. (their_rule y there, absent_before at o y (x ∷ xs) there later, absent_before at o y ys there k.1))

  pub has_merge : (xs ys : List Placed) → AreDots xs → AreDots ys → has (merge both r s xs ys) ≡ stays both mine theirs (has xs) (has ys)
  has_merge [] ys h k = any_filter at s theirs their_rule ys ∙ stays_theirs both mine theirs (has ys)
  has_merge (x ∷ xs) ys h k = has_step x xs ys h (λ zs. has_merge xs zs h.2) k

-- THE PASS

pub pushed : (all rest : List Placed) (b : Bool) (x : Placed) → (all ++ (if b then x ∷ [] else [])) ++ rest ≡ all ++ cond b (x ∷ rest) rest
pushed all rest true x = append_assoc all (x ∷ []) rest
pushed all rest false x = ap (λ ys. ys ++ rest) (append-nil all)

-- what was merged, and what is left of both
pub record IsMerging (both : Bool) (r s : Placed → Bool) (mine theirs all : List Placed) (here there : ℕ) : Type 0 where
  pub mine_within : here ≤ length mine
  pub theirs_within : there ≤ length theirs
  pub whole : all ++ merge both r s (drop here mine) (drop there theirs) ≡ merge both r s mine theirs

pub merge_start : (both : Bool) (r s : Placed → Bool) (mine theirs : List Placed) → IsMerging both r s mine theirs [] 0 0
merge_start both r s mine theirs = record { mine_within = omega arith; theirs_within = omega arith; whole = refl }

module _ (both : Bool) (r s : Placed → Bool) (mine theirs all : List Placed) (here there : ℕ) (x y : Placed)
    (inside : here < length mine) (theirs_inside : there < length theirs) (at : x ≡ get_or mine here x) (theirs_at : y ≡ get_or theirs there y) (h : IsMerging both r s mine theirs all here there) where
  abbrev xs : List Placed
  xs = drop (here + 1) mine

  abbrev ys : List Placed
  ys = drop (there + 1) theirs

  opened_mine : drop here mine ≡ x ∷ xs
  opened_mine = drop_more mine here x inside ∙ ap (λ z. z ∷ xs) (sym at)

  opened_theirs : drop there theirs ≡ y ∷ ys
  opened_theirs = drop_more theirs there y theirs_inside ∙ ap (λ z. z ∷ ys) (sym theirs_at)

  opened : merge both r s (drop here mine) (drop there theirs) ≡ merge both r s (x ∷ xs) (y ∷ ys)
  opened = ap (λ zs. merge both r s zs (drop there theirs)) opened_mine ∙ ap (λ zs. merge both r s (x ∷ xs) zs) opened_theirs

  ended : (next : List Placed) → merge both r s (x ∷ xs) (y ∷ ys) ≡ next → all ++ next ≡ merge both r s mine theirs
  ended next e = ap (λ zs. all ++ zs) (sym e ∙ sym opened) ∙ h.whole

  pub merge_less : placed_order x y ≡ Less → IsMerging both r s mine theirs (all ++ (if r x then x ∷ [] else [])) (here + 1) there
  merge_less e = record {
    mine_within = omega arith;
    theirs_within = h.theirs_within;
    whole = ap (λ zs. (all ++ (if r x then x ∷ [] else [])) ++ merge both r s xs zs) opened_theirs ∙ pushed all (merge both r s xs (y ∷ ys)) (r x) x ∙ ended _ (front_less both r s x y xs ys e);
  }

  pub merge_equal : placed_order x y ≡ Equal → IsMerging both r s mine theirs (all ++ (if both then x ∷ [] else [])) (here + 1) (there + 1)
  merge_equal e = record {
    mine_within = omega arith;
    theirs_within = omega arith;
    whole = pushed all (merge both r s xs ys) both x ∙ ended _ (front_equal both r s x y xs ys e);
  }

  pub merge_greater : placed_order x y ≡ Greater → IsMerging both r s mine theirs (all ++ (if s y then y ∷ [] else [])) here (there + 1)
  merge_greater e = record {
    mine_within = h.mine_within;
    theirs_within = omega arith;
    whole = ap (λ zs. (all ++ (if s y then y ∷ [] else [])) ++ merge both r s zs ys) opened_mine ∙ pushed all (merge both r s (x ∷ xs) ys) (s y) y ∙ ended _ (front_greater both r s x y xs ys e);
  }

-- one of the two lists is at its end
pub merge_end : (both : Bool) (r s : Placed → Bool) (mine theirs all : List Placed) (here there : ℕ) → (length mine ≤ here) ⊎ (length theirs ≤ there) → IsMerging both r s mine theirs all here there
    → (all ++ filter r (drop here mine)) ++ filter s (drop there theirs) ≡ merge both r s mine theirs
merge_end both r s mine theirs all here there at_end h = left at_end
  where
    left : (length mine ≤ here) ⊎ (length theirs ≤ there) → (all ++ filter r (drop here mine)) ++ filter s (drop there theirs) ≡ merge both r s mine theirs
    left (inl none) =
        let gone = drop_all here mine none in
        ap (λ xs. (all ++ filter r xs) ++ filter s (drop there theirs)) gone ∙ ap (λ zs. zs ++ filter s (drop there theirs)) (append-nil all)
        ∙ ap (λ xs. all ++ merge both r s xs (drop there theirs)) (sym gone) ∙ h.whole
    left (inr none) =
        let gone = drop_all there theirs none in
        ap (λ ys. (all ++ filter r (drop here mine)) ++ filter s ys) gone ∙ append-nil (all ++ filter r (drop here mine)) ∙ ap (λ zs. all ++ zs) (sym (merge_alone both r s (drop here mine)))
        ∙ ap (λ ys. all ++ merge both r s (drop here mine) ys) (sym gone) ∙ h.whole
