-- Merging two rising lists of texts, and where a text belongs in one.
use Rattle.std.proofs.Common.{◌≡◌, ℕ, zero, suc, ◌+◌, ◌-◌, ◌<◌, ◌≤◌, ◌⊎◌, inl, inr, List, [], ◌∷◌, ◌++◌, length, length-drop, take, drop, get_or, Bool, true, false, ◌||◌, cond, refl, ap, sym, ◌∙◌, subst, arith, append_assoc}
use Rattle.std.specs.Prelude.{fold, if◌then◌else◌}
use Rattle.std.specs.declared.cmp.Ordering.TheVariants.{Less, Equal, Greater}
use Rattle.std.specs.Str.{bytes_eq}
use Rattle.std.proofs.Math.Seq.{drop-cons}
use Rattle.std.proofs.lemmas.List.{take_more, take_all, drop_all, append-nil}
use mathlib.Core.Bool.{or-false}
use Rattle.model_history.specs.Texts.{Text, text_lt, with_text, text_set, contains_text}
use Rattle.base_bytes.specs.TextOrder.{text_order, IsBelowAll, IsRising}
use Rattle.data_growing.specs.Texts.{IsPlace}
use Rattle.base_bytes.proofs.TextLaws.{order_less, order_equal, order_greater, lt_one_way, eq_texts, texts_eq, lt_differ, lt_differ_too}
use Rattle.data_growing.specs.TextSetLaws.{below_all_of_less, below_all, absent_before, contains_append, contains_set, rising_set, is_set, own_set}

pub rising_drop : (xs : List Text) (n : ℕ) → IsRising xs → IsRising (drop n xs)
rising_drop xs zero h = h
rising_drop [] (suc n) h = tt
rising_drop (x ∷ xs) (suc n) h = rising_drop xs n h.1

-- the text at an index, and those after it
pub drop_here : (xs : List Text) (i : ℕ) (x : Text) → i < length xs → x ≡ get_or xs i x → drop i xs ≡ x ∷ drop (i + 1) xs
drop_here xs i x l e = let next : suc i ≡ i + 1 = omega arith in drop-cons xs i x l ∙ ap (λ y. y ∷ drop (suc i) xs) (sym e) ∙ ap (λ n. x ∷ drop n xs) next

take_here : (xs : List Text) (i : ℕ) (x : Text) → i < length xs → x ≡ get_or xs i x → take (i + 1) xs ≡ take i xs ++ x ∷ []
take_here xs i x l e = take_more xs i x l ∙ ap (λ y. take i xs ++ y ∷ []) (sym e)

-- WHERE A TEXT BELONGS

-- the texts before an index come before the text
pub record IsSearched (texts : List Text) (text : Text) (index : ℕ) : Type 0 where
  pub within : index ≤ length texts
  pub absent : contains_text texts text ≡ contains_text (drop index texts) text
  pub sorted : with_text texts text ≡ take index texts ++ with_text (drop index texts) text

pub search_start : (xs : List Text) (e : Text) → IsSearched xs e 0
search_start xs e = record { within = omega arith; absent = refl; sorted = refl }

with_after : (e x : Text) (xs : List Text) → text_lt x e ≡ true → with_text (x ∷ xs) e ≡ x ∷ with_text xs e
with_after e x xs p =
    ap (λ b. cond b (x ∷ xs) (cond (text_lt e x) (e ∷ x ∷ xs) (x ∷ with_text xs e))) (lt_differ_too x e p) ∙ ap (λ b. cond b (e ∷ x ∷ xs) (x ∷ with_text xs e)) (lt_one_way x e p)

with_before : (e x : Text) (xs : List Text) → text_lt e x ≡ true → with_text (x ∷ xs) e ≡ e ∷ x ∷ xs
with_before e x xs p =
    ap (λ b. cond b (x ∷ xs) (cond (text_lt e x) (e ∷ x ∷ xs) (x ∷ with_text xs e))) (lt_differ e x p) ∙ ap (λ b. cond b (e ∷ x ∷ xs) (x ∷ with_text xs e)) p

pub search_less : (xs : List Text) (e x : Text) (i : ℕ) → i < length xs → x ≡ get_or xs i x → text_order x e ≡ Less → IsSearched xs e i → IsSearched xs e (i + 1)
search_less xs e x i l at less h =
    let here = drop_here xs i x l at in
    let before = order_less x e less in record {
      within = omega arith;
      absent = h.absent ∙ ap (λ ys. contains_text ys e) here ∙ ap (λ b. b || contains_text (drop (i + 1) xs) e) (lt_differ_too x e before);
      sorted =
          h.sorted ∙ ap (λ ys. take i xs ++ with_text ys e) here ∙ ap (λ ys. take i xs ++ ys) (with_after e x (drop (i + 1) xs) before)
          ∙ sym (append_assoc (take i xs) (x ∷ []) (with_text (drop (i + 1) xs) e)) ∙ ap (λ ys. ys ++ with_text (drop (i + 1) xs) e) (sym (take_here xs i x l at));
    }

pub search_equal : (xs : List Text) (e x : Text) (i : ℕ) → i < length xs → x ≡ get_or xs i x → text_order x e ≡ Equal → IsSearched xs e i → contains_text xs e ≡ true
search_equal xs e x i l at equal h =
    h.absent ∙ ap (λ ys. contains_text ys e) (drop_here xs i x l at) ∙ ap (λ b. b || contains_text (drop (i + 1) xs) e) (ap (bytes_eq e) (order_equal x e equal) ∙ texts_eq e)

fold_more : (base xs : List Text) (e : Text) → fold with_text base (xs ++ e ∷ []) ≡ with_text (fold with_text base xs) e
fold_more base [] e = refl
fold_more base (x ∷ xs) e = fold_more (with_text base x) xs e

-- a rising list with one text more
pub set_with : (xs : List Text) (e : Text) → IsRising xs → text_set (xs ++ e ∷ []) ≡ with_text xs e
set_with xs e h = fold_more [] xs e ∙ ap (λ ys. with_text ys e) (sym (own_set xs h))

pub search_greater : (xs : List Text) (e x : Text) (i : ℕ) → IsRising xs → i < length xs → x ≡ get_or xs i x → text_order x e ≡ Greater → IsSearched xs e i → IsPlace xs e i
search_greater xs e x i rising l at greater h =
    let here = drop_here xs i x l at in
    let before = order_greater x e greater in
    let rest : IsRising (x ∷ drop (i + 1) xs) = subst IsRising here (rising_drop xs i rising) in record {
      within = h.within;
      absent = h.absent ∙ ap (λ ys. contains_text ys e) here ∙ absent_before e x (drop (i + 1) xs) before rest;
      sorted = sym (set_with xs e rising ∙ h.sorted ∙ ap (λ ys. take i xs ++ with_text ys e) here ∙ ap (λ ys. take i xs ++ ys) (with_before e x (drop (i + 1) xs) before) ∙ ap (λ ys. take i xs ++ e ∷ ys) (sym here));
    }

pub search_end : (xs : List Text) (e : Text) (i : ℕ) → IsRising xs → length xs ≤ i → IsSearched xs e i → IsPlace xs e i
search_end xs e i rising l h =
    let none = drop_all i xs l in record {
      within = h.within;
      absent = h.absent ∙ ap (λ ys. contains_text ys e) none;
      sorted = sym (set_with xs e rising ∙ h.sorted ∙ ap (λ ys. take i xs ++ with_text ys e) none ∙ ap (λ ys. take i xs ++ e ∷ ys) (sym none));
    }

-- MERGING

-- the first text of a set of ws, where zs are the others
front_of : (x : Text) (zs ws : List Text) → IsBelowAll x zs → ((e : Text) → (bytes_eq e x || contains_text zs e) ≡ contains_text ws e) → text_set ws ≡ x ∷ text_set zs
front_of x zs ws below same = sym (is_set (x ∷ text_set zs) ws (below_all x [] zs tt below, rising_set zs) (λ e. ap (λ b. bytes_eq e x || b) (contains_set zs e) ∙ same e))

below_both : (x : Text) (xs ys : List Text) → IsBelowAll x xs → IsBelowAll x ys → IsBelowAll x (xs ++ ys)
below_both x [] ys p q = q
below_both x (z ∷ xs) ys p q = (p.0, below_both x xs ys p.1 q)

front_less : (x y : Text) (xs ys : List Text) → IsRising (x ∷ xs) → IsRising (y ∷ ys) → text_lt x y ≡ true → text_set ((x ∷ xs) ++ (y ∷ ys)) ≡ x ∷ text_set (xs ++ y ∷ ys)
front_less x y xs ys p q less = front_of x (xs ++ y ∷ ys) ((x ∷ xs) ++ (y ∷ ys)) (below_both x xs (y ∷ ys) p.0 (less, below_all_of_less x y ys less q.0)) (λ e. refl)

front_equal : (x y : Text) (xs ys : List Text) → IsRising (x ∷ xs) → IsRising (y ∷ ys) → x ≡ y → text_set ((x ∷ xs) ++ (y ∷ ys)) ≡ x ∷ text_set (xs ++ ys)
front_equal x y xs ys p q same = front_of x (xs ++ ys) ((x ∷ xs) ++ (y ∷ ys)) (below_both x xs ys p.0 (subst (λ z. IsBelowAll z ys) (sym same) q.0)) (λ e.
    ap (λ b. bytes_eq e x || b) (contains_append xs ys e) ∙ twice (bytes_eq e x) (contains_text xs e) (contains_text ys e)
    ∙ ap (λ z. bytes_eq e x || (contains_text xs e || (bytes_eq e z || contains_text ys e))) same ∙ ap (λ b. bytes_eq e x || b) (sym (contains_append xs (y ∷ ys) e)))
  where
    twice : (a b c : Bool) → (a || (b || c)) ≡ (a || (b || (a || c)))
    twice true b c = refl
    twice false b c = refl

front_greater : (x y : Text) (xs ys : List Text) → IsRising (x ∷ xs) → IsRising (y ∷ ys) → text_lt y x ≡ true → text_set ((x ∷ xs) ++ (y ∷ ys)) ≡ y ∷ text_set ((x ∷ xs) ++ ys)
front_greater x y xs ys p q more = front_of y ((x ∷ xs) ++ ys) ((x ∷ xs) ++ (y ∷ ys)) (below_both y (x ∷ xs) ys (more, below_all_of_less y x xs more p.0) q.0) (λ e.
    ap (λ b. bytes_eq e y || b) (contains_append (x ∷ xs) ys e) ∙ between (bytes_eq e y) (contains_text (x ∷ xs) e) (contains_text ys e) ∙ sym (contains_append (x ∷ xs) (y ∷ ys) e))
  where
    between : (a b c : Bool) → (a || (b || c)) ≡ (b || (a || c))
    between true true c = refl
    between true false c = refl
    between false b c = refl

-- what was merged, and what is left of both
pub record IsMerged (mine theirs all : List Text) (here there : ℕ) : Type 0 where
  pub mine_within : here ≤ length mine
  pub theirs_within : there ≤ length theirs
  pub sorted : all ++ text_set (drop here mine ++ drop there theirs) ≡ text_set (mine ++ theirs)

pub merge_start : (mine theirs : List Text) → IsMerged mine theirs [] 0 0
merge_start mine theirs = record { mine_within = omega arith; theirs_within = omega arith; sorted = refl }

moved : (all : List Text) (x : Text) (rest whole : List Text) → rest ≡ x ∷ whole → (all ++ x ∷ []) ++ whole ≡ all ++ rest
moved all x rest whole e = append_assoc all (x ∷ []) whole ∙ ap (λ ys. all ++ ys) (sym e)

module _ (mine theirs all : List Text) (here there : ℕ) (x y : Text) (rising : IsRising mine) (theirs_rising : IsRising theirs)
    (inside : here < length mine) (theirs_inside : there < length theirs) (at : x ≡ get_or mine here x) (theirs_at : y ≡ get_or theirs there y) (h : IsMerged mine theirs all here there) where
  first : IsRising (x ∷ drop (here + 1) mine)
  first = subst IsRising (drop_here mine here x inside at) (rising_drop mine here rising)

  their_first : IsRising (y ∷ drop (there + 1) theirs)
  their_first = subst IsRising (drop_here theirs there y theirs_inside theirs_at) (rising_drop theirs there theirs_rising)

  opened : text_set (drop here mine ++ drop there theirs) ≡ text_set ((x ∷ drop (here + 1) mine) ++ (y ∷ drop (there + 1) theirs))
  opened = ap (λ xs. text_set (xs ++ drop there theirs)) (drop_here mine here x inside at) ∙ ap (λ ys. text_set ((x ∷ drop (here + 1) mine) ++ ys)) (drop_here theirs there y theirs_inside theirs_at)

  pub merge_less : text_order x y ≡ Less → IsMerged mine theirs (all ++ x ∷ []) (here + 1) there
  merge_less less = record {
    mine_within = omega arith;
    theirs_within = h.theirs_within;
    sorted = ap (λ ys. (all ++ x ∷ []) ++ text_set (drop (here + 1) mine ++ ys)) (drop_here theirs there y theirs_inside theirs_at)
        ∙ moved all x _ _ (opened ∙ front_less x y _ _ first their_first (order_less x y less)) ∙ h.sorted;
  }

  pub merge_equal : text_order x y ≡ Equal → IsMerged mine theirs (all ++ x ∷ []) (here + 1) (there + 1)
  merge_equal equal = record {
    mine_within = omega arith;
    theirs_within = omega arith;
    sorted = moved all x _ _ (opened ∙ front_equal x y _ _ first their_first (order_equal x y equal)) ∙ h.sorted;
  }

  pub merge_greater : text_order x y ≡ Greater → IsMerged mine theirs (all ++ y ∷ []) here (there + 1)
  merge_greater greater = record {
    mine_within = h.mine_within;
    theirs_within = omega arith;
    sorted = ap (λ xs. (all ++ y ∷ []) ++ text_set (xs ++ drop (there + 1) theirs)) (drop_here mine here x inside at)
        ∙ moved all y _ _ (opened ∙ front_greater x y _ _ first their_first (order_greater x y greater)) ∙ h.sorted;
  }

take_rest : (xs : List Text) (i : ℕ) → take (length xs - i) (drop i xs) ≡ drop i xs
take_rest xs i = take_all (length xs - i) (drop i xs) (omega (arith, length-drop i xs))

-- one of the two lists is at its end
pub merge_end : (mine theirs all : List Text) (here there : ℕ) → IsRising mine → IsRising theirs → (length mine ≤ here) ⊎ (length theirs ≤ there) → IsMerged mine theirs all here there
    → (all ++ take (length mine - here) (drop here mine)) ++ take (length theirs - there) (drop there theirs) ≡ text_set (mine ++ theirs)
merge_end mine theirs all here there rising theirs_rising ended h =
    ap (λ xs. (all ++ xs) ++ take (length theirs - there) (drop there theirs)) (take_rest mine here) ∙ ap (λ ys. (all ++ drop here mine) ++ ys) (take_rest theirs there)
    ∙ append_assoc all (drop here mine) (drop there theirs) ∙ ap (λ ys. all ++ ys) (own_set (drop here mine ++ drop there theirs) (left ended)) ∙ h.sorted
  where
    left : (length mine ≤ here) ⊎ (length theirs ≤ there) → IsRising (drop here mine ++ drop there theirs)
    left (inl none) = subst IsRising (sym (ap (λ xs. xs ++ drop there theirs) (drop_all here mine none))) (rising_drop theirs there theirs_rising)
    left (inr none) = subst IsRising (sym (ap (λ ys. drop here mine ++ ys) (drop_all there theirs none) ∙ append-nil (drop here mine))) (rising_drop mine here rising)

-- ONE TEXT MORE

pub present_set : (xs : List Text) (e : Text) → IsRising xs → contains_text xs e ≡ true → xs ≡ text_set (xs ++ e ∷ [])
present_set xs e h there = is_set xs (xs ++ e ∷ []) h (λ f. go f (bytes_eq f e) refl ∙ sym (contains_append xs (e ∷ []) f))
  where
    go : (f : Text) (b : Bool) → bytes_eq f e ≡ b → contains_text xs f ≡ (contains_text xs f || (bytes_eq f e || false))
    go f true is =
        let here : contains_text xs f ≡ true = ap (contains_text xs) (eq_texts f e is) ∙ there in
        here ∙ sym (ap (λ b. b || (bytes_eq f e || false)) here)
    go f false is = sym (ap (λ b. contains_text xs f || (b || false)) is ∙ or-false (contains_text xs f))

pub rising_either : (b : Bool) (xs ys zs : List Text) → zs ≡ (if b then xs else ys) → IsRising xs → IsRising ys → IsRising zs
rising_either true xs ys zs e p q = subst IsRising (sym e) p
rising_either false xs ys zs e p q = subst IsRising (sym e) q

pub rising_of_set : (xs ys : List Text) → xs ≡ text_set ys → IsRising xs
rising_of_set xs ys e = subst IsRising (sym e) (rising_set ys)

-- TEXTS ONE BY ONE

pub no_more : (xs : List Text) → IsRising xs → xs ≡ text_set (xs ++ [])
no_more xs h = own_set xs h ∙ ap text_set (sym (append-nil xs))

-- one more of other texts in a list that has those before it
pub one_more : (xs others now : List Text) (x : Text) (i : ℕ) → i < length others → x ≡ get_or others i x → now ≡ text_set (xs ++ take i others) → text_set (now ++ x ∷ []) ≡ text_set (xs ++ take (i + 1) others)
one_more xs others now x i l at is =
    ap (λ ys. text_set (ys ++ x ∷ [])) is ∙ set_with (text_set (xs ++ take i others)) x (rising_set (xs ++ take i others)) ∙ sym (fold_more [] (xs ++ take i others) x)
    ∙ ap text_set (append_assoc xs (take i others) (x ∷ [])) ∙ ap (λ ys. text_set (xs ++ ys)) (sym (take_here others i x l at))
