-- One dot that comes into a list of dots, or goes.
use Rattle.std.proofs.Common.{◌≡◌, ℕ, zero, suc, ◌+◌, ◌<◌, ◌≤◌, List, [], ◌∷◌, ◌++◌, length, take, drop, Bool, true, false, cond, not, ◌&&◌, ◌||◌, refl, ap, sym, ◌∙◌, subst, arith}
use Rattle.std.specs.List.{filter, list_any}
use Rattle.std.specs.declared.cmp.Ordering.TheVariants.{Less}
use Rattle.std.specs.FinSet as set
use Rattle.std.proofs.lemmas.List.{take-append-drop}
use mathlib.Core.Bool.{or-false}
use Rattle.data_orset.specs.Placing.{Placed, key_of, nth, placed_order, IsBeforeAll, IsNumbered, AreDots}
use Rattle.data_orset.specs.Keeping.{set_of, stays, AreMerged}
use Rattle.data_orset.specs.DotLaws.{itself}
use Rattle.data_orset.proofs.Placings.{IsOfOne, before_all, never_before_itself}
use Rattle.data_orset.proofs.Between.{before_nth, before_put, any_append, turned, has_at}
use Rattle.data_orset.proofs.SetsOfDots.{is_at, one_at, contains_set_of, contains_filter, filtered_dots}

-- WHERE IT BELONGS

-- the dots before an index come before the dot, and those from it on after it
pub record IsGapOf (ps : List Placed) (x : Placed) (i : ℕ) : Type 0 where
  pub within : i ≤ length ps
  pub before : (j : ℕ) → j < i → placed_order (nth ps j) x ≡ Less
  pub after : (j : ℕ) → i ≤ j → j < length ps → placed_order x (nth ps j) ≡ Less

gap_later : (p : Placed) (ps : List Placed) (x : Placed) (i : ℕ) → IsGapOf (p ∷ ps) x (suc i) → IsGapOf ps x i
gap_later p ps x i h =
    let within = h.within in record {
      within = omega arith;
      before = λ j l. h.before (suc j) (omega arith);
      after = λ j le l. h.after (suc j) (omega arith) (omega arith);
    }

gap_first : (p : Placed) (ps : List Placed) (x : Placed) → IsGapOf (p ∷ ps) x 0 → IsGapOf ps x 0
gap_first p ps x h = record { within = omega arith; before = λ j l. absurd (omega arith); after = λ j le l. h.after (suc j) (omega arith) (omega arith) }

module _ (at : Placed → Bool) (o : IsOfOne at) (x : Placed) (there : at x ≡ true) where
  not_less : (p : Placed) → placed_order p x ≡ Less → at p ≡ false
  not_less p less = go (at p) refl
    where
      go : (b : Bool) → at p ≡ b → at p ≡ false
      go true is = absurd (never_before_itself x (ap (λ q. placed_order q x) (o.one x p there is) ∙ less))
      go false is = is

  not_more : (p : Placed) → placed_order x p ≡ Less → at p ≡ false
  not_more p less = go (at p) refl
    where
      go : (b : Bool) → at p ≡ b → at p ≡ false
      go true is = absurd (never_before_itself x (ap (placed_order x) (o.one x p there is) ∙ less))
      go false is = is

  -- where it belongs it is not
  pub absent_gap : (ps : List Placed) (i : ℕ) → IsGapOf ps x i → list_any at ps ≡ false
  absent_gap [] i h = refl
  absent_gap (p ∷ ps) zero h = ap (λ b. b || list_any at ps) (not_more p (h.after 0 (omega arith) (omega arith))) ∙ absent_gap ps 0 (gap_first p ps x h)
  absent_gap (p ∷ ps) (suc i) h = ap (λ b. b || list_any at ps) (not_less p (h.before 0 (omega arith))) ∙ absent_gap ps i (gap_later p ps x i h)

  absent_all : (ps : List Placed) → IsBeforeAll x ps → filter (λ p. not (at p)) ps ≡ ps
  absent_all [] h = refl
  absent_all (p ∷ ps) h =
      ap (λ b. cond (not b) (p ∷ filter (λ p. not (at p)) ps) (filter (λ p. not (at p)) ps)) (not_more p h.0) ∙ ap (λ (qs : List Placed). p ∷ qs) (absent_all ps h.1)

  -- the others are those that the test fails
  rest_is : (ps : List Placed) (i : ℕ) → AreDots ps → i < length ps → nth ps i ≡ x → take i ps ++ drop (i + 1) ps ≡ filter (λ p. not (at p)) ps
  rest_is [] i d l is = absurd (omega arith)
  rest_is (p ∷ ps) zero d l is =
      sym (ap (λ b. cond (not b) (p ∷ filter (λ p. not (at p)) ps) (filter (λ p. not (at p)) ps)) (ap at is ∙ there) ∙ absent_all ps (subst (λ q. IsBeforeAll q ps) is d.1))
  rest_is (p ∷ ps) (suc i) d l is =
      let next : suc i + 1 ≡ suc (i + 1) = omega arith in
      let less : placed_order p x ≡ Less = ap (placed_order p) (sym is) ∙ before_nth p ps i d.1 (omega arith) in
      ap (λ n. p ∷ (take i ps ++ drop n (p ∷ ps))) next ∙ ap (λ (qs : List Placed). p ∷ qs) (rest_is ps i d.2 (omega arith) is)
      ∙ sym (ap (λ b. cond (not b) (p ∷ filter (λ p. not (at p)) ps) (filter (λ p. not (at p)) ps)) (not_less p less))

-- IT COMES

dots_in_gap : (ps : List Placed) (x : Placed) (i : ℕ) → IsNumbered x → AreDots ps → IsGapOf ps x i → AreDots (take i ps ++ x ∷ drop i ps)
dots_in_gap [] x zero numbered dots h = (numbered, tt, tt)
dots_in_gap [] x (suc i) numbered dots h = (numbered, tt, tt)
dots_in_gap (p ∷ ps) x zero numbered dots h =
    let less = h.after 0 (omega arith) (omega arith) in
    (numbered, (less, before_all x p ps less dots.1), dots)
dots_in_gap (p ∷ ps) x (suc i) numbered dots h =
    (dots.0, before_put p x ps i i (h.before 0 (omega arith)) dots.1, dots_in_gap ps x i numbered dots.2 (gap_later p ps x i h))

one_of_both : (a b : Bool) → (a || b) ≡ stays true true true a b
one_of_both true true = refl
one_of_both true false = refl
one_of_both false true = refl
one_of_both false false = refl

pub contains_one : (x : Placed) (k : List ℕ) → set.contains (set_of (x ∷ [])) k ≡ is_at k x
contains_one x k = contains_set_of (x ∷ []) k ∙ or-false (is_at k x)

pub put_one : (ps : List Placed) (x : Placed) (i : ℕ) → IsNumbered x → AreDots ps → IsGapOf ps x i → AreMerged true (λ _. true) (λ _. true) ps (x ∷ []) (take i ps ++ x ∷ drop i ps)
put_one ps x i numbered dots h = record {
  dots = dots_in_gap ps x i numbered dots h;
  has = λ k. contains_set_of (take i ps ++ x ∷ drop i ps) k ∙ any_append (is_at k) (take i ps) (x ∷ drop i ps)
      ∙ turned (list_any (is_at k) (take i ps)) (is_at k x) (list_any (is_at k) (drop i ps))
      ∙ ap (λ b. b || (is_at k x || false)) (sym (any_append (is_at k) (take i ps) (drop i ps)) ∙ ap (list_any (is_at k)) (take-append-drop i ps))
      ∙ ap (λ b. b || (is_at k x || false)) (sym (contains_set_of ps k)) ∙ ap (λ b. set.contains (set_of ps) k || b) (sym (contains_set_of (x ∷ []) k))
      ∙ one_of_both (set.contains (set_of ps) k) (set.contains (set_of (x ∷ [])) k);
}

-- a dot of the list is there already
pub put_again : (ps : List Placed) (x : Placed) (i : ℕ) → AreDots ps → i < length ps → nth ps i ≡ x → AreMerged true (λ _. true) (λ _. true) ps (x ∷ []) ps
put_again ps x i dots l is = record {
  dots = dots;
  has = λ k. no_more (set.contains (set_of ps) k) (set.contains (set_of (x ∷ [])) k)
      (λ e. contains_set_of ps k ∙ has_at (is_at k) ps i l (ap (is_at k) is ∙ sym (contains_one x k) ∙ e));
}
  where
    no_more : (a b : Bool) → (b ≡ true → a ≡ true) → a ≡ stays true true true a b
    no_more true true h = refl
    no_more true false h = refl
    no_more false true h = h refl
    no_more false false h = refl

-- IT GOES

-- whether a dot is the one
abbrev is_the : Placed → Placed → Bool
is_the x p = set.contains (set_of (x ∷ [])) (key_of p)

the_one : (x p : Placed) → is_the x p ≡ true → p ≡ x
the_one x p e = (one_at (key_of p)).one p x (itself (key_of p)) (sym (contains_one x (key_of p)) ∙ e)

the_is_one : (x : Placed) → IsOfOne (is_the x)
the_is_one x = record { one = λ p q a b. the_one x p a ∙ sym (the_one x q b) }

pub take_one : (ps : List Placed) (x : Placed) (i : ℕ) → AreDots ps → i < length ps → nth ps i ≡ x → AreMerged false (λ _. true) (λ _. false) ps (x ∷ []) (take i ps ++ drop (i + 1) ps)
take_one ps x i dots l is =
    let rest = rest_is (is_the x) (the_is_one x) x (contains_one x (key_of x) ∙ itself (key_of x)) ps i dots l is in record {
      dots = filtered_dots (λ p. not (is_the x p)) ps (take i ps ++ drop (i + 1) ps) dots rest;
      has = λ k. ap (λ qs. set.contains (set_of qs) k) rest ∙ contains_filter (λ q. not (set.contains (set_of (x ∷ [])) q)) ps k ∙ left (set.contains (set_of ps) k) (set.contains (set_of (x ∷ [])) k);
    }
  where
    left : (a b : Bool) → (a && not b) ≡ stays false true false a b
    left true true = refl
    left true false = refl
    left false true = refl
    left false false = refl

-- what is not there can't go
pub take_none : (ps : List Placed) (x : Placed) → AreDots ps → ((k : List ℕ) → is_at k x ≡ true → list_any (is_at k) ps ≡ false) → AreMerged false (λ _. true) (λ _. false) ps (x ∷ []) ps
take_none ps x dots absent = record {
  dots = dots;
  has = λ k. none (set.contains (set_of ps) k) (set.contains (set_of (x ∷ [])) k) (λ e. contains_set_of ps k ∙ absent k (sym (contains_one x k) ∙ e));
}
  where
    none : (a b : Bool) → (b ≡ true → a ≡ false) → a ≡ stays false true false a b
    none true true h = h refl
    none true false h = refl
    none false true h = refl
    none false false h = refl
