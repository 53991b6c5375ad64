-- The dots of a list that come into another, or go from it, one by one.
use Rattle.std.proofs.Common.{◌≡◌, ℕ, zero, suc, ◌+◌, ◌<◌, List, [], ◌∷◌, ◌++◌, length, take, Bool, true, false, not, ◌&&◌, ◌||◌, refl, ap, sym, ◌∙◌, subst, arith}
use Rattle.std.specs.List.{list_any}
use Rattle.std.specs.FinSet as set
use Rattle.model_history.specs.Texts.{Text}
use Rattle.model_history.specs.Vector.{VersionVector}
use Rattle.base_vectors.specs.declared.id.Dot.{Dot}
use Rattle.data_orset.specs.declared.set.SetDelta.{SetDelta}
use Rattle.data_orset.specs.Placing.{Placed, key_of, at_dot, dot_at, nth, IsNumbered, AreDots}
use Rattle.data_orset.specs.Dots.{Dots, contained, set_absorbed, set_combined}
use Rattle.data_orset.specs.DotLaws.{same_dots, contains-absorbed, contains-combined}
use Rattle.data_orset.specs.Keeping.{set_of, stays, AreMerged, AreLeft}
use Rattle.data_orset.proofs.Between.{any_append}
use Rattle.data_orset.proofs.SetsOfDots.{is_at, contains_set_of, key_test, merged_set}
use Rattle.data_orset.proofs.OneDot.{contains_one}
use Rattle.data_orset.proofs.Changes.{united_is}
use Rattle.data_orset.proofs.ElementsInOrder.{taken}
use Rattle.data_orset.proofs.Tables.{nth_at}

-- one more
contains_more : (qs : List Placed) (x : Placed) (k : List ℕ) → set.contains (set_of (qs ++ x ∷ [])) k ≡ (set.contains (set_of qs) k || set.contains (set_of (x ∷ [])) k)
contains_more qs x k =
    contains_set_of (qs ++ x ∷ []) k ∙ any_append (is_at k) qs (x ∷ []) ∙ ap (λ b. b || list_any (is_at k) (x ∷ [])) (sym (contains_set_of qs k)) ∙ ap (λ b. set.contains (set_of qs) k || b) (sym (contains_set_of (x ∷ []) k))

-- the rule says the same of the dot as of its key
ruled : (r : List ℕ → Bool) (x : Placed) (b : Bool) → r (key_of x) ≡ b → (k : List ℕ) → set.contains (set_of (x ∷ [])) k ≡ true → r k ≡ b
ruled r x b is k there = sym (key_test r k x (sym (contains_one x k) ∙ there)) ∙ is

module _ (r : List ℕ → Bool) (old : List Placed) where
  -- THEY COME

  pub unite_start : AreDots old → AreMerged true (λ _. true) r old [] old
  unite_start dots = record { dots = dots; has = λ k. alone (set.contains (set_of old) k) (r k) ∙ ap (stays true true (r k) (set.contains (set_of old) k)) (sym (contains_set_of [] k)) }
    where
      alone : (a r : Bool) → a ≡ stays true true r a false
      alone true r = refl
      alone false r = refl

  pub unite_put : (qs now next : List Placed) (x : Placed) → r (key_of x) ≡ true → AreMerged true (λ _. true) r old qs now → AreMerged true (λ _. true) (λ _. true) now (x ∷ []) next → AreMerged true (λ _. true) r old (qs ++ x ∷ []) next
  unite_put qs now next x kept h more = record {
    dots = more.dots;
    has = λ k. more.has k ∙ ap (λ a. stays true true true a (set.contains (set_of (x ∷ [])) k)) (h.has k)
        ∙ put (r k) (set.contains (set_of old) k) (set.contains (set_of qs) k) (set.contains (set_of (x ∷ [])) k) (ruled r x true kept k)
        ∙ ap (stays true true (r k) (set.contains (set_of old) k)) (sym (contains_more qs x k));
  }
    where
      put : (r a b x : Bool) → (x ≡ true → r ≡ true) → stays true true true (stays true true r a b) x ≡ stays true true r a (b || x)
      put r true true true h = refl
      put r true true false h = refl
      put r true false true h = refl
      put r true false false h = refl
      put true false true true h = refl
      put true false true false h = refl
      put true false false true h = refl
      put true false false false h = refl
      put false false true true h = sym (h refl)
      put false false true false h = refl
      put false false false true h = sym (h refl)
      put false false false false h = refl

  pub unite_skip : (qs now : List Placed) (x : Placed) → r (key_of x) ≡ false → AreMerged true (λ _. true) r old qs now → AreMerged true (λ _. true) r old (qs ++ x ∷ []) now
  unite_skip qs now x kept h = record {
    dots = h.dots;
    has = λ k. h.has k ∙ skip (r k) (set.contains (set_of old) k) (set.contains (set_of qs) k) (set.contains (set_of (x ∷ [])) k) (ruled r x false kept k)
        ∙ ap (stays true true (r k) (set.contains (set_of old) k)) (sym (contains_more qs x k));
  }
    where
      skip : (r a b x : Bool) → (x ≡ true → r ≡ false) → stays true true r a b ≡ stays true true r a (b || x)
      skip r true true x h = refl
      skip r true false true h = refl
      skip r true false false h = refl
      skip r false true x h = refl
      skip r false false true h = sym (h refl)
      skip r false false false h = refl

  -- THEY GO

  pub left_start : AreDots old → AreLeft r old [] old
  left_start dots = record { dots = dots; has = λ k. alone (set.contains (set_of old) k) (r k) ∙ ap (stays (r k) true false (set.contains (set_of old) k)) (sym (contains_set_of [] k)) }
    where
      alone : (a r : Bool) → a ≡ stays r true false a false
      alone true r = refl
      alone false r = refl

  pub left_take : (qs now next : List Placed) (x : Placed) → r (key_of x) ≡ false → AreLeft r old qs now → AreMerged false (λ _. true) (λ _. false) now (x ∷ []) next → AreLeft r old (qs ++ x ∷ []) next
  left_take qs now next x kept h less = record {
    dots = less.dots;
    has = λ k. less.has k ∙ ap (λ a. stays false true false a (set.contains (set_of (x ∷ [])) k)) (h.has k)
        ∙ take (r k) (set.contains (set_of old) k) (set.contains (set_of qs) k) (set.contains (set_of (x ∷ [])) k) (ruled r x false kept k)
        ∙ ap (stays (r k) true false (set.contains (set_of old) k)) (sym (contains_more qs x k));
  }
    where
      take : (r a b x : Bool) → (x ≡ true → r ≡ false) → stays false true false (stays r true false a b) x ≡ stays r true false a (b || x)
      take true true true true h = sym (h refl)
      take true true true false h = refl
      take true true false true h = sym (h refl)
      take true true false false h = refl
      take false true true true h = refl
      take false true true false h = refl
      take false true false true h = refl
      take false true false false h = refl
      take r false true true h = refl
      take r false true false h = refl
      take r false false true h = refl
      take r false false false h = refl

  pub left_skip : (qs now : List Placed) (x : Placed) → r (key_of x) ≡ true → AreLeft r old qs now → AreLeft r old (qs ++ x ∷ []) now
  left_skip qs now x kept h = record {
    dots = h.dots;
    has = λ k. h.has k ∙ skip (r k) (set.contains (set_of old) k) (set.contains (set_of qs) k) (set.contains (set_of (x ∷ [])) k) (ruled r x true kept k)
        ∙ ap (stays (r k) true false (set.contains (set_of old) k)) (sym (contains_more qs x k));
  }
    where
      skip : (r a b x : Bool) → (x ≡ true → r ≡ true) → stays r true false a b ≡ stays r true false a (b || x)
      skip r true true x h = refl
      skip r true false true h = sym (h refl)
      skip r true false false h = refl
      skip r false true x h = refl
      skip r false false true h = refl
      skip r false false false h = refl

-- THE NEXT DOT OF A LIST

same_dot : (p : Placed) (d : Dot) (e : Text) → d ≡ dot_at p → e ≡ p.element → at_dot d e ≡ p
same_dot p d e is named = λ i. at_dot (is i) (named i)

next_taken : (dots : List Placed) (i : ℕ) → i < length dots → take i dots ++ nth dots i ∷ [] ≡ take (i + 1) dots
next_taken dots i l = sym (taken dots i (nth dots i) l (nth_at dots i l))

module _ (r : List ℕ → Bool) (old dots now : List Placed) (i : ℕ) (inside : i < length dots) where
  pub united_more : (next : List Placed) (d : Dot) (e : Text) → r (key_of (nth dots i)) ≡ true → d ≡ dot_at (nth dots i) → e ≡ (nth dots i).element → AreMerged true (λ _. true) r old (take i dots) now
      → AreMerged true (λ _. true) (λ _. true) now (at_dot d e ∷ []) next → AreMerged true (λ _. true) r old (take (i + 1) dots) next
  united_more next d e kept is named h more =
      subst (λ (qs : List Placed). AreMerged true (λ _. true) r old qs next) (next_taken dots i inside)
      (unite_put r old (take i dots) now next (nth dots i) kept h (subst (λ (p : Placed). AreMerged true (λ _. true) (λ _. true) now (p ∷ []) next) (same_dot (nth dots i) d e is named) more))

  pub united_same : r (key_of (nth dots i)) ≡ false → AreMerged true (λ _. true) r old (take i dots) now → AreMerged true (λ _. true) r old (take (i + 1) dots) now
  united_same kept h = subst (λ (qs : List Placed). AreMerged true (λ _. true) r old qs now) (next_taken dots i inside) (unite_skip r old (take i dots) now (nth dots i) kept h)

  pub left_more : (next : List Placed) (d : Dot) (e : Text) → r (key_of (nth dots i)) ≡ false → d ≡ dot_at (nth dots i) → e ≡ (nth dots i).element → AreLeft r old (take i dots) now
      → AreMerged false (λ _. true) (λ _. false) now (at_dot d e ∷ []) next → AreLeft r old (take (i + 1) dots) next
  left_more next d e kept is named h less =
      subst (λ (qs : List Placed). AreLeft r old qs next) (next_taken dots i inside)
      (left_take r old (take i dots) now next (nth dots i) kept h (subst (λ (p : Placed). AreMerged false (λ _. true) (λ _. false) now (p ∷ []) next) (same_dot (nth dots i) d e is named) less))

  pub left_same : r (key_of (nth dots i)) ≡ true → AreLeft r old (take i dots) now → AreLeft r old (take (i + 1) dots) now
  left_same kept h = subst (λ (qs : List Placed). AreLeft r old qs now) (next_taken dots i inside) (left_skip r old (take i dots) now (nth dots i) kept h)

-- dots are numbered
pub numbered_at : (ps : List Placed) (i : ℕ) → AreDots ps → i < length ps → IsNumbered (nth ps i)
numbered_at [] i h l = absurd (omega arith)
numbered_at (p ∷ ps) zero h l = h.0
numbered_at (p ∷ ps) (suc i) h l = numbered_at ps i h.2 (omega arith)

-- A DELTA

-- the fresh dots that the context lacks come, and the seen ones go but for the fresh
pub absorbed_set : (a : Dots) (v : VersionVector) (d : SetDelta) (ps fresh seen mid now : List Placed) → set_of ps ≡ a → set_of fresh ≡ d.fresh → set_of seen ≡ d.seen
    → AreMerged true (λ _. true) (λ k. not (contained v k)) ps fresh mid → AreLeft (λ k. set.contains d.fresh k) mid seen now → set_of now ≡ set_absorbed a v d
absorbed_set a v d ps fresh seen mid now p q s m l = same_dots _ _ (λ k.
    l.has k ∙ ap (λ x. stays (set.contains d.fresh k) true false x (set.contains (set_of seen) k)) (m.has k)
    ∙ ap (λ t. stays (set.contains d.fresh k) true false (stays true true (not (contained v k)) (set.contains t k) (set.contains (set_of fresh) k)) (set.contains (set_of seen) k)) p
    ∙ ap (λ t. stays (set.contains d.fresh k) true false (stays true true (not (contained v k)) (set.contains a k) (set.contains t k)) (set.contains (set_of seen) k)) q
    ∙ ap (λ t. stays (set.contains d.fresh k) true false (stays true true (not (contained v k)) (set.contains a k) (set.contains d.fresh k)) (set.contains t k)) s
    ∙ go (set.contains a k) (set.contains d.seen k) (set.contains d.fresh k) (contained v k) ∙ sym (contains-absorbed a v d k))
  where
    go : (x s f m : Bool) → stays f true false (stays true true (not m) x f) s ≡ ((x && (not s || f)) || (f && not m))
    go true true true m = refl
    go true true false m = refl
    go true false true m = refl
    go true false false m = refl
    go false true true true = refl
    go false true true false = refl
    go false false true true = refl
    go false false true false = refl
    go false true false m = refl
    go false false false m = refl

-- a later delta's fresh dots come, and those that it has seen go but for them
pub combined_fresh : (first later : SetDelta) (ps fresh seen mid now : List Placed) → set_of ps ≡ first.fresh → set_of fresh ≡ later.fresh → set_of seen ≡ later.seen
    → AreMerged true (λ _. true) (λ _. true) ps fresh mid → AreLeft (λ k. set.contains later.fresh k) mid seen now → set_of now ≡ (set_combined first later).fresh
combined_fresh first later ps fresh seen mid now p q s m l = same_dots _ _ (λ k.
    l.has k ∙ ap (λ x. stays (set.contains later.fresh k) true false x (set.contains (set_of seen) k)) (m.has k)
    ∙ ap (λ t. stays (set.contains later.fresh k) true false (stays true true true (set.contains t k) (set.contains (set_of fresh) k)) (set.contains (set_of seen) k)) p
    ∙ ap (λ t. stays (set.contains later.fresh k) true false (stays true true true (set.contains first.fresh k) (set.contains t k)) (set.contains (set_of seen) k)) q
    ∙ ap (λ t. stays (set.contains later.fresh k) true false (stays true true true (set.contains first.fresh k) (set.contains later.fresh k)) (set.contains t k)) s
    ∙ go (set.contains first.fresh k) (set.contains later.fresh k) (set.contains later.seen k) ∙ sym (contains-combined first later k))
  where
    go : (a f s : Bool) → stays f true false (stays true true true a f) s ≡ (f || (a && not s))
    go true true true = refl
    go true true false = refl
    go true false true = refl
    go true false false = refl
    go false true true = refl
    go false true false = refl
    go false false true = refl
    go false false false = refl

pub combined_seen : (first later : SetDelta) (ps seen now : List Placed) → set_of ps ≡ first.seen → set_of seen ≡ later.seen → AreMerged true (λ _. true) (λ _. true) ps seen now → set_of now ≡ (set_combined first later).seen
combined_seen first later ps seen now p s m = merged_set true (λ _. true) (λ _. true) ps seen now first.seen later.seen p s m ∙ united_is first.seen later.seen
