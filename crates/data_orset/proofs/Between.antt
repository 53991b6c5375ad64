-- Where the dots of an element stand in a list of dots, and what is put in their place.
use Rattle.std.proofs.Common.{◌≡◌, ℕ, zero, suc, ◌<◌, ◌≤◌, inl, inr, List, [], ◌∷◌, ◌++◌, length, take, drop, Bool, true, false, cond, not, ◌||◌, refl, ap, sym, ◌∙◌, subst, arith, nat_lt}
use Rattle.std.specs.List.{filter, list_any}
use Rattle.std.specs.Str.{bytes_eq}
use Rattle.std.specs.Ordering.{nat_cmp, ordering_then}
use Rattle.std.specs.declared.cmp.Ordering.TheVariants.{Less}
use Rattle.std.specs.FinSet as set
use Rattle.std.proofs.lemmas.List.{take-append-drop}
use Rattle.std.proofs.lemmas.Bool.Decides.{nat_tests}
use Rattle.std.specs.Cmp.Lexicographic.{nat_list_cmp_total}
use Rattle.model_history.specs.Texts.{Text, text_lt}
use Rattle.base_bytes.proofs.TextLaws.{less_order, lt_trans, lt_differ, lt_differ_too, texts_eq}
use Rattle.data_orset.specs.Placing.{Placed, nth, placed_order, IsBeforeAll, IsNumbered, AreDots}
use Rattle.data_orset.specs.Keeping.{IsRunOf, set_of}
use Rattle.data_orset.specs.DotLaws.{same_dots}
use Rattle.data_orset.proofs.Placings.{before_all}
use Rattle.data_orset.proofs.ElementsInOrder.{IsUpto, before_upto}
use Rattle.data_orset.proofs.SetsOfDots.{is_at, contains_set_of}

-- THE ORDER OF THE ELEMENTS

pub before_nth : (p : Placed) (ps : List Placed) (i : ℕ) → IsBeforeAll p ps → i < length ps → placed_order p (nth ps i) ≡ Less
before_nth p [] i h l = absurd (omega arith)
before_nth p (q ∷ ps) zero h l = h.0
before_nth p (q ∷ ps) (suc i) h l = before_nth p ps i h.1 (omega arith)

pub upto_nth : (ps : List Placed) (i j : ℕ) → AreDots ps → i ≤ j → j < length ps → IsUpto (nth ps i).element (nth ps j).element
upto_nth [] i j h le l = absurd (omega arith)
upto_nth (p ∷ ps) zero zero h le l = inr refl
upto_nth (p ∷ ps) (suc i) zero h le l = absurd (omega arith)
upto_nth (p ∷ ps) zero (suc j) h le l = before_upto p (nth ps j) (before_nth p ps j h.1 (omega arith))
upto_nth (p ∷ ps) (suc i) (suc j) h le l = upto_nth ps i j h.2 (omega arith) (omega arith)

pub upto_lt : (x y e : Text) → IsUpto x y → text_lt y e ≡ true → text_lt x e ≡ true
upto_lt x y e (inl less) h = lt_trans x y e less h
upto_lt x y e (inr same) h = subst (λ z. text_lt z e ≡ true) (sym same) h

-- WITHOUT THE FIRST DOT

both_later : (p : Placed) (ps : List Placed) (e : Text) (s t : ℕ) → IsRunOf (p ∷ ps) e (suc s) (suc t) → IsRunOf ps e s t
both_later p ps e s t h =
    let order = h.order in
    let within = h.within in
    record { order = omega arith; within = omega arith; before = λ i l. h.before (suc i) (omega arith); named = λ i l m. h.named (suc i) (omega arith) (omega arith); after = λ i l m. h.after (suc i) (omega arith) (omega arith) }

end_later : (p : Placed) (ps : List Placed) (e : Text) (t : ℕ) → IsRunOf (p ∷ ps) e 0 (suc t) → IsRunOf ps e 0 t
end_later p ps e t h =
    let within = h.within in
    record { order = omega arith; within = omega arith; before = λ i l. absurd (omega arith); named = λ i l m. h.named (suc i) (omega arith) (omega arith); after = λ i l m. h.after (suc i) (omega arith) (omega arith) }

none_later : (p : Placed) (ps : List Placed) (e : Text) → IsRunOf (p ∷ ps) e 0 0 → IsRunOf ps e 0 0
none_later p ps e h =
    record { order = omega arith; within = omega arith; before = λ i l. absurd (omega arith); named = λ i l m. absurd (omega arith); after = λ i l m. h.after (suc i) (omega arith) (omega arith) }

-- THE DOTS OF THE ELEMENT, AND THE OTHERS

abbrev has_name : Text → Placed → Bool
has_name e p = bytes_eq e p.element

pub named_run : (ps : List Placed) (e : Text) (s t : ℕ) → IsRunOf ps e s t → filter (has_name e) ps ≡ drop s (take t ps)
named_run [] e zero zero h = refl
named_run [] e zero (suc t) h = refl
named_run [] e (suc s) zero h = refl
named_run [] e (suc s) (suc t) h = refl
named_run (p ∷ ps) e (suc s) zero h = absurd (let order = h.order in omega arith)
named_run (p ∷ ps) e zero zero h = ap (λ b. cond b (p ∷ filter (has_name e) ps) (filter (has_name e) ps)) (lt_differ e p.element (h.after 0 (omega arith) (omega arith))) ∙ named_run ps e 0 0 (none_later p ps e h)
named_run (p ∷ ps) e zero (suc t) h =
    ap (λ b. cond b (p ∷ filter (has_name e) ps) (filter (has_name e) ps)) (ap (λ x. bytes_eq x p.element) (sym (h.named 0 (omega arith) (omega arith))) ∙ texts_eq p.element)
    ∙ ap (λ qs. p ∷ qs) (named_run ps e 0 t (end_later p ps e t h))
named_run (p ∷ ps) e (suc s) (suc t) h =
    ap (λ b. cond b (p ∷ filter (has_name e) ps) (filter (has_name e) ps)) (lt_differ_too p.element e (h.before 0 (omega arith))) ∙ named_run ps e s t (both_later p ps e s t h)

abbrev has_other : Text → Placed → Bool
has_other e p = not (bytes_eq e p.element)

pub unnamed_run : (ps : List Placed) (e : Text) (s t : ℕ) → IsRunOf ps e s t → filter (has_other e) ps ≡ take s ps ++ drop t ps
unnamed_run [] e zero zero h = refl
unnamed_run [] e zero (suc t) h = refl
unnamed_run [] e (suc s) zero h = refl
unnamed_run [] e (suc s) (suc t) h = refl
unnamed_run (p ∷ ps) e (suc s) zero h = absurd (let order = h.order in omega arith)
unnamed_run (p ∷ ps) e zero zero h =
    ap (λ b. cond (not b) (p ∷ filter (has_other e) ps) (filter (has_other e) ps)) (lt_differ e p.element (h.after 0 (omega arith) (omega arith))) ∙ ap (λ qs. p ∷ qs) (unnamed_run ps e 0 0 (none_later p ps e h))
unnamed_run (p ∷ ps) e zero (suc t) h =
    ap (λ b. cond (not b) (p ∷ filter (has_other e) ps) (filter (has_other e) ps)) (ap (λ x. bytes_eq x p.element) (sym (h.named 0 (omega arith) (omega arith))) ∙ texts_eq p.element)
    ∙ unnamed_run ps e 0 t (end_later p ps e t h)
unnamed_run (p ∷ ps) e (suc s) (suc t) h =
    ap (λ b. cond (not b) (p ∷ filter (has_other e) ps) (filter (has_other e) ps)) (lt_differ_too p.element e (h.before 0 (omega arith))) ∙ ap (λ qs. p ∷ qs) (unnamed_run ps e s t (both_later p ps e s t h))

-- ONE DOT IN THEIR PLACE

by_element : (p q : Placed) → text_lt p.element q.element ≡ true → placed_order p q ≡ Less
by_element p q less = ap (λ o. ordering_then o (ordering_then (nat_cmp p.origin q.origin) (nat_cmp p.seq q.seq))) (less_order p.element q.element less)

before_drop : (w : Placed) (ps : List Placed) (t : ℕ) → IsBeforeAll w ps → IsBeforeAll w (drop t ps)
before_drop w ps zero h = h
before_drop w [] (suc t) h = tt
before_drop w (p ∷ ps) (suc t) h = before_drop w ps t h.1

pub before_put : (w x : Placed) (ps : List Placed) (s t : ℕ) → placed_order w x ≡ Less → IsBeforeAll w ps → IsBeforeAll w (take s ps ++ x ∷ drop t ps)
before_put w x ps zero t less h = (less, before_drop w ps t h)
before_put w x [] (suc s) t less h = (less, before_drop w [] t tt)
before_put w x (p ∷ ps) (suc s) zero less h = (h.0, before_with w x ps s (p ∷ ps) less h.1 h)
  where
    before_with : (w x : Placed) (ps : List Placed) (s : ℕ) (rest : List Placed) → placed_order w x ≡ Less → IsBeforeAll w ps → IsBeforeAll w rest → IsBeforeAll w (take s ps ++ x ∷ rest)
    before_with w x ps zero rest less h k = (less, k)
    before_with w x [] (suc s) rest less h k = (less, k)
    before_with w x (p ∷ ps) (suc s) rest less h k = (h.0, before_with w x ps s rest less h.1 k)
before_put w x (p ∷ ps) (suc s) (suc t) less h = (h.0, before_put w x ps s t less h.1)

pub dots_put : (ps : List Placed) (x : Placed) (s t : ℕ) → IsNumbered x → AreDots ps → IsRunOf ps x.element s t → AreDots (take s ps ++ x ∷ drop t ps)
dots_put [] x zero zero numbered dots h = (numbered, tt, tt)
dots_put [] x zero (suc t) numbered dots h = (numbered, tt, tt)
dots_put [] x (suc s) zero numbered dots h = (numbered, tt, tt)
dots_put [] x (suc s) (suc t) numbered dots h = (numbered, tt, tt)
dots_put (p ∷ ps) x (suc s) zero numbered dots h = absurd (let order = h.order in omega arith)
dots_put (p ∷ ps) x zero zero numbered dots h =
    let less = by_element x p (h.after 0 (omega arith) (omega arith)) in
    (numbered, (less, before_all x p ps less dots.1), dots)
dots_put (p ∷ ps) x zero (suc t) numbered dots h = dots_put ps x 0 t numbered dots.2 (end_later p ps x.element t h)
dots_put (p ∷ ps) x (suc s) (suc t) numbered dots h =
    (dots.0, before_put p x ps s t (by_element p x (h.before 0 (omega arith))) dots.1, dots_put ps x s t numbered dots.2 (both_later p ps x.element s t h))

pub any_append : (test : Placed → Bool) (xs ys : List Placed) → list_any test (xs ++ ys) ≡ (list_any test xs || list_any test ys)
any_append test [] ys = refl
any_append test (x ∷ xs) ys = ap (λ b. test x || b) (any_append test xs ys) ∙ assoc (test x) (list_any test xs) (list_any test ys)
  where
    assoc : (a b c : Bool) → (a || (b || c)) ≡ ((a || b) || c)
    assoc true b c = refl
    assoc false b c = refl

pub turned : (a b c : Bool) → (a || (b || c)) ≡ ((a || c) || (b || false))
turned true b c = refl
turned false true true = refl
turned false true false = refl
turned false false true = refl
turned false false false = refl

-- the others' set with the new dot
pub put_set : (ps : List Placed) (x : Placed) (s t : ℕ) → IsRunOf ps x.element s t → set_of (take s ps ++ x ∷ drop t ps) ≡ set.union (set_of (filter (has_other x.element) ps)) (set_of (x ∷ []))
put_set ps x s t h = same_dots _ _ (λ k.
    contains_set_of (take s ps ++ x ∷ drop t ps) k ∙ any_append (is_at k) (take s ps) (x ∷ drop t ps)
    ∙ turned (list_any (is_at k) (take s ps)) (is_at k x) (list_any (is_at k) (drop t ps)) ∙ ap (λ b. b || (is_at k x || false)) (sym (any_append (is_at k) (take s ps) (drop t ps)))
    ∙ ap (λ qs. list_any (is_at k) qs || (is_at k x || false)) (sym (unnamed_run ps x.element s t h))
    ∙ ap (λ b. b || (is_at k x || false)) (sym (contains_set_of (filter (has_other x.element) ps) k)) ∙ ap (λ b. set.contains (set_of (filter (has_other x.element) ps)) k || b) (sym (contains_set_of (x ∷ []) k))
    ∙ sym (set.contains-union nat_list_cmp_total (set_of (filter (has_other x.element) ps)) (set_of (x ∷ [])) k))

pub none_named : (ps : List Placed) (e : Text) → list_any (has_name e) (filter (has_other e) ps) ≡ false
none_named [] e = refl
none_named (p ∷ ps) e = go (bytes_eq e p.element) refl (none_named ps e)
  where
    go : (b : Bool) → bytes_eq e p.element ≡ b → list_any (has_name e) (filter (has_other e) ps) ≡ false → list_any (has_name e) (cond (not b) (p ∷ filter (has_other e) ps) (filter (has_other e) ps)) ≡ false
    go true is later = later
    go false is later = ap (λ b. b || list_any (has_name e) (filter (has_other e) ps)) is ∙ later

pub has_at : (at : Placed → Bool) (ps : List Placed) (i : ℕ) → i < length ps → at (nth ps i) ≡ true → list_any at ps ≡ true
has_at at [] i l is = absurd (omega arith)
has_at at (p ∷ ps) zero l is = ap (λ b. b || list_any at ps) is
has_at at (p ∷ ps) (suc i) l is = ap (λ b. at p || b) (has_at at ps i (omega arith) is) ∙ any_true (at p)
  where
    any_true : (b : Bool) → (b || true) ≡ true
    any_true true = refl
    any_true false = refl

-- an element has a dot where its run has one
pub has_run : (ps : List Placed) (e : Text) (s t : ℕ) → IsRunOf ps e s t → nat_lt s t ≡ list_any (has_name e) ps
has_run ps e s t h = go (nat_lt s t) refl
  where
    go : (b : Bool) → nat_lt s t ≡ b → nat_lt s t ≡ list_any (has_name e) ps
    go true is =
        let less : s < t = grind (arith, nat_tests) in
        let within = h.within in
        is ∙ sym (has_at (has_name e) ps s (omega arith) (ap (bytes_eq e) (h.named s (omega arith) less) ∙ texts_eq e))
    go false is =
        let order = h.order in
        let same : t ≡ s = grind (arith, nat_tests) in
        is ∙ sym (ap (list_any (has_name e)) (sym (unnamed_run ps e s t h ∙ ap (λ n. take s ps ++ drop n ps) same ∙ take-append-drop s ps)) ∙ none_named ps e)
