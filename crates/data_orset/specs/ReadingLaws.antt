-- Elements that are read are those that were spelled, and what was spelled is read again.
use Rattle.std.proofs.Common.{◌≡◌, ℕ, zero, suc, ◌-◌, ◌^◌, ◌≤◌, true, false, List, [], ◌∷◌, ◌++◌, length, Option, None, Some, Result, Ok, refl, ap, sym, subst, ◌∙◌, append_assoc, arith}
use Rattle.std.specs.Prelude.{◌||◌, nat_lt}
use Rattle.std.specs.List.{flat_map, AllByRecursion}
use Rattle.model_history.specs.Texts.{Text, text_lt}
use Rattle.model_history.specs.Vector.{IdentitySet}
use Rattle.base_bytes.specs.TextOrder.{IsBelowAll, IsRising}
use Rattle.base_bytes.proofs.TextLaws.{lt_trans}
use Rattle.base_bytes.specs.declared.fault.Fault.{Fault}
use Rattle.base_bytes.specs.Fields.{◌>>=◌, kept, number_in, is_after, text_in}
use Rattle.base_bytes.specs.Spelling.{text_spelled, number_spelled, AreBytes, Takes}
use Rattle.base_bytes.specs.FieldLaws.{bind_ok, kept_ok, kept_on, ok_is, takes_nothing, takes_then, number_takes, number_again, text_takes, text_again}
use Rattle.base_vectors.specs.declared.id.Dot.{Dot}
use Rattle.base_vectors.specs.Fields.{identity_in, positive_in}
use Rattle.base_vectors.specs.FieldLaws.{identity_takes, identity_again, positive_takes, positive_again}
use Rattle.data_orset.specs.Elements.{Element, AreRising, IsDot, IsElement, AreElements, AreFree, texts_in, dot_spelled, element_spelled, elements_spelled}
use Rattle.data_orset.specs.Reading.{dot_in, dots_in, element_in, elements_in, listed_in}

-- DOTS

-- what is read after a dot with this origin and number
pub record IsNextDot (barred : IdentitySet) (origin seq : ℕ) (d : Dot) : Type 0 where
  pub dot : IsDot d
  pub from : origin ≤ d.origin
  pub rises : (nat_lt origin d.origin || nat_lt seq d.seq) ≡ true
  pub free : barred d.origin ≡ false

dot_takes : (barred : IdentitySet) (origin seq : ℕ) (bytes : List ℕ) (d : Dot) (rest : List ℕ) → AreBytes bytes → dot_in barred origin seq bytes ≡ Ok (d, rest) → Takes bytes (dot_spelled d) rest × IsNextDot barred origin seq d
unfolding dot_in
dot_takes barred origin seq bytes d rest fits e =
    let a = bind_ok (identity_in origin barred bytes) (λ i. positive_in (2 ^ 62) i.1 >>= λ n. kept (nat_lt origin i.0 || nat_lt seq n.0) (length i.1) >>= λ _. Ok (record { origin = i.0; seq = n.0 }, n.1)) (d, rest) e in
    let i : ℕ × List ℕ = a.0 in
    let b = bind_ok (positive_in (2 ^ 62) i.1) (λ n. kept (nat_lt origin i.0 || nat_lt seq n.0) (length i.1) >>= λ _. Ok (record { origin = i.0; seq = n.0 }, n.1)) (d, rest) a.2 in
    let n : ℕ × List ℕ = b.0 in
    let made : Dot × List ℕ = (record { origin = i.0; seq = n.0 }, n.1) in
    let rule = kept_ok (nat_lt origin i.0 || nat_lt seq n.0) (length i.1) (λ _. Ok made) (d, rest) b.2 in
    let first = identity_takes origin barred bytes i.0 i.1 fits a.1 in
    let second = positive_takes (2 ^ 62) i.1 n.0 n.1 first.0.rest_are_bytes b.1 in
    subst (λ (y : Dot × List ℕ). Takes bytes (dot_spelled y.0) y.1 × IsNextDot barred origin seq y.0) (ok_is made (d, rest) rule.1) (
      takes_then bytes (i.0 ∷ []) i.1 (number_spelled n.0) n.1 first.0 second.0,
      record { dot = record { origin = first.1.small; some = second.1.some; small = second.1.small }; from = first.1.from; rises = rule.0; free = first.1.free },
    )

dot_again : (barred : IdentitySet) (origin seq : ℕ) (d : Dot) (rest : List ℕ) → IsNextDot barred origin seq d → dot_in barred origin seq (dot_spelled d ++ rest) ≡ Ok (d, rest)
unfolding dot_in
dot_again barred origin seq d rest is =
    let after : List ℕ = number_spelled d.seq ++ rest in
    ap (λ (r : Result (ℕ × List ℕ) Fault). r >>= λ i. positive_in (2 ^ 62) i.1 >>= λ n. kept (nat_lt origin i.0 || nat_lt seq n.0) (length i.1) >>= λ _. Ok (record { origin = i.0; seq = n.0 }, n.1))
    (identity_again origin barred d.origin after (record { from = is.from; small = is.dot.origin; free = is.free }))
    ∙ ap (λ (r : Result (ℕ × List ℕ) Fault). r >>= λ n. kept (nat_lt origin d.origin || nat_lt seq n.0) (length after) >>= λ _. Ok (record { origin = d.origin; seq = n.0 }, n.1))
    (positive_again (2 ^ 62) d.seq rest (omega arith) (record { some = is.dot.some; small = is.dot.small }))
    ∙ kept_on (nat_lt origin d.origin || nat_lt seq d.seq) (length after) (λ _. Ok (d, rest)) is.rises

abbrev free_in : IdentitySet → List Dot → Type 0
free_in barred ds = AllByRecursion (λ (d : Dot). barred d.origin ≡ false) ds

dots_take : (barred : IdentitySet) (n origin seq : ℕ) (bytes : List ℕ) (ds : List Dot) (rest : List ℕ) → AreBytes bytes → dots_in barred n origin seq bytes ≡ Ok (ds, rest)
    → Takes bytes (flat_map dot_spelled ds) rest × (length ds ≡ n) × AreRising origin seq ds × AllByRecursion IsDot ds × free_in barred ds
unfolding dots_in
dots_take barred zero origin seq bytes ds rest fits e =
    subst (λ (y : List Dot × List ℕ). Takes bytes (flat_map dot_spelled y.0) y.1 × (length y.0 ≡ 0) × AreRising origin seq y.0 × AllByRecursion IsDot y.0 × free_in barred y.0) (ok_is ([], bytes) (ds, rest) e)
    (takes_nothing bytes fits, refl, tt, tt, tt)
dots_take barred (suc n) origin seq bytes ds rest fits e =
    let a = bind_ok (dot_in barred origin seq bytes) (λ first. dots_in barred n first.0.origin first.0.seq first.1 >>= λ others. Ok (first.0 ∷ others.0, others.1)) (ds, rest) e in
    let x : Dot × List ℕ = a.0 in
    let b = bind_ok (dots_in barred n x.0.origin x.0.seq x.1) (λ others. Ok (x.0 ∷ others.0, others.1)) (ds, rest) a.2 in
    let y : List Dot × List ℕ = b.0 in
    let first = dot_takes barred origin seq bytes x.0 x.1 fits a.1 in
    let later = dots_take barred n x.0.origin x.0.seq x.1 y.0 y.1 first.0.rest_are_bytes b.1 in
    let made : List Dot × List ℕ = (x.0 ∷ y.0, y.1) in
    subst (λ (z : List Dot × List ℕ). Takes bytes (flat_map dot_spelled z.0) z.1 × (length z.0 ≡ suc n) × AreRising origin seq z.0 × AllByRecursion IsDot z.0 × free_in barred z.0) (ok_is made (ds, rest) b.2)
    (takes_then bytes (dot_spelled x.0) x.1 (flat_map dot_spelled y.0) y.1 first.0 later.0, ap suc later.1, (first.1.from, first.1.rises, later.2), (first.1.dot, later.3), (first.1.free, later.4))

dots_again : (barred : IdentitySet) (origin seq : ℕ) (ds : List Dot) (rest : List ℕ) → AreRising origin seq ds → AllByRecursion IsDot ds → free_in barred ds → dots_in barred (length ds) origin seq (flat_map dot_spelled ds ++ rest) ≡ Ok (ds, rest)
unfolding dots_in
dots_again barred origin seq [] rest rising dots free = refl
dots_again barred origin seq (d ∷ ds) rest rising dots free =
    let after : List ℕ = flat_map dot_spelled ds ++ rest in
    ap (dots_in barred (suc (length ds)) origin seq) (append_assoc (dot_spelled d) (flat_map dot_spelled ds) rest)
    ∙ ap (λ (r : Result (Dot × List ℕ) Fault). r >>= λ first. dots_in barred (length ds) first.0.origin first.0.seq first.1 >>= λ others. Ok (first.0 ∷ others.0, others.1))
    (dot_again barred origin seq d after (record { dot = dots.0; from = rising.0; rises = rising.1; free = free.0 }))
    ∙ ap (λ (r : Result (List Dot × List ℕ) Fault). r >>= λ others. Ok (d ∷ others.0, others.1)) (dots_again barred d.origin d.seq ds rest rising.2 dots.1 free.1)

-- ELEMENTS

element_takes : (barred : IdentitySet) (before : Option Text) (bytes : List ℕ) (x : Element) (rest : List ℕ) → AreBytes bytes → element_in barred before bytes ≡ Ok (x, rest)
    → Takes bytes (element_spelled x) rest × IsElement x × free_in barred x.dots × (is_after before x.text ≡ true)
unfolding element_in
element_takes barred before bytes x rest fits e =
    let a = bind_ok (text_in before bytes) (λ text. positive_in (2 ^ 64 - 1) text.1 >>= λ count. dots_in barred count.0 0 0 count.1 >>= λ dots. Ok (record { text = text.0; dots = dots.0 }, dots.1)) (x, rest) e in
    let text : Text × List ℕ = a.0 in
    let b = bind_ok (positive_in (2 ^ 64 - 1) text.1) (λ count. dots_in barred count.0 0 0 count.1 >>= λ dots. Ok (record { text = text.0; dots = dots.0 }, dots.1)) (x, rest) a.2 in
    let count : ℕ × List ℕ = b.0 in
    let c = bind_ok (dots_in barred count.0 0 0 count.1) (λ dots. Ok (record { text = text.0; dots = dots.0 }, dots.1)) (x, rest) b.2 in
    let dots : List Dot × List ℕ = c.0 in
    let first = text_takes before bytes text.0 text.1 fits a.1 in
    let second = positive_takes (2 ^ 64 - 1) text.1 count.0 count.1 first.0.rest_are_bytes b.1 in
    let third = dots_take barred count.0 0 0 count.1 dots.0 dots.1 second.0.rest_are_bytes c.1 in
    let made : Element × List ℕ = (record { text = text.0; dots = dots.0 }, dots.1) in
    let later : Takes text.1 (number_spelled (length dots.0) ++ flat_map dot_spelled dots.0) dots.1 =
    subst (λ (k : ℕ). Takes text.1 (number_spelled k ++ flat_map dot_spelled dots.0) dots.1) (sym third.1) (takes_then text.1 (number_spelled count.0) count.1 (flat_map dot_spelled dots.0) dots.1 second.0 third.0) in
    let some = second.1.some in
    let few = second.1.small in
    subst (λ (y : Element × List ℕ). Takes bytes (element_spelled y.0) y.1 × IsElement y.0 × free_in barred y.0.dots × (is_after before y.0.text ≡ true)) (ok_is made (x, rest) c.2) (
      takes_then bytes (text_spelled text.0) text.1 (number_spelled (length dots.0) ++ flat_map dot_spelled dots.0) dots.1 first.0 later,
      record { text = first.1; some = omega (arith, third.1); few = omega (arith, third.1); rising = third.2; dots = third.3 },
      third.4,
      first.2,
    )

element_again : (barred : IdentitySet) (before : Option Text) (x : Element) (rest : List ℕ) → IsElement x → free_in barred x.dots → is_after before x.text ≡ true → element_in barred before (element_spelled x ++ rest) ≡ Ok (x, rest)
unfolding element_in
element_again barred before x rest is free after =
    let dots : List ℕ = flat_map dot_spelled x.dots in
    let few = is.few in
    let some = is.some in
    ap (element_in barred before) (append_assoc (text_spelled x.text) (number_spelled (length x.dots) ++ dots) rest ∙ ap (λ (t : List ℕ). text_spelled x.text ++ t) (append_assoc (number_spelled (length x.dots)) dots rest))
    ∙ ap (λ (r : Result (Text × List ℕ) Fault). r >>= λ text. positive_in (2 ^ 64 - 1) text.1 >>= λ count. dots_in barred count.0 0 0 count.1 >>= λ ds. Ok (record { text = text.0; dots = ds.0 }, ds.1))
    (text_again before x.text (number_spelled (length x.dots) ++ (dots ++ rest)) is.text after)
    ∙ ap (λ (r : Result (ℕ × List ℕ) Fault). r >>= λ count. dots_in barred count.0 0 0 count.1 >>= λ ds. Ok (record { text = x.text; dots = ds.0 }, ds.1))
    (positive_again (2 ^ 64 - 1) (length x.dots) (dots ++ rest) (omega arith) (record { some = is.some; small = omega arith }))
    ∙ ap (λ (r : Result (List Dot × List ℕ) Fault). r >>= λ ds. Ok (record { text = x.text; dots = ds.0 }, ds.1)) (dots_again barred 0 0 x.dots rest is.rising is.dots free)

-- each text comes after the one before it, and the first after a given one
abbrev RiseAfter : Option Text → List Text → Type 0
RiseAfter before [] = Unit {0}
RiseAfter before (x ∷ xs) = (is_after before x ≡ true) × RiseAfter (Some x) xs

below_later : (w x : Text) (xs : List Text) → text_lt w x ≡ true → RiseAfter (Some x) xs → IsBelowAll w xs
below_later w x [] less h = tt
below_later w x (y ∷ ys) less h = let next = lt_trans w x y less h.0 in (next, below_later w y ys next h.1)

below_rising : (x : Text) (xs : List Text) → RiseAfter (Some x) xs → IsBelowAll x xs
below_rising x [] h = tt
below_rising x (y ∷ ys) h = (h.0, below_later x y ys h.0 h.1)

rising_of_after : (before : Option Text) (xs : List Text) → RiseAfter before xs → IsRising xs
rising_of_after before [] h = tt
rising_of_after before (x ∷ xs) h = (below_rising x xs h.1, rising_of_after (Some x) xs h.1)

after_of_rising : (before : Option Text) (xs : List Text) → ((x : Text) (ys : List Text) → xs ≡ x ∷ ys → is_after before x ≡ true) → IsRising xs → RiseAfter before xs
after_of_rising before [] first h = tt
after_of_rising before (x ∷ xs) first h = (first x xs refl, after_of_rising (Some x) xs (λ y ys e. (subst (λ (zs : List Text). IsBelowAll x zs) e h.0).0) h.1)

elements_take : (barred : IdentitySet) (n : ℕ) (before : Option Text) (bytes : List ℕ) (xs : List Element) (rest : List ℕ) → AreBytes bytes → elements_in barred n before bytes ≡ Ok (xs, rest)
    → Takes bytes (flat_map element_spelled xs) rest × (length xs ≡ n) × RiseAfter before (texts_in xs) × AllByRecursion IsElement xs × AreFree barred xs
unfolding elements_in
elements_take barred zero before bytes xs rest fits e =
    subst (λ (y : List Element × List ℕ). Takes bytes (flat_map element_spelled y.0) y.1 × (length y.0 ≡ 0) × RiseAfter before (texts_in y.0) × AllByRecursion IsElement y.0 × AreFree barred y.0) (ok_is ([], bytes) (xs, rest) e)
    (takes_nothing bytes fits, refl, tt, tt, tt)
elements_take barred (suc n) before bytes xs rest fits e =
    let a = bind_ok (element_in barred before bytes) (λ first. elements_in barred n (Some first.0.text) first.1 >>= λ others. Ok (first.0 ∷ others.0, others.1)) (xs, rest) e in
    let x : Element × List ℕ = a.0 in
    let b = bind_ok (elements_in barred n (Some x.0.text) x.1) (λ others. Ok (x.0 ∷ others.0, others.1)) (xs, rest) a.2 in
    let y : List Element × List ℕ = b.0 in
    let first = element_takes barred before bytes x.0 x.1 fits a.1 in
    let later = elements_take barred n (Some x.0.text) x.1 y.0 y.1 first.0.rest_are_bytes b.1 in
    let made : List Element × List ℕ = (x.0 ∷ y.0, y.1) in
    subst (λ (z : List Element × List ℕ). Takes bytes (flat_map element_spelled z.0) z.1 × (length z.0 ≡ suc n) × RiseAfter before (texts_in z.0) × AllByRecursion IsElement z.0 × AreFree barred z.0) (ok_is made (xs, rest) b.2)
    (takes_then bytes (element_spelled x.0) x.1 (flat_map element_spelled y.0) y.1 first.0 later.0, ap suc later.1, (first.3, later.2), (first.1, later.3), (first.2, later.4))

elements_again : (barred : IdentitySet) (before : Option Text) (xs : List Element) (rest : List ℕ) → RiseAfter before (texts_in xs) → AllByRecursion IsElement xs → AreFree barred xs → elements_in barred (length xs) before (flat_map element_spelled xs ++ rest) ≡ Ok (xs, rest)
unfolding elements_in
elements_again barred before [] rest rising each free = refl
elements_again barred before (x ∷ xs) rest rising each free =
    let after : List ℕ = flat_map element_spelled xs ++ rest in
    ap (elements_in barred (suc (length xs)) before) (append_assoc (element_spelled x) (flat_map element_spelled xs) rest)
    ∙ ap (λ (r : Result (Element × List ℕ) Fault). r >>= λ first. elements_in barred (length xs) (Some first.0.text) first.1 >>= λ others. Ok (first.0 ∷ others.0, others.1))
    (element_again barred before x after each.0 free.0 rising.0)
    ∙ ap (λ (r : Result (List Element × List ℕ) Fault). r >>= λ others. Ok (x ∷ others.0, others.1)) (elements_again barred (Some x.text) xs rest rising.1 each.1 free.1)

pub listed_takes : (barred : IdentitySet) (bytes : List ℕ) (xs : List Element) (rest : List ℕ) → AreBytes bytes → listed_in barred bytes ≡ Ok (xs, rest) → Takes bytes (elements_spelled xs) rest × AreElements xs × AreFree barred xs
unfolding listed_in
listed_takes barred bytes xs rest fits e =
    let a = bind_ok (number_in bytes) (λ count. elements_in barred count.0 None count.1) (xs, rest) e in
    let count : ℕ × List ℕ = a.0 in
    let first = number_takes bytes count.0 count.1 fits a.1 in
    let later = elements_take barred count.0 None count.1 xs rest first.0.rest_are_bytes a.2 in
    let few = first.1 in (
      subst (λ (k : ℕ). Takes bytes (number_spelled k ++ flat_map element_spelled xs) rest) (sym later.1) (takes_then bytes (number_spelled count.0) count.1 (flat_map element_spelled xs) rest first.0 later.0),
      record { few = omega (arith, later.1); rising = rising_of_after None (texts_in xs) later.2; each = later.3 },
      later.4,
    )

pub listed_again : (barred : IdentitySet) (xs : List Element) (rest : List ℕ) → AreElements xs → AreFree barred xs → listed_in barred (elements_spelled xs ++ rest) ≡ Ok (xs, rest)
unfolding listed_in
listed_again barred xs rest is free =
    ap (listed_in barred) (append_assoc (number_spelled (length xs)) (flat_map element_spelled xs) rest)
    ∙ ap (λ (r : Result (ℕ × List ℕ) Fault). r >>= λ count. elements_in barred count.0 None count.1) (number_again (length xs) (flat_map element_spelled xs ++ rest) is.few)
    ∙ elements_again barred None xs rest (after_of_rising None (texts_in xs) (λ x ys e. refl) is.rising) is.each free
