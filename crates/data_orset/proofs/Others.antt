-- Dots whose elements are none of some texts, in one pass over both; and texts at one dot.
use Rattle.std.proofs.Common.{◌≡◌, ℕ, ◌+◌, ◌<◌, ◌≤◌, ◌^◌, ◌⊎◌, inl, inr, List, [], ◌∷◌, ◌++◌, length, drop, get_or, true, false, cond, not, ◌||◌, refl, ap, sym, ◌∙◌, subst, arith, append_assoc, map}
use Rattle.std.specs.List.{filter}
use Rattle.std.specs.Str.{bytes_eq}
use Rattle.std.specs.Ordering.{nat_cmp, ordering_then}
use Rattle.std.specs.declared.cmp.Ordering.TheVariants.{Less, Equal, Greater}
use Rattle.std.proofs.lemmas.List.{drop_all, drop_more}
use Rattle.model_history.specs.Texts.{Text, text_lt, contains_text}
use Rattle.base_vectors.specs.declared.id.Dot.{Dot}
use Rattle.base_bytes.specs.TextOrder.{text_order, IsBelowAll, IsRising}
use Rattle.base_bytes.proofs.TextLaws.{order_less, order_equal, order_greater, less_order, texts_eq, lt_differ_too}
use Rattle.data_growing.specs.TextSetLaws.{absent_before}
use Rattle.data_growing.proofs.Merging.{drop_here, rising_drop}
use Rattle.data_orset.specs.Placing.{Placed, IsBeforeAll, AreDots, at_dot}
use Rattle.data_orset.specs.Keeping.{is_other}
use Rattle.data_orset.proofs.Placings.{dots_drop}
use Rattle.data_orset.proofs.ElementsInOrder.{before_upto, lt_upto}

-- THE PASS

-- a text comes before all elements of a list
abbrev pub IsBeforeElements : Text → List Placed → Type 0
IsBeforeElements t [] = Unit {0}
IsBeforeElements t (p ∷ ps) = (text_lt t p.element ≡ true) × IsBeforeElements t ps

before_elements : (t : Text) (p : Placed) (ps : List Placed) → text_lt t p.element ≡ true → IsBeforeAll p ps → IsBeforeElements t ps
before_elements t p [] less h = tt
before_elements t p (q ∷ ps) less h = (lt_upto t p.element q.element less (before_upto p q h.0), before_elements t p ps less h.1)

-- then it is none of them
past_text : (t : Text) (ts : List Text) (ps : List Placed) → IsBeforeElements t ps → filter (is_other (t ∷ ts)) ps ≡ filter (is_other ts) ps
past_text t ts [] h = refl
past_text t ts (p ∷ ps) h =
    ap (λ b. cond (not (b || contains_text ts p.element)) (p ∷ filter (is_other (t ∷ ts)) ps) (filter (is_other (t ∷ ts)) ps)) (lt_differ_too t p.element h.0)
    ∙ ap (λ zs. cond (not (contains_text ts p.element)) (p ∷ zs) zs) (past_text t ts ps h.1)

-- what was kept, and what is left of both
pub record IsParting (texts : List Text) (dots all : List Placed) (here there : ℕ) : Type 0 where
  pub here_within : here ≤ length dots
  pub there_within : there ≤ length texts
  pub whole : all ++ filter (is_other (drop there texts)) (drop here dots) ≡ filter (is_other texts) dots

pub part_start : (texts : List Text) (dots : List Placed) → IsParting texts dots [] 0 0
part_start texts dots = record { here_within = omega arith; there_within = omega arith; whole = refl }

module _ (texts : List Text) (dots all : List Placed) (here there : ℕ) (x : Placed) (t : Text) (rising : IsRising texts) (are : AreDots dots)
    (inside : here < length dots) (texts_inside : there < length texts) (at : x ≡ get_or dots here x) (texts_at : t ≡ get_or texts there t) (h : IsParting texts dots all here there) where
  abbrev later : List Placed
  later = drop (here + 1) dots

  abbrev later_texts : List Text
  later_texts = drop (there + 1) texts

  opened_dots : drop here dots ≡ x ∷ later
  opened_dots = drop_more dots here x inside ∙ ap (λ z. z ∷ later) (sym at)

  opened_texts : drop there texts ≡ t ∷ later_texts
  opened_texts = drop_here texts there t texts_inside texts_at

  pub part_less : text_order x.element t ≡ Less → IsParting texts dots (all ++ x ∷ []) (here + 1) there
  part_less less = record {
    here_within = omega arith;
    there_within = h.there_within;
    whole =
        let absent : contains_text (drop there texts) x.element ≡ false =
        ap (λ ts. contains_text ts x.element) opened_texts ∙ absent_before x.element t later_texts (order_less x.element t less) (subst IsRising opened_texts (rising_drop texts there rising)) in
        append_assoc all (x ∷ []) (filter (is_other (drop there texts)) later)
        ∙ ap (λ zs. all ++ zs) (sym (ap (λ b. cond (not b) (x ∷ filter (is_other (drop there texts)) later) (filter (is_other (drop there texts)) later)) absent) ∙ ap (filter (is_other (drop there texts))) (sym opened_dots))
        ∙ h.whole;
  }

  pub part_equal : text_order x.element t ≡ Equal → IsParting texts dots all (here + 1) there
  part_equal equal = record {
    here_within = omega arith;
    there_within = h.there_within;
    whole =
        let present : contains_text (drop there texts) x.element ≡ true =
        ap (λ ts. contains_text ts x.element) opened_texts ∙ ap (λ b. b || contains_text later_texts x.element) (ap (bytes_eq x.element) (sym (order_equal x.element t equal)) ∙ texts_eq x.element) in
        ap (λ zs. all ++ zs) (sym (ap (λ b. cond (not b) (x ∷ filter (is_other (drop there texts)) later) (filter (is_other (drop there texts)) later)) present) ∙ ap (filter (is_other (drop there texts))) (sym opened_dots))
        ∙ h.whole;
  }

  pub part_greater : text_order x.element t ≡ Greater → IsParting texts dots all here (there + 1)
  part_greater greater = record {
    here_within = h.here_within;
    there_within = omega arith;
    whole =
        let before = order_greater x.element t greater in
        let first : AreDots (x ∷ later) = subst AreDots opened_dots (dots_drop dots here are) in
        let after : IsBeforeElements t (x ∷ later) = (before, before_elements t x later before first.1) in
        ap (λ zs. all ++ zs) (sym (ap (λ ts. filter (is_other ts) (drop here dots)) opened_texts ∙ past_text t later_texts (drop here dots) (subst (IsBeforeElements t) (sym opened_dots) after)))
        ∙ h.whole;
  }

all_kept : (ps : List Placed) → filter (λ p. true) ps ≡ ps
all_kept [] = refl
all_kept (p ∷ ps) = ap (λ zs. p ∷ zs) (all_kept ps)

-- one of the two lists is at its end
pub part_end : (texts : List Text) (dots all : List Placed) (here there : ℕ) → (length dots ≤ here) ⊎ (length texts ≤ there) → IsParting texts dots all here there
    → all ++ filter (λ p. true) (drop here dots) ≡ filter (is_other texts) dots
part_end texts dots all here there at_end h = left at_end ∙ h.whole
  where
    left : (length dots ≤ here) ⊎ (length texts ≤ there) → all ++ filter (λ p. true) (drop here dots) ≡ all ++ filter (is_other (drop there texts)) (drop here dots)
    left (inl none) = ap (λ xs. all ++ filter (λ p. true) xs) (drop_all here dots none) ∙ ap (λ xs. all ++ filter (is_other (drop there texts)) xs) (sym (drop_all here dots none))
    left (inr none) = ap (λ ts. all ++ filter (is_other ts) (drop here dots)) (sym (drop_all there texts none))

-- TEXTS AT ONE DOT

before_at : (dot : Dot) (x : Text) (xs : List Text) → IsBelowAll x xs → IsBeforeAll (at_dot dot x) (map (at_dot dot) xs)
before_at dot x [] h = tt
before_at dot x (y ∷ ys) h = (ap (λ o. ordering_then o (ordering_then (nat_cmp dot.origin dot.origin) (nat_cmp dot.seq dot.seq))) (less_order x y h.0), before_at dot x ys h.1)

pub dots_at : (dot : Dot) (texts : List Text) → (1 ≤ dot.seq) × (dot.seq ≤ 2 ^ 62) → IsRising texts → AreDots (map (at_dot dot) texts)
dots_at dot [] numbered h = tt
dots_at dot (x ∷ xs) numbered h = (numbered, before_at dot x xs h.0, dots_at dot xs numbered h.1)
