-- What is found and changed at a place of a list in order, by a search from the front.
use Rattle.std.proofs.Common.{◌≡◌, ℕ, zero, suc, ◌+◌, ◌<◌, ◌≤◌, List, [], ◌∷◌, ◌++◌, length, take, drop, get_or, refl, ap, sym, ◌∙◌, arith, append_assoc, Some, None}
use Rattle.std.specs.declared.cmp.Ordering.{Ordering}
use Rattle.std.specs.declared.cmp.Ordering.TheVariants.{Less, Equal, Greater}
use Rattle.std.specs.Ordering.{match_ordering}
use Rattle.std.proofs.Math.Seq.{drop-cons}
use Rattle.std.proofs.lemmas.List.{take_more, drop_all, append-nil}
use Rattle.std.proofs.lemmas.Option.{slice_get_read}
use Rattle.member_desk.specs.Places.{sought, edited, IsPlace}
use Rattle.member_desk.specs.declared.place.Place.TheVariants.{At, Before}

pub drop_here : {X : Type 0} (t : List X) (i : ℕ) (x : X) → i < length t → x ≡ get_or t i x → drop i t ≡ x ∷ drop (i + 1) t
drop_here t i x l e = let next : suc i ≡ i + 1 = omega arith in drop-cons t i x l ∙ ap (λ y. y ∷ drop (suc i) t) (sym e) ∙ ap (λ n. x ∷ drop n t) next

pub take_here : {X : Type 0} (t : List X) (i : ℕ) (x : X) → i < length t → x ≡ get_or t i x → take (i + 1) t ≡ take i t ++ x ∷ []
take_here t i x l e = take_more t i x l ∙ ap (λ y. take i t ++ y ∷ []) (sym e)

module _ {X : Type 0} (order : X → Ordering) where
  -- the items before an index come before what is looked for
  pub record IsSearched (t : List X) (i : ℕ) : Type 0 where
    pub within : i ≤ length t
    pub found : sought order t ≡ sought order (drop i t)
    pub edit : (instead : X → List X) (absent : List X) → edited order instead absent t ≡ take i t ++ edited order instead absent (drop i t)

  pub search_start : (t : List X) → IsSearched t 0
  search_start t = record { within = omega arith; found = refl; edit = λ instead absent. refl }

  module _ (t : List X) (x : X) (i : ℕ) (inside : i < length t) (at : x ≡ get_or t i x) (h : IsSearched t i) where
    found_here : sought order t ≡ match_ordering (order x) (sought order (drop (i + 1) t)) (Some x) None
    found_here = h.found ∙ ap (sought order) (drop_here t i x inside at)

    edited_here : (instead : X → List X) (absent : List X)
        → edited order instead absent t ≡ take i t ++ match_ordering (order x) (x ∷ edited order instead absent (drop (i + 1) t)) (instead x ++ drop (i + 1) t) (absent ++ x ∷ drop (i + 1) t)
    edited_here instead absent = h.edit instead absent ∙ ap (λ (ys : List X). take i t ++ edited order instead absent ys) (drop_here t i x inside at)

    pub search_less : order x ≡ Less → IsSearched t (i + 1)
    search_less less = record {
      within = omega arith;
      found = found_here ∙ ap (λ o. match_ordering o (sought order (drop (i + 1) t)) (Some x) None) less;
      edit = λ instead absent. edited_here instead absent
          ∙ ap (λ o. take i t ++ match_ordering o (x ∷ edited order instead absent (drop (i + 1) t)) (instead x ++ drop (i + 1) t) (absent ++ x ∷ drop (i + 1) t)) less
          ∙ sym (append_assoc (take i t) (x ∷ []) (edited order instead absent (drop (i + 1) t)))
          ∙ ap (λ (ys : List X). ys ++ edited order instead absent (drop (i + 1) t)) (sym (take_here t i x inside at));
    }

    pub search_equal : order x ≡ Equal → IsPlace order t (At i)
    search_equal equal = record {
      within = inside;
      item = x;
      here = slice_get_read t (length t) i x refl inside at;
      equal = equal;
      found = found_here ∙ ap (λ o. match_ordering o (sought order (drop (i + 1) t)) (Some x) None) equal;
      edit = λ instead absent. edited_here instead absent
          ∙ ap (λ o. take i t ++ match_ordering o (x ∷ edited order instead absent (drop (i + 1) t)) (instead x ++ drop (i + 1) t) (absent ++ x ∷ drop (i + 1) t)) equal;
    }

    pub search_greater : order x ≡ Greater → IsPlace order t (Before i)
    search_greater greater = record {
      within = omega arith;
      absent = found_here ∙ ap (λ o. match_ordering o (sought order (drop (i + 1) t)) (Some x) None) greater;
      edit = λ instead absent. edited_here instead absent
          ∙ ap (λ o. take i t ++ match_ordering o (x ∷ edited order instead absent (drop (i + 1) t)) (instead x ++ drop (i + 1) t) (absent ++ x ∷ drop (i + 1) t)) greater
          ∙ ap (λ (ys : List X). take i t ++ (absent ++ ys)) (sym (drop_here t i x inside at));
    }

  pub search_end : (t : List X) (i : ℕ) → length t ≤ i → IsSearched t i → IsPlace order t (Before i)
  search_end t i l h =
      let none = drop_all i t l in
      record {
        within = h.within;
        absent = h.found ∙ ap (sought order) none;
        edit = λ instead absent. h.edit instead absent ∙ ap (λ (ys : List X). take i t ++ edited order instead absent ys) none
            ∙ ap (λ (ys : List X). take i t ++ ys) (sym (append-nil absent)) ∙ ap (λ (ys : List X). take i t ++ (absent ++ ys)) (sym none);
      }

pub read_any : {X : Type 0} (t : List X) (i : ℕ) (d e : X) → i < length t → get_or t i d ≡ get_or t i e
read_any [] i d e l = absurd (omega arith)
read_any (x ∷ xs) zero d e l = refl
read_any (x ∷ xs) (suc i) d e l = read_any xs i d e (omega arith)

-- the same, of an item as it is read
pub search_equal_at : {X : Type 0} (order : X → Ordering) (t : List X) (i : ℕ) (d : X) → i < length t → IsSearched order t i → order (get_or t i d) ≡ Equal → IsPlace order t (At i)
search_equal_at order t i d inside h equal = search_equal order t (get_or t i d) i inside (read_any t i d (get_or t i d) inside) h equal
