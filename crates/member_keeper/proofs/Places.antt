-- Where an entry belongs, by a search from the front.
use Rattle.std.proofs.Common.{◌≡◌, ℕ, suc, ◌+◌, ◌<◌, ◌≤◌, [], ◌∷◌, ◌++◌, length, take, drop, get_or, refl, ap, sym, ◌∙◌, arith, append_assoc}
use Rattle.std.specs.declared.cmp.Ordering.TheVariants.{Less, Equal, Greater}
use Rattle.std.specs.Ordering.{match_ordering}
use Rattle.std.proofs.Math.Seq.{drop-cons}
use Rattle.std.proofs.Math.ListN.{set}
use Rattle.std.proofs.lemmas.List.{take_more, drop_all, take-append-drop, take-set, drop-set}
use Rattle.base_bytes.specs.TextOrder.{text_order}
use Rattle.member_keeper.specs.declared.stored.Stored.{Stored}
use Rattle.member_keeper.specs.declared.search.Place.TheVariants.{At, Before}
use Rattle.member_keeper.specs.Tables.{Table, put}
use Rattle.member_keeper.specs.Places.{IsPlace}

-- the entries before an index stay before the entry
pub record IsSearched (table : Table) (entry : Stored) (index : ℕ) : Type 0 where
  pub within : index ≤ length table
  pub put : put table entry ≡ take index table ++ put (drop index table) entry

pub search_start : (t : Table) (e : Stored) → IsSearched t e 0
search_start t e = record { within = omega arith; put = refl }

drop_here : (t : Table) (i : ℕ) (x : Stored) → i < length t → x ≡ get_or t i x → drop i t ≡ x ∷ drop (i + 1) t
drop_here t i x l e = let next : suc i ≡ i + 1 = omega arith in drop-cons t i x l ∙ ap (λ y. y ∷ drop (suc i) t) (sym e) ∙ ap (λ n. x ∷ drop n t) next

take_here : (t : Table) (i : ℕ) (x : Stored) → i < length t → x ≡ get_or t i x → take (i + 1) t ≡ take i t ++ x ∷ []
take_here t i x l e = take_more t i x l ∙ ap (λ y. take i t ++ y ∷ []) (sym e)

module _ (t : Table) (e x : Stored) (i : ℕ) (inside : i < length t) (at : x ≡ get_or t i x) (h : IsSearched t e i) where
  opened : put t e ≡ take i t ++ put (x ∷ drop (i + 1) t) e
  opened = h.put ∙ ap (λ (ys : Table). take i t ++ put ys e) (drop_here t i x inside at)

  pub search_less : text_order x.key e.key ≡ Less → IsSearched t e (i + 1)
  search_less less = record {
    within = omega arith;
    put = opened ∙ ap (λ o. take i t ++ match_ordering o (x ∷ put (drop (i + 1) t) e) (e ∷ drop (i + 1) t) (e ∷ x ∷ drop (i + 1) t)) less
        ∙ sym (append_assoc (take i t) (x ∷ []) (put (drop (i + 1) t) e)) ∙ ap (λ (ys : Table). ys ++ put (drop (i + 1) t) e) (sym (take_here t i x inside at));
  }

  pub search_equal : text_order x.key e.key ≡ Equal → IsPlace t e (At i)
  search_equal equal = (inside, opened ∙ ap (λ o. take i t ++ match_ordering o (x ∷ put (drop (i + 1) t) e) (e ∷ drop (i + 1) t) (e ∷ x ∷ drop (i + 1) t)) equal)

  pub search_greater : text_order x.key e.key ≡ Greater → IsPlace t e (Before i)
  search_greater greater = (
    omega arith,
    opened ∙ ap (λ o. take i t ++ match_ordering o (x ∷ put (drop (i + 1) t) e) (e ∷ drop (i + 1) t) (e ∷ x ∷ drop (i + 1) t)) greater
        ∙ ap (λ (ys : Table). take i t ++ e ∷ ys) (sym (drop_here t i x inside at)),
  )

pub search_end : (t : Table) (e : Stored) (i : ℕ) → length t ≤ i → IsSearched t e i → IsPlace t e (Before i)
search_end t e i l h =
    let none = drop_all i t l in
    (h.within, h.put ∙ ap (λ (ys : Table). take i t ++ put ys e) none ∙ ap (λ (ys : Table). take i t ++ e ∷ ys) (sym none))

-- an entry written over the one at an index
pub set_here : (t : Table) (e : Stored) (i : ℕ) → i < length t → set t i e ≡ take i t ++ e ∷ drop (i + 1) t
set_here t e i l = sym (take-append-drop i (set t i e)) ∙ ap (λ (ys : Table). ys ++ drop i (set t i e)) (take-set t i e) ∙ ap (λ (ys : Table). take i t ++ ys) (drop-set t i e l)
