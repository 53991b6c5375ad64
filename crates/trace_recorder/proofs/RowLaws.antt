-- Rows of vectors by members: another vector at one member, and a number that rises.
use Rattle.std.proofs.Common.{◌∷◌, ◌≡◌, ◌≢◌, ℕ, suc, ◌+◌, ◌<◌, ◌≤◌, List, [], length, max, set, get_or, zero, Some, refl, sym, ap, ◌∙◌, arith, Bool, true, false, inl, inr, get_or-set_other, get_or-set_same, length-set}
use Rattle.std.specs.Prelude.{◌↔◌, slice_get, IsTrue, OnOk, Result, Ok, Err}
use Rattle.std.specs.FinMap as map
use Rattle.std.proofs.lemmas.Bool.{cases_lt}
use Rattle.std.proofs.lemmas.Bool.Decides.{eqb_tells}
use Rattle.std.proofs.lemmas.Grind.{get_or-set_at}
use Rattle.std.proofs.lemmas.List.{set-get_or}
use Rattle.std.proofs.lemmas.Option.{slice_get-get_or}
use Rattle.model_history.specs.Table.{identity_limit, with_at}
use Rattle.model_history.specs.Texts.{Text}
use Rattle.model_history.specs.Vector.{VersionVector}
use Rattle.model_history.proofs.HistoryLaws.{with_at_same, with_at_other}
use Rattle.model_kinds.specs.declared.operation.Op.{Op}
use Rattle.model_traces.specs.Traces.{Act}
use Rattle.model_traces.specs.Traces.Act.{Holds, Shows}
use Rattle.trace_told.specs.Told.{are_alike, is_news}
use Rattle.model_traces.proofs.Lines.{with_at_own}
use Rattle.base_vectors.specs.Vectors.{Numbers, number_at, raised}
use Rattle.base_vectors.proofs.Laws.{number_at-raised_same, number_at-raised_other}
use Rattle.trace_told.proofs.Counting.{alike_tells, alike_from}
use Rattle.trace_recorder.specs.Rows.{vector_at, IsPut, IsRaised, HasCounted, HasCountedAt}
use Rattle.trace_recorder.specs.declared.rows.Row.{Row}

-- the test of vectors that count nothing from the last identity on
pub same_alike : (b : Bool) (v w : Numbers) → (IsTrue b ↔ ((i : ℕ) → number_at v i ≡ number_at w i)) → (m n : ℕ) → m ≤ identity_limit → ((i : ℕ) → m ≤ i → number_at v i ≡ 0) → n ≤ identity_limit → ((i : ℕ) → n ≤ i → number_at w i ≡ 0) → b ≡ are_alike (number_at v) (number_at w)
same_alike true v w tells m n few none few' none' = sym (alike_from (number_at v) (number_at w) (λ x small. tells.0 refl x))
same_alike false v w tells m n few none few' none' = go (are_alike (number_at v) (number_at w)) refl
  where
    all : are_alike (number_at v) (number_at w) ≡ true → (i : ℕ) → number_at v i ≡ number_at w i
    all e i = elim (cases_lt i identity_limit) [
      | inl small ↦ alike_tells (number_at v) (number_at w) e i small
      | inr far ↦ none i (omega (arith, few, far)) ∙ sym (none' i (omega (arith, few', far)))
    ]

    go : (c : Bool) → are_alike (number_at v) (number_at w) ≡ c → false ≡ c
    go false e = refl
    go true e = absurd (let f : false ≡ true = tells.1 (all e) in cc f)

pub on_ok : {A E : Type 0} (r : Result A E) (P Q : Type 0) → (P → Q) → OnOk r P → OnOk r Q
on_ok (Ok x) P Q f h = f h
on_ok (Err e) P Q f h = h

-- another vector in a list that was long enough
pub put_there : (old mid new : List Numbers) (i : ℕ) (v : Numbers) → ((j : ℕ) → vector_at mid j ≡ vector_at old j) → i < length mid → new ≡ set mid i v → IsPut old new i v
put_there old mid new i v same long is j = ap (λ xs. vector_at xs j) is ∙ elim (eqb_tells j i) [
  | inl e ↦ get_or-set_at mid i j v map.empty e.1 long ∙ sym (ap (with_at (vector_at old) i v) e.1 ∙ with_at_same (vector_at old) i v)
  | inr e ↦ get_or-set_other mid i j v map.empty e.1 ∙ same j ∙ sym (with_at_other (vector_at old) i v j e.1)
]

module _ (old new : List Numbers) (i : ℕ) where
  abbrev numbers : ℕ → VersionVector
  numbers k = number_at (vector_at old k)

  abbrev more : VersionVector
  more = with_at (numbers i) i (suc (numbers i i))

  put_numbers : (v : Numbers) → IsPut old new i v → (j : ℕ) → number_at (vector_at new j) ≡ with_at numbers i (number_at v) j
  put_numbers v put j = ap number_at (put j) ∙ elim (eqb_tells j i) [
    | inl e ↦ ap number_at (ap (with_at (vector_at old) i v) e.1 ∙ with_at_same (vector_at old) i v) ∙ sym (ap (with_at numbers i (number_at v)) e.1 ∙ with_at_same numbers i (number_at v))
    | inr e ↦ ap number_at (with_at_other (vector_at old) i v j e.1) ∙ sym (with_at_other numbers i (number_at v) j e.1)
  ]

  -- what is held
  pub held_counted : (v : Numbers) → IsPut old new i v → HasCounted old new i (Holds (number_at v))
  held_counted v put j x small = ap (λ (f : VersionVector). f x) (put_numbers v put j)

  -- one number rises
  pub raised_there : (v : Numbers) (to : ℕ) → v ≡ vector_at old i → to ≡ number_at v i + 1 → IsPut old new i (raised v i to) → IsRaised old new i
  raised_there v to is next put j x small = ap (λ (f : VersionVector). f x) (put_numbers (raised v i to) put j) ∙ elim (eqb_tells j i) [
    | inr e ↦ ap (λ (f : VersionVector). f x) (with_at_other numbers i (number_at (raised v i to)) j e.1 ∙ sym (with_at_other numbers i more j e.1))
    | inl e ↦
        ap (λ k. with_at numbers i (number_at (raised v i to)) k x) e.1 ∙ ap (λ (f : VersionVector). f x) (with_at_same numbers i (number_at (raised v i to)))
        ∙ risen ∙ sym (ap (λ k. with_at numbers i more k x) e.1 ∙ ap (λ (f : VersionVector). f x) (with_at_same numbers i more))
  ]
    where
      risen : number_at (raised v i to) x ≡ more x
      risen = elim (eqb_tells x i) [
        | inl e ↦
            let same : number_at v i ≡ numbers i i = ap (λ w. number_at w i) is in
            let up : max (number_at v i) to ≡ suc (numbers i i) = omega (arith, next, same) in
            number_at-raised_same v i to x small e.1 ∙ up ∙ sym (ap more e.1 ∙ with_at_same (numbers i) i (suc (numbers i i)))
        | inr e ↦ number_at-raised_other v i to x small e.1 ∙ ap (λ w. number_at w x) is ∙ sym (with_at_other (numbers i) i (suc (numbers i i)) x e.1)
      ]

-- what is shown changes nothing
pub shown_counted : (held : List Numbers) (i : ℕ) (text : Text) → HasCounted held held i (Shows text)
shown_counted held i text j x small = let f = λ (k : ℕ). number_at (vector_at held k) in ap (λ (g : ℕ → VersionVector). g j x) (sym (with_at_own f i (f i) refl))

-- ROWS OF KEYS

module _ (old : List Row) (place i : ℕ) (act : Act Op) (row : Row) (less : place < length old) (at : row ≡ get_or old place row) where
  row_was : slice_get old place ≡ Some row
  row_was = slice_get-get_or old place row less ∙ ap Some (sym at)

  row_back : set old place row ≡ old
  row_back = ap (set old place) at ∙ set-get_or old place row

  -- what is no news is not counted
  pub counted_none : false ≡ is_news (number_at (vector_at row.held.items i)) act → HasCountedAt place i act false old (set old place row)
  counted_none told = record {
    before = row;
    after = row;
    was = row_was;
    is = ap (λ rows. slice_get rows place) row_back ∙ row_was;
    told = told;
    counted = λ news. absurd (let e : false ≡ true = news in cc e);
    same = λ none. row_back;
    others = λ p other. ap (λ rows. slice_get rows p) row_back;
  }

  other_row : (rows : List Row) (now : Row) (n p : ℕ) → p ≢ n → slice_get (set rows n now) p ≡ slice_get rows p
  other_row [] now n p other = refl
  other_row (x ∷ rows) now zero zero other = absurd (other refl)
  other_row (x ∷ rows) now zero (suc p) other = refl
  other_row (x ∷ rows) now (suc n) zero other = refl
  other_row (x ∷ rows) now (suc n) (suc p) other = other_row rows now n p (λ e. other (ap suc e))

  -- and what is news is
  pub counted_news : (now : Row) → true ≡ is_news (number_at (vector_at row.held.items i)) act → HasCounted row.held.items now.held.items i act → HasCountedAt place i act true old (set old place now)
  counted_news now told counted = record {
    before = row;
    after = now;
    was = row_was;
    is = slice_get-get_or (set old place now) place now (let n = length-set old place now in omega (arith, n, less)) ∙ ap Some (get_or-set_same old place now now less);
    told = told;
    counted = λ news. counted;
    same = λ none. absurd (let e : true ≡ false = none in cc e);
    others = λ p other. other_row old now place p other;
  }
