-- A merge by going up the identities.
use Rattle.std.proofs.Common.{◌≡◌, ◌≢◌, ℕ, ◌+◌, ◌≤◌, ◌<◌, Option, Some, None, arith, refl, ap, sym, ◌∙◌, subst, ⊎_elim}
use Rattle.std.specs.Ordering.{nat_cmp}
use Rattle.std.specs.FinMap as map
use Rattle.std.specs.FinMap.{get-empty}
use Rattle.std.proofs.lemmas.Bool.{cases_eq, cases_lt}
use Rattle.data_markers.specs.declared.marker.Marker.{Marker}
use Rattle.data_markers.specs.Marks.{Marks, mark_of, merged_option, MergesTo}
use Rattle.data_markers.proofs.Laws.{mark_of-insert_same, mark_of-insert_other}

pub record IsMergedBelow (start other merged : Marks) (count : ℕ) : Type 0 where
  pub below : (i : ℕ) → i < count → mark_of merged i ≡ merged_option (mark_of start i) (mark_of other i)
  pub above : (i : ℕ) → count ≤ i → mark_of merged i ≡ mark_of start i

pub merged_none : (start other : Marks) → IsMergedBelow start other start 0
merged_none start other = record { below = λ i l. absurd (omega arith); above = λ i l. refl }

pub merged_put : (start other merged next : Marks) (id : ℕ) (mark x : Marker) → next ≡ map.insert merged id x → mark_of other id ≡ Some mark → Some x ≡ merged_option (mark_of start id) (Some mark)
    → IsMergedBelow start other merged id → IsMergedBelow start other next (id + 1)
merged_put start other merged next id mark x is has made h =
    let same : mark_of next id ≡ merged_option (mark_of start id) (mark_of other id) =
    ap (λ m. mark_of m id) is ∙ mark_of-insert_same merged id id x refl ∙ made ∙ ap (merged_option (mark_of start id)) (sym has) in
    let apart : (i : ℕ) → i ≢ id → mark_of next i ≡ mark_of merged i = λ i ne. ap (λ m. mark_of m i) is ∙ mark_of-insert_other merged id i x ne in
    record {
      below = λ i l. ⊎_elim (λ (e : i ≡ id). subst (λ k. mark_of next k ≡ merged_option (mark_of start k) (mark_of other k)) (sym e) same)
          (λ (ne : i ≢ id). apart i ne ∙ h.below i (omega arith)) (cases_eq i id);
      above = λ i l. apart i (λ e. omega arith) ∙ h.above i (omega arith);
    }

option_same : (o : Option Marker) → merged_option o None ≡ o
option_same None = refl
option_same (Some x) = refl

pub merged_nothing : (start other merged : Marks) (id : ℕ) → mark_of other id ≡ None → IsMergedBelow start other merged id → IsMergedBelow start other merged (id + 1)
merged_nothing start other merged id none h =
    let same : mark_of merged id ≡ merged_option (mark_of start id) (mark_of other id) = h.above id (omega arith) ∙ sym (ap (merged_option (mark_of start id)) none ∙ option_same (mark_of start id)) in
    record {
      below = λ i l. ⊎_elim (λ (e : i ≡ id). subst (λ k. mark_of merged k ≡ merged_option (mark_of start k) (mark_of other k)) (sym e) same)
          (λ (ne : i ≢ id). h.below i (omega arith)) (cases_eq i id);
      above = λ i l. h.above i (omega arith);
    }

pub merged_all : (start other merged : Marks) (count : ℕ) → ((i : ℕ) → count ≤ i → mark_of other i ≡ None) → IsMergedBelow start other merged count → MergesTo start other merged
merged_all start other merged count none h i = ⊎_elim (λ (b : i < count). h.below i b)
    (λ (a : count ≤ i). h.above i a ∙ sym (ap (merged_option (mark_of start i)) (none i a) ∙ option_same (mark_of start i))) (cases_lt i count)

pub merged_with_none : (start other : Marks) → other ≡ map.empty → MergesTo start other start
merged_with_none start other none i = sym (ap (λ (m : Marks). merged_option (mark_of start i) (mark_of m i)) none ∙ ap (merged_option (mark_of start i)) (get-empty nat_cmp i) ∙ option_same (mark_of start i))
