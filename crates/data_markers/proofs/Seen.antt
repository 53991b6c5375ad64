-- Adding who has seen the marks, by going up the identities.
use Rattle.model_history.specs.Table.{identity_limit}
use Rattle.std.proofs.Common.{◌≡◌, ◌≢◌, ℕ, ◌+◌, ◌≤◌, ◌<◌, Bool, true, false, ◌||◌, None, arith, refl, ap, sym, ◌∙◌, subst, ⊎_elim}
use Rattle.std.specs.List.{list_any, range_with_len}
use Rattle.std.proofs.lemmas.Bool.{cases_eq, cases_lt}
use Rattle.base_vectors.proofs.Walks.{any_more, any_end}
use Rattle.data_markers.specs.Marks.{Marks, mark_of, marker_seen_by, is_unseen_by, has_unseen_by}

pub record IsSeenBelow (id view : ℕ) (start marks : Marks) (changed : Bool) (count : ℕ) : Type 0 where
  pub below : (r : ℕ) → r < count → mark_of marks r ≡ marker_seen_by id view (mark_of start r)
  pub above : (r : ℕ) → count ≤ r → mark_of marks r ≡ mark_of start r
  pub any : changed ≡ list_any (λ r. is_unseen_by id view (mark_of start r)) (range_with_len 0 count)

pub seen_none : (id view : ℕ) (start : Marks) → IsSeenBelow id view start start false 0
seen_none id view start = record { below = λ r l. absurd (omega arith); above = λ r l. refl; any = refl }

pub seen_one : (id view : ℕ) (start marks next : Marks) (changed changed' : Bool) (count : ℕ) → mark_of next count ≡ marker_seen_by id view (mark_of marks count) → ((r : ℕ) → r ≢ count → mark_of next r ≡ mark_of marks r)
    → changed' ≡ (changed || is_unseen_by id view (mark_of marks count)) → IsSeenBelow id view start marks changed count → IsSeenBelow id view start next changed' (count + 1)
seen_one id view start marks next changed changed' count here others is h =
    let was : mark_of marks count ≡ mark_of start count = h.above count (omega arith) in
    record {
      below = λ r l. ⊎_elim
          (λ (e : r ≡ count). subst (λ k. mark_of next k ≡ marker_seen_by id view (mark_of start k)) (sym e) (here ∙ ap (marker_seen_by id view) was))
          (λ (ne : r ≢ count). others r ne ∙ h.below r (omega arith)) (cases_eq r count);
      above = λ r l. others r (λ e. omega arith) ∙ h.above r (omega arith);
      any = is ∙ ap (λ b. b || is_unseen_by id view (mark_of marks count)) h.any
          ∙ ap (λ m. list_any (λ r. is_unseen_by id view (mark_of start r)) (range_with_len 0 count) || is_unseen_by id view m) was
          ∙ sym (any_more (λ r. is_unseen_by id view (mark_of start r)) count);
    }

pub or_true : (b c : Bool) → c ≡ true → true ≡ (b || c)
or_true true c e = refl
or_true false c e = sym e

pub or_false : (b c : Bool) → c ≡ false → b ≡ (b || c)
or_false true c e = refl
or_false false c e = sym e

pub seen_all : (id view : ℕ) (start marks : Marks) (changed : Bool) (count : ℕ) → ((r : ℕ) → count ≤ r → mark_of start r ≡ None) → IsSeenBelow id view start marks changed count
    → (r : ℕ) → mark_of marks r ≡ marker_seen_by id view (mark_of start r)
seen_all id view start marks changed count none h r = ⊎_elim (λ (b : r < count). h.below r b)
    (λ (a : count ≤ r). h.above r a ∙ none r a ∙ sym (ap (marker_seen_by id view) (none r a))) (cases_lt r count)

pub seen_any : (id view : ℕ) (start marks : Marks) (changed : Bool) (count : ℕ) → count ≤ identity_limit → ((r : ℕ) → count ≤ r → mark_of start r ≡ None) → IsSeenBelow id view start marks changed count → changed ≡ has_unseen_by id view start
unfolding has_unseen_by
seen_any id view start marks changed count few none h = h.any ∙ any_end (λ r. is_unseen_by id view (mark_of start r)) count few (λ r l. ap (is_unseen_by id view) (none r l))
