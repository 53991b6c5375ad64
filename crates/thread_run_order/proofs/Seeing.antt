-- A call stands after all that its session had seen, since its stamp is above theirs.
use Rattle.std.proofs.Common.{◌≡◌, ◌≢◌, inl, inr, ℕ, zero, suc, ◌<◌, ◌≤◌, List, [], ◌∷◌, Some, refl, sym, ap, subst, ◌∙◌, arith}
use Rattle.std.specs.Prelude.{slice_get}
use Rattle.std.specs.List.{AllByRecursion}
use Rattle.std.proofs.lemmas.Bool.Decides.{eqb_tells}
use mathlib.Core.List.{IsPrefix}
use Rattle.thread_machine.specs.declared.machine.Machine.{Ghosts}
use Rattle.thread_machine.specs.declared.entry.Entry.{Entry}
use Rattle.thread_cell.specs.declared.receipt.Receipt.{Receipt}
use Rattle.thread_cell.specs.Lists.{at}
use Rattle.thread_cell.specs.Values.{ClientParts}
use Rattle.thread_cell.proofs.Prefixes.{prefix_get, prefix_trans}
use Rattle.thread_run_order.specs.Orders.{AtPlace, entries_of, ComesBefore, AreSorted, IsRunOrder}
use Rattle.thread_run_order.specs.Seeing.{IsCallWithin, StandsBelow, FollowsAllSeen}
use Rattle.thread_run_order.proofs.Merging.{same_place, other_place}

all_at : {X : Type 0} (P : X → Type 0) (xs : List X) (i : ℕ) (x : X) → AllByRecursion P xs → slice_get xs i ≡ Some x → P x
all_at P [] i x all is = absurd cc
all_at P (y ∷ xs) zero x all is = let same : y ≡ x = cc in subst P same all.0
all_at P (y ∷ xs) (suc i) x all is = all_at P xs i x all.1 is

module _ {M I F O R : Type 0} where
  -- the entry of a place is the first one's, or stands in the rest
  first : (x : AtPlace (Entry M I F O R)) (xs : List (AtPlace (Entry M I F O R))) (p : ℕ) (e : Entry M I F O R)
      → ((n : ℕ) → slice_get (entries_of p xs) n ≡ Some e → (i : ℕ) × (slice_get xs i ≡ Some (record { place = p; entry = e })))
      → (k : ℕ) → slice_get (x.entry ∷ entries_of p xs) k ≡ Some e → x.place ≡ p → (i : ℕ) × (slice_get (x ∷ xs) i ≡ Some (record { place = p; entry = e }))
  first x xs p e rest zero here place =
      let entry : x.entry ≡ e = cc in
      (zero, ap Some (ap (λ q. record { place = q; entry = x.entry }) place ∙ ap (λ f. record { place = p; entry = f }) entry))
  first x xs p e rest (suc k) here place = let below = rest k here in (suc below.0, below.1)

  -- an entry of a place stands in the list
  found : (xs : List (AtPlace (Entry M I F O R))) (p n : ℕ) (e : Entry M I F O R) → slice_get (entries_of p xs) n ≡ Some e → (i : ℕ) × (slice_get xs i ≡ Some (record { place = p; entry = e }))
  found [] p n e is = absurd cc
  found (x ∷ xs) p n e is = elim (eqb_tells x.place p) [
    | inl here ↦ first x xs p e (λ k stands. found xs p k e stands) n (sym (ap (λ es. slice_get es n) (same_place x p x xs here.1)) ∙ is) here.1
    | inr other ↦ (let rest = found xs p n e (sym (ap (λ es. slice_get es n) (other_place x p x xs other.1)) ∙ is) in (suc rest.0, rest.1))
  ]

  -- of two in the list, that of the lower stamp stands earlier
  sorted_below : (xs : List (AtPlace (Entry M I F O R))) (i k : ℕ) (x y : AtPlace (Entry M I F O R)) → AreSorted xs → slice_get xs i ≡ Some x → slice_get xs k ≡ Some y → x.entry.stamp < y.entry.stamp → i < k
  sorted_below [] i k x y sorted at_i at_k less = absurd cc
  sorted_below (z ∷ xs) zero zero x y sorted at_i at_k less = let same : x ≡ y = cc in let e = ap (λ (w : AtPlace (Entry M I F O R)). w.entry.stamp) same in absurd (omega arith)
  sorted_below (z ∷ xs) zero (suc k) x y sorted at_i at_k less = omega arith
  sorted_below (z ∷ xs) (suc i) zero x y sorted at_i at_k less =
      let same : z ≡ y = cc in
      let before : ComesBefore y x = subst (λ (w : AtPlace (Entry M I F O R)). ComesBefore w x) same (all_at (ComesBefore z) xs i x sorted.0 at_i) in
      absurd (elim before [ inl a ↦ omega arith | inr b ↦ (let e = b.0 in omega arith) ])
  sorted_below (z ∷ xs) (suc i) (suc k) x y sorted at_i at_k less = let rest = sorted_below xs i k x y sorted.1 at_i at_k less in omega arith

  module _ (meaning : Ghosts M I F O R) (histories : ℕ → List (Entry M I F O R)) (xs : List (AtPlace (Entry M I F O R))) (order : IsRunOrder histories xs) where
    place_in : (p n : ℕ) (e : Entry M I F O R) → slice_get (histories p) n ≡ Some e → (i : ℕ) × (slice_get xs i ≡ Some (record { place = p; entry = e }))
    place_in p n e is = found xs p n e (ap (λ es. slice_get es n) (order.whole p) ∙ is)

    pub follows_all : (p : ℕ) (input : I) (old new : ClientParts M I F O R) (receipt : Receipt M I F O R) → IsCallWithin meaning histories p input old new receipt
        → (entry : Entry M I F O R) → slice_get (histories p) receipt.index ≡ Some entry → FollowsAllSeen xs old p entry
    follows_all p input old new receipt call entry is =
        let a = call.answered in
        let here : slice_get (histories p) receipt.index ≡ Some a.entry = prefix_get (at new.seen.known p) (histories p) receipt.index a.entry (call.begins p) a.stands in
        let same : a.entry ≡ entry = cc (sym here ∙ is) in
        let stamp : entry.stamp ≡ receipt.stamp = ap (λ (e : Entry M I F O R). e.stamp) (sym same) ∙ a.stamp_is in
        let c = place_in p receipt.index entry is in
        record {
          call = c.0;
          stands = c.1;
          earlier = λ k q j seen le known.
              let later : slice_get (histories q) j ≡ Some seen = prefix_get (at old.seen.known q) (histories q) j seen (prefix_trans (at old.seen.known q) (at new.seen.known q) (histories q) (a.goes_on.knows.begins q) (call.begins q)) known in
              let f = place_in q j seen later in
              let low = call.timed.at_least q j seen known in
              let high = a.later in
              let less : seen.stamp < entry.stamp = omega arith in
              let below = sorted_below xs f.0 c.0 (record { place = q; entry = seen }) (record { place = p; entry = entry }) order.sorted f.1 c.1 less in
              record { index = f.0; below = omega arith; stands = f.1 };
        }
