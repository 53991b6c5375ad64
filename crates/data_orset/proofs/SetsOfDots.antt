-- The finite set of a list of dots.
use Rattle.std.proofs.Common.{◌≡◌, ℕ, List, Bool, true, ◌&&◌, ap, sym, ◌∙◌, subst, map}
use Rattle.std.specs.List.{filter, list_any}
use Rattle.std.specs.Ordering.{nat_cmp, eq_by_cmp}
use Rattle.std.specs.Cmp.{Equal-is}
use Rattle.std.specs.Cmp.Lexicographic.{slice_cmp, nat_list_cmp_total}
use Rattle.std.specs.FinSet as set
use Rattle.std.proofs.lemmas.Map.Lookups.{exact_bytes}
use Rattle.data_orset.specs.Placing.{Placed, key_of, AreDots}
use Rattle.data_orset.specs.Dots.{Dots}
use Rattle.data_orset.specs.Keeping.{set_of, stays, set_merged, AreMerged}
use Rattle.data_orset.proofs.Placings.{IsOfOne, dots_filter}
use Rattle.data_orset.specs.DotLaws.{same_dots, alike}
use Rattle.data_orset.proofs.Changes.{any_map, contains-merged}
use Rattle.data_orset.proofs.Merging.{merge, any_filter, dots_merge, has_merge}

-- THE DOT AT A KEY

abbrev pub is_at : List ℕ → Placed → Bool
is_at k p = eq_by_cmp (slice_cmp nat_cmp) k (key_of p)

pub key_at : (k : List ℕ) (p : Placed) → is_at k p ≡ true → k ≡ key_of p
key_at k p e = exact_bytes k (key_of p) ((Equal-is (slice_cmp nat_cmp k (key_of p))).0 e)

same_key : (p q : Placed) → key_of p ≡ key_of q → p ≡ q
same_key p q e =
    let element : p.element ≡ q.element = cc in
    let origin : p.origin ≡ q.origin = cc in
    let seq : p.seq ≡ q.seq = cc in
    λ i. record { element = element i; origin = origin i; seq = seq i }

pub one_at : (k : List ℕ) → IsOfOne (is_at k)
one_at k = record { one = λ p q there here. same_key p q (sym (key_at k p there) ∙ key_at k q here) }

pub contains_set_of : (ps : List Placed) (k : List ℕ) → set.contains (set_of ps) k ≡ list_any (is_at k) ps
contains_set_of ps k = set.contains-from_list nat_list_cmp_total (map key_of ps) k ∙ any_map (eq_by_cmp (slice_cmp nat_cmp) k) key_of ps

pub key_test : (r : List ℕ → Bool) (k : List ℕ) (p : Placed) → is_at k p ≡ true → r (key_of p) ≡ r k
key_test r k p e = ap r (sym (key_at k p e))

-- WHAT THE PASSES LEAVE

pub contains_filter : (r : List ℕ → Bool) (ps : List Placed) (k : List ℕ) → set.contains (set_of (filter (λ p. r (key_of p)) ps)) k ≡ (set.contains (set_of ps) k && r k)
contains_filter r ps k =
    contains_set_of (filter (λ p. r (key_of p)) ps) k ∙ any_filter (is_at k) (λ p. r (key_of p)) (r k) (key_test r k) ps ∙ ap (λ b. b && r k) (sym (contains_set_of ps k))

pub merge_is : (both : Bool) (mine theirs : List ℕ → Bool) (xs ys all : List Placed) → AreDots xs → AreDots ys → all ≡ merge both (λ p. mine (key_of p)) (λ p. theirs (key_of p)) xs ys → AreMerged both mine theirs xs ys all
merge_is both mine theirs xs ys all h k e = record {
  dots = subst AreDots (sym e) (dots_merge both (λ p. mine (key_of p)) (λ p. theirs (key_of p)) xs ys h k);
  has = λ q. contains_set_of all q ∙ ap (list_any (is_at q)) e
      ∙ has_merge both (λ p. mine (key_of p)) (λ p. theirs (key_of p)) (is_at q) (mine q) (theirs q) (one_at q) (key_test mine q) (key_test theirs q) xs ys h k
      ∙ ap (λ b. stays both (mine q) (theirs q) b (list_any (is_at q) ys)) (sym (contains_set_of xs q))
      ∙ ap (λ b. stays both (mine q) (theirs q) (set.contains (set_of xs) q) b) (sym (contains_set_of ys q));
}

-- the merged list is the merged set
pub merged_set : (both : Bool) (mine theirs : List ℕ → Bool) (xs ys all : List Placed) (a b : Dots) → set_of xs ≡ a → set_of ys ≡ b → AreMerged both mine theirs xs ys all → set_of all ≡ set_merged both mine theirs a b
merged_set both mine theirs xs ys all a b p q h = same_dots _ _ (λ k.
    h.has k ∙ ap (λ s. stays both (mine k) (theirs k) (set.contains s k) (set.contains (set_of ys) k)) p ∙ ap (λ s. stays both (mine k) (theirs k) (set.contains a k) (set.contains s k)) q
    ∙ sym (contains-merged both mine theirs a b k))

-- the list's dots that pass a test of their keys are the set's
pub filtered_set : (r : List ℕ → Bool) (ps : List Placed) (a : Dots) → set_of ps ≡ a → set_of (filter (λ p. r (key_of p)) ps) ≡ set.retain a r
filtered_set r ps a e = same_dots _ _ (λ k.
    contains_filter r ps k ∙ ap (λ s. set.contains s k && r k) e ∙ sym (set.contains-retain a r k (alike r k)))

pub filtered_dots : (test : Placed → Bool) (ps all : List Placed) → AreDots ps → all ≡ filter test ps → AreDots all
filtered_dots test ps all h e = subst AreDots (sym e) (dots_filter test ps h)
