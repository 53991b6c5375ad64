-- What any set of dots mentions, also one of no history: the laws of calls.
use Rattle.std.proofs.Common.{◌≡◌, ◌⊎◌, ℕ, Bool, true, false, not, ◌&&◌, List, [], ◌∷◌, refl, ap, sym, ◌∙◌, ⊎_elim, inl, inr}
use Rattle.std.proofs.lemmas.Bool.{or_cases, and_parts, and_from, not-true, false_from_ne_true, eqb-true, eq-eqb}
use Rattle.std.specs.List.{list_any}
use Rattle.std.specs.Ordering.{nat_cmp, eq_by_cmp}
use Rattle.std.specs.Cmp.Lexicographic.{slice_cmp}
use Rattle.std.specs.FinSet as set
use Rattle.std.specs.FinSet.{contains-empty}
use Rattle.model_history.specs.Vector.{VersionVector}
use Rattle.model_history.proofs.CutLaws.{both_ways}
use Rattle.base_vectors.specs.declared.id.Dot.{Dot}
use Rattle.model_kinds.specs.declared.operation.Op.{Op}
use Rattle.base_bytes.proofs.TextLaws.{texts_eq}
use Rattle.data_orset.specs.declared.set.SetDelta.{SetDelta}
use Rattle.data_orset.specs.Cases.{which, absorbed_from}
use Rattle.data_orset.specs.Dots.{Dots, contained, is_of, is_dot_of, is_named, is_touched, fresh_of, moved, set_joined, set_absorbed, set_applied, set_cleaned, set_pruned, set_mentioned}
use Rattle.data_orset.specs.DotLaws.{some_dot, dot_of_any, contains-joined, contains-absorbed, contains-applied, contains-cleaned, contains-pruned}
use Rattle.data_orset.specs.DataOf.{IsOfOne}
use Rattle.data_orset.specs.JoinLaws.{delta_origin}
use Rattle.data_orset.specs.PruneLaws.{moved_from}

-- a set without a dot of the identity doesn't mention it
without_dot : (state : Dots) (id : ℕ) → ((k : List ℕ) → set.contains state k ≡ true → is_of id k ≡ true → ⊥) → set_mentioned state id ≡ false
without_dot state id none = false_from_ne_true _ (λ t. let f = dot_of_any state (is_of id) t in none f.0 f.1 f.2)

-- a set that doesn't mention the identity has no dot of it
no_dot : (state : Dots) (id : ℕ) → set_mentioned state id ≡ false → (k : List ℕ) → set.contains state k ≡ true → is_of id k ≡ true → ⊥
no_dot state id none k c own = both_ways _ (some_dot state (is_of id) k c own) none

-- a dot is of one identity
of_one : (a b : ℕ) (k : List ℕ) → is_of a k ≡ true → is_of b k ≡ true → a ≡ b
of_one a b [] p q = absurd (cc p)
of_one a b (o ∷ []) p q = absurd (cc p)
of_one a b (o ∷ s ∷ e) p q = sym (eqb-true o a p) ∙ eqb-true o b q

-- a prune of a dot's identity touches the dot's element
own_touched : (state : Dots) (id : ℕ) (k : List ℕ) → set.contains state k ≡ true → is_of id k ≡ true → is_touched state id k ≡ true
own_touched state id [] c p = absurd (cc p)
own_touched state id (o ∷ []) c p = absurd (cc p)
own_touched state id (o ∷ s ∷ e) c p = some_dot state (is_dot_of e id) (o ∷ s ∷ e) c (and_from _ _ p (texts_eq e))

-- a dot after a prune is one that the prune doesn't touch, or is the owner's
after_prune : (state : Dots) (removed : ℕ) (dot : Dot) (k : List ℕ) → set.contains (set_pruned state removed dot) k ≡ true
    → ((set.contains state k ≡ true) × (is_touched state removed k ≡ false)) ⊎ (is_of dot.origin k ≡ true)
after_prune state removed dot k c = ⊎_elim
    (λ (a : (set.contains state k && not (is_touched state removed k)) ≡ true). let both = and_parts _ _ a in inl (both.0, not-true _ both.1))
    (λ (b : list_any (eq_by_cmp (slice_cmp nat_cmp) k) (moved removed dot (set.items state)) ≡ true).
    let f = moved_from removed dot k (set.items state) b in inr (ap (is_of dot.origin) f.1 ∙ eq-eqb dot.origin dot.origin refl))
    (or_cases _ _ (sym (contains-pruned state removed dot k) ∙ c))

-- nothing is mentioned where there was no record
pub empty_mentions : (id : ℕ) → set_mentioned set.empty id ≡ false
empty_mentions id = without_dot set.empty id (λ k c own. both_ways _ c (contains-empty (slice_cmp nat_cmp) k))

-- an operation adds no mention but of its origin
pub applied_mentions : (state : Dots) (op : Op) (dot : Dot) (id : ℕ) → (id ≡ dot.origin → ⊥) → set_mentioned state id ≡ false → set_mentioned (set_applied state op dot) id ≡ false
applied_mentions state op dot id other none = without_dot _ id (λ k c own. ⊎_elim
    (λ (a : (set.contains state k && not (is_named op k)) ≡ true). no_dot state id none k (and_parts _ _ a).0 own)
    (λ (b : set.contains (fresh_of op dot) k ≡ true). other (of_one id dot.origin k own (delta_origin state op dot k b)))
    (or_cases _ _ (sym (contains-applied state op dot k) ∙ c)))

-- what a join mentions, either side does
pub joined_mentions : (state : Dots) (mine : VersionVector) (other : Dots) (theirs : VersionVector) (id : ℕ) → set_mentioned state id ≡ false → set_mentioned other id ≡ false → set_mentioned (set_joined state mine other theirs) id ≡ false
joined_mentions state mine other theirs id none none_too = without_dot _ id (λ k c own. ⊎_elim
    (λ (both : (set.contains state k ≡ true) × (set.contains other k ≡ true)). no_dot state id none k both.0 own)
    (λ (one : ((set.contains state k ≡ true) × (contained theirs k ≡ false)) ⊎ ((set.contains other k ≡ true) × (contained mine k ≡ false))). ⊎_elim
    (λ (l : (set.contains state k ≡ true) × (contained theirs k ≡ false)). no_dot state id none k l.0 own)
    (λ (r : (set.contains other k ≡ true) × (contained mine k ≡ false)). no_dot other id none_too k r.0 own) one)
    (which _ _ _ _ (sym (contains-joined state mine other theirs k) ∙ c)))

-- a delta adds no mention but of its origin
pub absorbed_mentions : (state : Dots) (mine : VersionVector) (delta : SetDelta) (origin id : ℕ) → IsOfOne delta origin → (id ≡ origin → ⊥) → set_mentioned state id ≡ false → set_mentioned (set_absorbed state mine delta) id ≡ false
absorbed_mentions state mine delta origin id made_by other none = without_dot _ id (λ k c own. ⊎_elim
    (λ (a : (set.contains state k ≡ true) × ((set.contains delta.seen k ≡ false) ⊎ (set.contains delta.fresh k ≡ true))). no_dot state id none k a.0 own)
    (λ (b : (set.contains delta.fresh k ≡ true) × (contained mine k ≡ false)). other (of_one id origin k own (made_by k b.0)))
    (absorbed_from _ _ _ _ (sym (contains-absorbed state mine delta k) ∙ c)))

-- cleaning adds no mention
pub cleaned_mentions : (state : Dots) (removed id : ℕ) → set_mentioned state id ≡ false → set_mentioned (set_cleaned state removed) id ≡ false
cleaned_mentions state removed id none = without_dot _ id (λ k c own. no_dot state id none k (and_parts _ _ (sym (contains-cleaned state removed k) ∙ c)).0 own)

-- what was cleaned away is mentioned no more
pub cleaned_unmentioned : (state : Dots) (removed : ℕ) → set_mentioned (set_cleaned state removed) removed ≡ false
cleaned_unmentioned state removed = without_dot _ removed (λ k c own. both_ways _ own (not-true _ (and_parts _ _ (sym (contains-cleaned state removed k) ∙ c)).1))

-- a prune adds no mention but of its origin
pub pruned_mentions : (state : Dots) (removed : ℕ) (dot : Dot) (id : ℕ) → (id ≡ dot.origin → ⊥) → set_mentioned state id ≡ false → set_mentioned (set_pruned state removed dot) id ≡ false
pruned_mentions state removed dot id other none = without_dot _ id (λ k c own. ⊎_elim
    (λ (a : (set.contains state k ≡ true) × (is_touched state removed k ≡ false)). no_dot state id none k a.0 own)
    (λ (b : is_of dot.origin k ≡ true). other (of_one id dot.origin k own b)) (after_prune state removed dot k c))

-- what was pruned is mentioned no more
pub pruned_unmentioned : (state : Dots) (removed : ℕ) (dot : Dot) → (removed ≡ dot.origin → ⊥) → set_mentioned (set_pruned state removed dot) removed ≡ false
pruned_unmentioned state removed dot other = without_dot _ removed (λ k c own. ⊎_elim
    (λ (a : (set.contains state k ≡ true) × (is_touched state removed k ≡ false)). both_ways _ (own_touched state removed k a.0 own) a.1)
    (λ (b : is_of dot.origin k ≡ true). other (of_one removed dot.origin k own b)) (after_prune state removed dot k c))
