-- Joins and deltas, as sets of dots: no history is known here.
use Rattle.std.proofs.Common.{◌≡◌, ◌⊎◌, ℕ, ◌<◌, Bool, true, false, not, ◌&&◌, ◌||◌, refl, ap, sym, ◌∙◌, ⊎_elim}
use Rattle.std.specs.FinSet as set
use Rattle.std.proofs.lemmas.Bool.{or_cases, or_left, or_right, and_parts, eq-eqb}
use Rattle.model_history.specs.Vector.{VersionVector, join}
use Rattle.base_vectors.specs.declared.id.Dot.{Dot}
use Rattle.model_kinds.specs.declared.operation.Op.{Op}
use Rattle.data_orset.specs.declared.set.SetDelta.{SetDelta}
use Rattle.data_orset.specs.Cases.{kept, remaining, which, upper_test, assoc_test, absorb_cases, combine_cases}
use Rattle.data_orset.specs.Dots.{Dots, contained, is_of, is_named, fresh_of, set_joined, set_absorbed, set_combined, set_applied, set_delta_of}
use Rattle.data_orset.specs.DotLaws.{same_dots, above, contained-join, contains-joined, contains-absorbed, contains-applied, contains-seen, contains-combined, contains-both_seen, fresh_key}
use Rattle.data_orset.specs.DataOf.{AreDotsWithin, IsOfOne, AreApartDots}

-- JOINS

pub join_comm : (a b : Dots) (v w : VersionVector) → set_joined a v b w ≡ set_joined b w a v
join_comm a b v w = same_dots _ _ (λ y. contains-joined a v b w y ∙ swapped (set.contains a y) (set.contains b y) (contained w y) (contained v y) ∙ sym (contains-joined b w a v y))
  where
    swapped : (x y s t : Bool) → kept x y s t ≡ kept y x t s
    swapped true true s t = refl
    swapped true false true t = refl
    swapped true false false t = refl
    swapped false true s true = refl
    swapped false true s false = refl
    swapped false false s t = refl

pub join_same : (a : Dots) (v : VersionVector) → set_joined a v a v ≡ a
join_same a v = same_dots _ _ (λ y. contains-joined a v a v y ∙ folded (set.contains a y) (contained v y))
  where
    folded : (x s : Bool) → kept x x s s ≡ x
    folded true s = refl
    folded false s = refl

pub join_assoc : (a b c : Dots) (u v w : VersionVector) → AreDotsWithin a u → AreDotsWithin b v → AreDotsWithin c w → set_joined (set_joined a u b v) (join u v) c w ≡ set_joined a u (set_joined b v c w) (join v w)
join_assoc a b c u v w p q r = same_dots _ _ (λ y.
    contains-joined (set_joined a u b v) (join u v) c w y
    ∙ assoc_test (set.contains a y) (set.contains b y) (set.contains c y) (contained u y) (contained v y) (contained w y) _ _ _ _
    (contains-joined a u b v y) (contains-joined b v c w y) (contained-join u v y) (contained-join v w y) (p.seen y) (q.seen y) (r.seen y)
    ∙ sym (contains-joined a u (set_joined b v c w) (join v w) y))

pub join_upper : (a b : Dots) (v w : VersionVector) → AreDotsWithin a v → set_joined a v (set_joined a v b w) (join v w) ≡ set_joined a v b w
join_upper a b v w p = same_dots _ _ (λ y.
    contains-joined a v (set_joined a v b w) (join v w) y
    ∙ upper_test (set.contains a y) (set.contains b y) (contained v y) (contained w y) _ _ (contains-joined a v b w y) (contained-join v w y) (p.seen y) ∙ sym (contains-joined a v b w y))

pub join_within : (a b : Dots) (v w : VersionVector) → AreDotsWithin a v → AreDotsWithin b w → AreDotsWithin (set_joined a v b w) (join v w)
join_within a b v w p q = record {
  seen = λ y c. contained-join v w y ∙ ⊎_elim
      (λ (both : (set.contains a y ≡ true) × (set.contains b y ≡ true)). or_left _ _ (p.seen y both.0))
      (λ (one : ((set.contains a y ≡ true) × (contained w y ≡ false)) ⊎ ((set.contains b y ≡ true) × (contained v y ≡ false))). ⊎_elim
      (λ (l : (set.contains a y ≡ true) × (contained w y ≡ false)). or_left _ _ (p.seen y l.0))
      (λ (r : (set.contains b y ≡ true) × (contained v y ≡ false)). or_right _ _ (q.seen y r.0)) one)
      (which _ _ _ _ (sym (contains-joined a v b w y) ∙ c));
}

-- DELTAS

pub absorb_applied : (state : Dots) (mine : VersionVector) (op : Op) (dot : Dot) → mine dot.origin < dot.seq → set_absorbed state mine (set_delta_of state op dot) ≡ set_applied state op dot
absorb_applied state mine op dot l = same_dots _ _ (λ y.
    contains-absorbed state mine (set_delta_of state op dot) y
    ∙ ap (λ z. remaining (set.contains state y) z (set.contains (fresh_of op dot) y) (contained mine y)) (contains-seen state op dot y)
    ∙ absorb_cases (set.contains state y) (is_named op y) (set.contains (fresh_of op dot) y) (contained mine y) (λ f. let k = fresh_key op dot y f in ap (contained mine) k.2 ∙ above mine k.0 dot.origin dot.seq l)
    ∙ sym (contains-applied state op dot y))

pub absorb_combined : (state : Dots) (mine : VersionVector) (first later : SetDelta) → AreApartDots first later → set_absorbed state mine (set_combined first later) ≡ set_absorbed (set_absorbed state mine first) mine later
absorb_combined state mine first later apart = same_dots _ _ (λ y.
    contains-absorbed state mine (set_combined first later) y
    ∙ ap (λ z. remaining (set.contains state y) z (set.contains (set_combined first later).fresh y) (contained mine y)) (contains-both_seen first later y)
    ∙ ap (λ z. remaining (set.contains state y) (set.contains first.seen y || set.contains later.seen y) z (contained mine y)) (contains-combined first later y)
    ∙ combine_cases (set.contains state y) (set.contains first.seen y) (set.contains first.fresh y) (set.contains later.seen y) (set.contains later.fresh y) (contained mine y) (apart y)
    ∙ sym (contains-absorbed (set_absorbed state mine first) mine later y
    ∙ ap (λ z. remaining z (set.contains later.seen y) (set.contains later.fresh y) (contained mine y)) (contains-absorbed state mine first y)))

pub delta_origin : (state : Dots) (op : Op) (dot : Dot) → IsOfOne (set_delta_of state op dot) dot.origin
delta_origin state op dot = λ k c. ap (is_of dot.origin) (fresh_key op dot k c).2 ∙ eq-eqb dot.origin dot.origin refl

pub combined_origin : (first later : SetDelta) (origin : ℕ) → IsOfOne first origin → IsOfOne later origin → IsOfOne (set_combined first later) origin
combined_origin first later origin p q = λ k c. ⊎_elim
    (λ (b : set.contains later.fresh k ≡ true). q k b)
    (λ (a : (set.contains first.fresh k && not (set.contains later.seen k)) ≡ true). p k (and_parts _ _ a).0)
    (or_cases _ _ (sym (contains-combined first later k) ∙ c))
