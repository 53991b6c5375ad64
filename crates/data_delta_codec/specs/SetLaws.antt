-- Deltas of sets in which an add wins: what is read is spelled so, and what is spelled so is read again.
use Rattle.std.proofs.Common.{◌≡◌, ℕ, ◌<◌, ◌≤◌, Bool, true, false, not, List, [], ◌∷◌, ◌++◌, nat_eq, Result, Ok, refl, sym, ap, subst, ◌∙◌, append_assoc, ⊎_elim, inl, inr}
use Rattle.std.specs.Prelude.{map, ◌==◌, nat_lt}
use Rattle.std.specs.List.{flat_map, list_any}
use Rattle.std.specs.Ordering.{nat_cmp, eq_by_cmp}
use Rattle.std.specs.Cmp.Lexicographic.{slice_cmp, nat_list_cmp_total}
use Rattle.std.specs.FinSet as set
use Rattle.std.specs.FinSet.{contains-from_list}
use Rattle.std.proofs.lemmas.Bool.{cases_Bool, cases_eq, cases_lt, or_cases, eqb-true, eq-eqb, lt-ltb, and_from, and_parts, not-true}
use mathlib.Core.Logic.{∥∥₁_elim}
use mathlib.Core.Bool.{Bool-set}
use Rattle.model_history.specs.Table.{identity_limit}
use Rattle.base_bytes.specs.declared.fault.Fault.{Fault}
use Rattle.base_bytes.specs.Fields.{◌>>=◌}
use Rattle.base_bytes.specs.Spelling.{AreBytes, Takes}
use Rattle.base_bytes.specs.FieldLaws.{bind_ok, ok_is, takes_then}
use Rattle.base_vectors.specs.Spelling.{nobody}
use Rattle.data_orset.specs.declared.set.SetDelta.{SetDelta}
use Rattle.data_orset.specs.Placing.{Placed, key_of}
use Rattle.data_orset.specs.Dots.{Dots, is_of, set_mentioned}
use Rattle.data_orset.specs.DataOf.{IsOfOne}
use Rattle.data_orset.specs.Elements.{IsSoundSet, set_spelled, placed_of}
use Rattle.data_orset.specs.Reading.{set_in}
use Rattle.data_orset.specs.DotLaws.{same_item, some_dot, dot_of_any}
use Rattle.data_orset.specs.ElementLaws.{set_few, set_takes, set_again}
use Rattle.data_delta_codec.specs.Sets.{others, set_delta_spelled, set_delta_in, IsSoundSetDelta}

both_ways : {A : Type 0} (b : Bool) → b ≡ true → b ≡ false → A
both_ways b p q = absurd (let impossible : true ≡ false = sym p ∙ q in cc)

-- a dot of elements is of an identity
named : (ps : List Placed) (k : List ℕ) → list_any (eq_by_cmp (slice_cmp nat_cmp) k) (map key_of ps) ≡ true → (i : ℕ) × (is_of i k ≡ true)
named [] k e = absurd (cc e)
named (p ∷ ps) k e = ⊎_elim
    (λ (a : eq_by_cmp (slice_cmp nat_cmp) k (key_of p) ≡ true). (p.origin, ap (is_of p.origin) (same_item k (key_of p) a) ∙ eq-eqb p.origin p.origin refl))
    (λ (b : list_any (eq_by_cmp (slice_cmp nat_cmp) k) (map key_of ps) ≡ true). named ps k b) (or_cases _ _ e)

not_equal : (i j : ℕ) → (i ≡ j → ⊥) → (i == j) ≡ false
not_equal i j differ = elim (cases_Bool (i == j)) [
  | inl e ↦ absurd (differ (eqb-true i j e))
  | inr e ↦ e
]

-- the dots are of the one identity that isn't barred
own_dots : (origin : ℕ) (x : Dots) → IsSoundSet x → ((i : ℕ) → others origin i ≡ true → set_mentioned x i ≡ false) → (k : List ℕ) → set.contains x k ≡ true → is_of origin k ≡ true
own_dots origin x is free k c =
    let ps : List Placed = flat_map placed_of is.elements in
    let listed : list_any (eq_by_cmp (slice_cmp nat_cmp) k) (map key_of ps) ≡ true = sym (contains-from_list nat_list_cmp_total (map key_of ps) k) ∙ ap (λ (s : Dots). set.contains s k) (sym is.same) ∙ c in
    let found = named ps k listed in
    let i : ℕ = found.0 in
    let seen : set_mentioned x i ≡ true = some_dot x (is_of i) k c found.1 in
    ⊎_elim (λ (same : i ≡ origin). subst (λ (j : ℕ). is_of j k ≡ true) same found.1)
    (λ (other : i ≡ origin → ⊥). ⊎_elim
    (λ (few : i < identity_limit). both_ways (set_mentioned x i) seen (free i (and_from _ _ (lt-ltb _ _ few) (ap not (not_equal i origin other)))))
    (λ (many : identity_limit ≤ i). both_ways (set_mentioned x i) seen (set_few x i is many)) (cases_lt i identity_limit)) (cases_eq i origin)

same_origin : (i j : ℕ) (k : List ℕ) → is_of i k ≡ true → is_of j k ≡ true → i ≡ j
same_origin i j [] p q = absurd (cc p)
same_origin i j (o ∷ []) p q = absurd (cc p)
same_origin i j (o ∷ s ∷ e) p q = sym (eqb-true o i p) ∙ eqb-true o j q

-- and so no other identity is mentioned
others_unmentioned : (origin : ℕ) (x : Dots) → ((k : List ℕ) → set.contains x k ≡ true → is_of origin k ≡ true) → (i : ℕ) → others origin i ≡ true → set_mentioned x i ≡ false
others_unmentioned origin x own i other = elim (cases_Bool (set_mentioned x i)) [
  | inl e ↦
      let f = dot_of_any x (is_of i) e in
      let same : i ≡ origin = same_origin i origin f.0 f.2 (own f.0 f.1) in
      let parts = and_parts (nat_lt i identity_limit) (not (i == origin)) other in
      both_ways (i == origin) (eq-eqb i origin same) (not-true (i == origin) parts.1)
  | inr e ↦ e
]

pub set_delta_takes : (kind origin : ℕ) (bytes : List ℕ) (x : SetDelta) (rest : List ℕ) → nat_eq kind 4 ≡ true → AreBytes bytes → set_delta_in origin bytes ≡ Ok (x, rest) → Takes bytes (set_delta_spelled x) rest × IsSoundSetDelta x × (4 ≡ kind) × IsOfOne x origin
unfolding set_delta_in
set_delta_takes kind origin bytes x rest known fits e =
    let a = bind_ok (set_in (others origin) bytes) (λ fresh. set_in nobody fresh.1 >>= λ seen. Ok (record { fresh = fresh.0; seen = seen.0 }, seen.1)) (x, rest) e in
    let f : Dots × List ℕ = a.0 in
    let b = bind_ok (set_in nobody f.1) (λ seen. Ok (record { fresh = f.0; seen = seen.0 }, seen.1)) (x, rest) a.2 in
    let s : Dots × List ℕ = b.0 in
    let first = set_takes 4 (others origin) bytes f.0 f.1 refl fits a.1 in
    let second = set_takes 4 nobody f.1 s.0 s.1 refl first.0.rest_are_bytes b.1 in
    let made : SetDelta × List ℕ = (record { fresh = f.0; seen = s.0 }, s.1) in
    subst (λ (y : SetDelta × List ℕ). Takes bytes (set_delta_spelled y.0) y.1 × IsSoundSetDelta y.0 × (4 ≡ kind) × IsOfOne y.0 origin) {x = made} {y = (x, rest)} (ok_is made (x, rest) b.2) (
      takes_then bytes (set_spelled f.0) f.1 (set_spelled s.0) s.1 first.0 second.0,
      record { fresh = first.1; seen = second.1 },
      sym (eqb-true kind 4 known),
      own_dots origin f.0 first.1 first.3,
    )

pub set_delta_again : (x : SetDelta) (origin : ℕ) (rest : List ℕ) → IsSoundSetDelta x → ∥ IsOfOne x origin ∥₁ → set_delta_in origin (set_delta_spelled x ++ rest) ≡ Ok (x, rest)
unfolding set_delta_in
set_delta_again x origin rest is of_one =
    let free : (i : ℕ) → others origin i ≡ true → set_mentioned x.fresh i ≡ false = λ i other. ∥∥₁_elim of_one (Bool-set _ _) (λ own. others_unmentioned origin x.fresh own i other) in
    let all_free : (i : ℕ) → nobody i ≡ true → set_mentioned x.seen i ≡ false = λ i no. absurd (cc no) in
    ap (λ (t : List ℕ). set_in (others origin) t >>= λ fresh. set_in nobody fresh.1 >>= λ seen. Ok (record { fresh = fresh.0; seen = seen.0 }, seen.1)) (append_assoc (set_spelled x.fresh) (set_spelled x.seen) rest)
    ∙ ap (λ (r : Result (Dots × List ℕ) Fault). r >>= λ fresh. set_in nobody fresh.1 >>= λ seen. Ok (record { fresh = fresh.0; seen = seen.0 }, seen.1)) (set_again x.fresh (others origin) (set_spelled x.seen ++ rest) is.fresh free)
    ∙ ap (λ (r : Result (Dots × List ℕ) Fault). r >>= λ seen. Ok (record { fresh = x.fresh; seen = seen.0 }, seen.1)) (set_again x.seen nobody rest is.seen all_free)
