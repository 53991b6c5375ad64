-- A vector that is written by pairs is read again.
use Rattle.std.proofs.Common.{◌≡◌, ℕ, zero, suc, ◌+◌, ◌^◌, ◌<◌, ◌≤◌, max, true, nat_le, List, [], ◌∷◌, map, Option, Some, refl, sym, ap, subst, ◌∙◌, arith, le-leb, inl, inr, ◌⊎◌}
use Rattle.std.proofs.lemmas.Bool.{cases_eq}
use Rattle.std.specs.FinMap as map
use Rattle.std.specs.List.{filter_map, range_with_len, cons_option}
use Rattle.model_history.specs.Table.{identity_limit}
use Rattle.serde_json.specs.View.{items_of}
use Rattle.base_vectors.specs.Vectors.{Numbers, IsNormal, number_at, raised}
use Rattle.base_vectors.specs.Spelling.{pair_unless_zero, pair_at, pairs_of}
use Rattle.base_vectors.proofs.Laws.{IsNormal-numbers_of, empty-numbers_of, number_at-empty, number_at_above, same_numbers, number_at-raised_same, number_at-raised_other}
use Rattle.base_vectors.proofs.Readings.{pair_some, pairs_end}
use Rattle.script_generated.specs.Texts.{whole}
use Rattle.script_generated.proofs.Written.{Each, IsWritten, whole_written, list_written}
use Rattle.trace_text.specs.Fields.{◌>>=◌}
use Rattle.trace_text.specs.Acts.{pair_of, known_after}
use Rattle.trace_text.specs.Texts.{pair_data}

pair_again : (least i n : ℕ) → least ≤ i → i ≤ 254 → 1 ≤ n → n ≤ 2 ^ 62 → pair_of least (pair_data (i, n)) ≡ Some (i, n)
unfolding pair_of
pair_again least i n low high some few =
    let a : nat_le least i ≡ true = le-leb least i low in
    let b : nat_le i 254 ≡ true = le-leb i 254 high in
    let c : nat_le 1 n ≡ true = le-leb 1 n some in
    let d : nat_le n (2 ^ 62) ≡ true = le-leb n (2 ^ 62) few in
    simp (a, b, c, d)

-- what was read so far is the vector below an identity, and nothing from there on
record IsBegun (before known : Numbers) (first : ℕ) : Type 0 where
  pub normal : IsNormal before
  pub below : (i : ℕ) → i < first → i < identity_limit → number_at before i ≡ number_at known i
  pub above : (i : ℕ) → first ≤ i → i < identity_limit → number_at before i ≡ 0

begun_skip : (before known : Numbers) (first : ℕ) → number_at known first ≡ 0 → IsBegun before known first → IsBegun before known (first + 1)
begun_skip before known first none begun = record {
  normal = begun.normal;
  below = λ i lt within. elim (cases_eq i first) [
    | inl e ↦ begun.above i (omega arith) within ∙ sym none ∙ ap (number_at known) (sym e)
    | inr ne ↦ begun.below i (omega arith) within
  ];
  above = λ i le within. begun.above i (omega arith) within;
}

begun_raise : (before known : Numbers) (first k : ℕ) → first < identity_limit → number_at known first ≡ k → IsBegun before known first → IsBegun (raised before first k) known (first + 1)
begun_raise before known first k few here begun = record {
  normal = IsNormal-numbers_of _;
  below = λ i lt within. elim (cases_eq i first) [
    | inl e ↦
        let none : number_at before first ≡ 0 = begun.above first (omega arith) few in
        let most : max (number_at before first) k ≡ k = omega arith in
        number_at-raised_same before first k i within e ∙ most ∙ sym here ∙ ap (number_at known) (sym e)
    | inr ne ↦ number_at-raised_other before first k i within ne ∙ begun.below i (omega arith) within
  ];
  above = λ i le within. number_at-raised_other before first k i within (λ e. omega arith) ∙ begun.above i (omega arith) within;
}

none_or_some : (k : ℕ) → (k ≡ 0) ⊎ (1 ≤ k)
none_or_some zero = inl refl
none_or_some (suc k) = inr (omega arith)

module _ (known : Numbers) (normal : IsNormal known) (few : (i : ℕ) → number_at known i ≤ 2 ^ 62) where
  abbrev rest_from : ℕ → ℕ → List (ℕ × ℕ)
  rest_from first n = filter_map (pair_at (number_at known)) (range_with_len first n)

  known_from : (n first least : ℕ) (before : Numbers) → first + n ≡ identity_limit → least ≤ first → IsBegun before known first
      → known_after least before (items_of (map pair_data (rest_from first n))) ≡ Some known
  unfolding known_after
  known_from zero first least before len low begun = ap Some (same_numbers before known begun.normal normal (λ i within. begun.below i (omega arith) within))
  known_from (suc n) first least before len low begun =
      let k : ℕ = number_at known first in
      let most : k ≤ 2 ^ 62 = few first in
      elim (none_or_some k) [
        | inl none ↦
            ap (λ j. known_after least before (items_of (map pair_data (cons_option (pair_unless_zero first j) (rest_from (first + 1) n))))) none
            ∙ known_from n (first + 1) least before (omega arith) (omega arith) (begun_skip before known first none begun)
        | inr some ↦
            ap (λ o. known_after least before (items_of (map pair_data (cons_option o (rest_from (first + 1) n))))) (pair_some first k some)
            ∙ ap (λ (o : Option (ℕ × ℕ)). o >>= λ pair. known_after (pair.0 + 1) (raised before pair.0 pair.1) (items_of (map pair_data (rest_from (first + 1) n)))) (pair_again least first k low (omega arith) some most)
            ∙ known_from n (first + 1) (first + 1) (raised before first k) (omega arith) (omega arith) (begun_raise before known first k (omega arith) refl begun)
      ]

  none_begun : IsBegun map.empty known 0
  none_begun = record { normal = empty-numbers_of _ number_at-empty; below = λ i lt within. absurd (omega arith); above = λ i le within. number_at-empty i }

  known_all : (n : ℕ) → n ≡ identity_limit → known_after 0 map.empty (items_of (map pair_data (pairs_of (number_at known)))) ≡ Some known
  known_all n e =
      let limit : n ≤ identity_limit = omega arith in
      ap (λ pairs. known_after 0 map.empty (items_of (map pair_data pairs))) (sym (pairs_end (number_at known) n limit (λ i le. number_at_above known normal i (omega arith))))
      ∙ known_from n 0 0 map.empty (omega arith) (omega arith) none_begun

  pub known_again : known_after 0 map.empty (items_of (map pair_data (pairs_of (number_at known)))) ≡ Some known
  known_again = known_all identity_limit refl

  -- ---- what is written

  written_from : (n first : ℕ) → first + n ≤ identity_limit → Each (IsWritten 1) (map pair_data (rest_from first n))
  written_from zero first len = tt
  written_from (suc n) first len =
      let k : ℕ = number_at known first in
      let most : k ≤ 2 ^ 62 = few first in
      let later = written_from n (first + 1) (omega arith) in
      elim (none_or_some k) [
        | inl none ↦ subst (λ j. Each (IsWritten 1) (map pair_data (cons_option (pair_unless_zero first j) (rest_from (first + 1) n)))) (sym none) later
        | inr some ↦
            subst (λ o. Each (IsWritten 1) (map pair_data (cons_option o (rest_from (first + 1) n)))) (sym (pair_some first k some))
            (list_written 0 (whole first ∷ whole k ∷ []) (whole_written 0 first (omega arith), (whole_written 0 k (omega arith), tt)), later)
      ]

  written_all : (n : ℕ) → n ≡ identity_limit → Each (IsWritten 1) (map pair_data (pairs_of (number_at known)))
  written_all n e =
      let limit : n ≤ identity_limit = omega arith in
      subst (λ pairs. Each (IsWritten 1) (map pair_data pairs)) (pairs_end (number_at known) n limit (λ i le. number_at_above known normal i (omega arith)))
      (written_from n 0 (omega arith))

  pub pairs_written : Each (IsWritten 1) (map pair_data (pairs_of (number_at known)))
  pairs_written = written_all identity_limit refl
