-- A delta of a set in which an add wins, read at places: its dots that were added, and then those that were seen.
use Rattle.std.proofs.Common.{◌≡◌, ℕ, ◌-◌, List, length, drop, Result, Ok, refl, sym, ap, subst, ◌∙◌}
use Rattle.model_history.specs.Vector.{IdentitySet}
use Rattle.base_bytes.specs.declared.fault.Fault.{Fault}
use Rattle.base_bytes.specs.declared.fault.ReadError.{ReadError}
use Rattle.base_bytes.specs.Fields.{◌>>=◌}
use Rattle.base_bytes.specs.Spelling.{AreBytes}
use Rattle.base_vectors.specs.Spelling.{nobody}
use Rattle.data_orset.specs.declared.set.SetDelta.{SetDelta}
use Rattle.data_orset.specs.Dots.{Dots}
use Rattle.data_orset.specs.Elements.{set_spelled}
use Rattle.data_orset.specs.Reading.{set_in}
use Rattle.data_orset.specs.ElementLaws.{set_takes}
use Rattle.base_places.specs.Places.{FailsAt, fails_first, fails_behind, reads_behind, rest_from}
use Rattle.data_delta_codec.specs.Sets.{others, set_delta_in}

abbrev made : Dots × List ℕ → Dots × List ℕ → Result (SetDelta × List ℕ) Fault
made fresh seen = Ok (record { fresh = fresh.0; seen = seen.0 }, seen.1)

abbrev behind : Dots × List ℕ → Result (SetDelta × List ℕ) Fault
behind fresh = set_in nobody fresh.1 >>= λ seen. made fresh seen

module _ (from : List ℕ) (place origin : ℕ) (barred none : IdentitySet) (p : barred ≡ others origin) (q : none ≡ nobody) where
  pub fresh_fails : (e : ReadError) → FailsAt (length from) e (set_in barred (drop place from)) → FailsAt (length from) e (set_delta_in origin (drop place from))
  unfolding set_delta_in
  fresh_fails e h = fails_first (length from) e (set_in (others origin) (drop place from)) behind (subst (λ (b : IdentitySet). FailsAt (length from) e (set_in b (drop place from))) p h)

  module _ (fresh : Dots) (rest : List ℕ) (middle : ℕ) (fits : AreBytes (drop place from)) (read : set_in barred (drop place from) ≡ Ok (fresh, rest)) (at : middle ≡ length from - length rest) where
    front : set_in (others origin) (drop place from) ≡ Ok (fresh, rest)
    front = ap (λ (b : IdentitySet). set_in b (drop place from)) (sym p) ∙ read

    stands : drop middle from ≡ rest
    stands = let t = set_takes 4 barred (drop place from) fresh rest refl fits read in rest_from from place middle (set_spelled fresh) rest t.0 at

    same : set_in none (drop middle from) ≡ set_in nobody rest
    same = ap (λ (b : IdentitySet). set_in b (drop middle from)) q ∙ ap (set_in nobody) stands

    pub seen_fails : (e : ReadError) → FailsAt (length from) e (set_in none (drop middle from)) → FailsAt (length from) e (set_delta_in origin (drop place from))
    unfolding set_delta_in
    seen_fails e h =
        fails_behind (length from) e (set_in (others origin) (drop place from)) (fresh, rest) behind front
        (fails_first (length from) e (set_in nobody rest) (made (fresh, rest)) (subst (λ (r : Result (Dots × List ℕ) Fault). FailsAt (length from) e r) same h))

    pub both_read : (seen : Dots) (left : List ℕ) → set_in none (drop middle from) ≡ Ok (seen, left) → set_delta_in origin (drop place from) ≡ Ok (record { fresh = fresh; seen = seen }, left)
    unfolding set_delta_in
    both_read seen left h =
        reads_behind (set_in (others origin) (drop place from)) (fresh, rest) behind front
        ∙ reads_behind (set_in nobody rest) (seen, left) (made (fresh, rest)) (sym same ∙ h)
