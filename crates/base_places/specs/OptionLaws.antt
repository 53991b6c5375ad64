-- What there may be: what is read is spelled so, and what is spelled so is read again.
use Rattle.std.proofs.Common.{◌≡◌, ℕ, ◌≤◌, Bool, true, false, List, [], ◌∷◌, ◌++◌, length, Option, None, Some, Result, Ok, refl, ap, subst, arith}
use Rattle.std.specs.Prelude.{nat_le, ◌==◌, if◌then◌else◌}
use Rattle.std.proofs.lemmas.Bool.{eqb-true, eqb-false, leb-true}
use Rattle.base_bytes.specs.declared.fault.Fault.{Fault}
use Rattle.base_bytes.specs.Fields.{◌>>=◌, kept, byte_in}
use Rattle.base_bytes.specs.Spelling.{AreBytes, Takes}
use Rattle.base_bytes.specs.FieldLaws.{bind_ok, kept_ok, ok_is, takes_then, byte_takes}
use Rattle.base_places.specs.Spells.{Spells}
use Rattle.base_places.specs.Lists.{made_in}
use Rattle.base_places.specs.Options.{IsSoundOption, option_spelled, option_in}

module _ {X : Type 0} (One : X → Type 0) (one : X → List ℕ) (one_in : List ℕ → Result (X × List ℕ) Fault) (p : Spells One one one_in) where
  abbrev behind : ℕ × List ℕ → Result (Option X × List ℕ) Fault
  behind has = if has.0 == 0 then Ok (None, has.1) else made_in Some one_in has.1

  go_takes : (bytes : List ℕ) (has : ℕ × List ℕ) (x : Option X) (rest : List ℕ) → has.0 ≤ 1 → Takes bytes (has.0 ∷ []) has.1 → behind has ≡ Ok (x, rest) → Takes bytes (option_spelled one x) rest × IsSoundOption One x
  go_takes bytes has x rest small first e = go (has.0 == 0) refl e
    where
      go : (none : Bool) → (has.0 == 0) ≡ none → (if none then Ok (None, has.1) else made_in Some one_in has.1) ≡ Ok (x, rest) → Takes bytes (option_spelled one x) rest × IsSoundOption One x
      go true is e =
          let nothing : has.0 ≡ 0 = eqb-true has.0 0 is in
          subst (λ (y : Option X × List ℕ). Takes bytes (option_spelled one y.0) y.1 × IsSoundOption One y.0) {x = (None, has.1)} {y = (x, rest)} (ok_is (None, has.1) (x, rest) e)
          (subst (λ (k : ℕ). Takes bytes (k ∷ []) has.1) nothing first, tt)
      go false is e =
          let some = eqb-false has.0 0 is in
          let a = bind_ok (one_in has.1) (λ found. Ok (Some found.0, found.1)) (x, rest) e in
          let found : X × List ℕ = a.0 in
          let second = p.takes has.1 found.0 found.1 first.rest_are_bytes a.1 in
          let both = takes_then bytes (has.0 ∷ []) has.1 (one found.0) found.1 first second.0 in
          let k : has.0 ≡ 1 = omega (arith, some, small) in
          subst (λ (y : Option X × List ℕ). Takes bytes (option_spelled one y.0) y.1 × IsSoundOption One y.0) {x = (Some found.0, found.1)} {y = (x, rest)} (ok_is (Some found.0, found.1) (x, rest) a.2)
          (subst (λ (n : ℕ). Takes bytes (n ∷ one found.0) found.1) k both, second.1)

  option_takes : (bytes : List ℕ) (x : Option X) (rest : List ℕ) → AreBytes bytes → option_in one_in bytes ≡ Ok (x, rest) → Takes bytes (option_spelled one x) rest × IsSoundOption One x
  unfolding option_in
  option_takes bytes x rest fits e =
      let a = bind_ok (byte_in bytes) (λ has. kept (nat_le has.0 1) (length bytes) >>= λ _. behind has) (x, rest) e in
      let has : ℕ × List ℕ = a.0 in
      let k = kept_ok (nat_le has.0 1) (length bytes) (λ _. behind has) (x, rest) a.2 in
      let first = byte_takes bytes has.0 has.1 fits a.1 in
      go_takes bytes has x rest (leb-true _ _ k.0) first.0 k.1

  option_again : (x : Option X) (rest : List ℕ) → IsSoundOption One x → option_in one_in (option_spelled one x ++ rest) ≡ Ok (x, rest)
  unfolding option_in
  option_again None rest sound = refl
  option_again (Some x) rest sound = ap (λ (r : Result (X × List ℕ) Fault). r >>= λ found. Ok (Some found.0, found.1)) (p.again x rest sound)

  pub option_spells : Spells (IsSoundOption One) (option_spelled one) (option_in one_in)
  option_spells = record { takes = option_takes; again = option_again }
