-- What all of some bytes spell: nothing follows.
use Rattle.std.proofs.Common.{◌≡◌, ℕ, List, [], ◌++◌, length, Result, Ok, sym, ap, subst, ◌∙◌}
use Rattle.std.specs.Prelude.{◌==◌}
use Rattle.std.proofs.lemmas.Bool.{eqb-true}
use Rattle.std.proofs.lemmas.List.{append-nil, nil_from_length}
use Rattle.base_bytes.specs.declared.fault.Fault.{Fault}
use Rattle.base_bytes.specs.Fields.{◌>>=◌, kept}
use Rattle.base_bytes.specs.Spelling.{AreBytes}
use Rattle.base_bytes.specs.FieldLaws.{bind_ok, kept_ok, ok_is}
use Rattle.base_places.specs.Spells.{Spells}

unfoldable pub whole_of : {X : Type 0} → (List ℕ → Result (X × List ℕ) Fault) → List ℕ → Result X Fault
whole_of x_in bytes = do
  found ← x_in bytes
  _ ← kept (length found.1 == 0) (length found.1)
  Ok found.0

module _ {X : Type 0} (IsSound : X → Type 0) (spelled : X → List ℕ) (x_in : List ℕ → Result (X × List ℕ) Fault) (p : Spells IsSound spelled x_in) where
  pub whole_takes : (bytes : List ℕ) (x : X) → AreBytes bytes → whole_of x_in bytes ≡ Ok x → IsSound x × (bytes ≡ spelled x)
  unfolding whole_of
  whole_takes bytes x fits e =
      let a = bind_ok (x_in bytes) (λ found. kept (length found.1 == 0) (length found.1) >>= λ _. Ok found.0) x e in
      let found : X × List ℕ = a.0 in
      let k = kept_ok (length found.1 == 0) (length found.1) (λ _. Ok found.0) x a.2 in
      let t = p.takes bytes found.0 found.1 fits a.1 in
      let nothing : found.1 ≡ [] = nil_from_length found.1 (eqb-true _ _ k.0) in
      let whole : bytes ≡ spelled found.0 = t.0.parts ∙ ap (λ (s : List ℕ). spelled found.0 ++ s) nothing ∙ append-nil (spelled found.0) in
      subst (λ (y : X). IsSound y × (bytes ≡ spelled y)) (ok_is found.0 x k.1) (t.1, whole)

  pub whole_again : (x : X) → IsSound x → whole_of x_in (spelled x) ≡ Ok x
  unfolding whole_of
  whole_again x is =
      ap (λ (t : List ℕ). x_in t >>= λ found. kept (length found.1 == 0) (length found.1) >>= λ _. Ok found.0) (sym (append-nil (spelled x)))
      ∙ ap (λ (r : Result (X × List ℕ) Fault). r >>= λ found. kept (length found.1 == 0) (length found.1) >>= λ _. Ok found.0) (p.again x [] is)

  -- no spelling is a proper prefix of another
  pub one_spelling_is : (a b : X) (x y : List ℕ) → IsSound a → IsSound b → spelled a ++ x ≡ spelled b ++ y → (a ≡ b) × (x ≡ y)
  one_spelling_is a b x y sound also e =
      let same = ok_is (a, x) (b, y) (sym (p.again a x sound) ∙ ap x_in e ∙ p.again b y also) in
      (ap (λ (z : X × List ℕ). z.0) same, ap (λ (z : X × List ℕ). z.1) same)
