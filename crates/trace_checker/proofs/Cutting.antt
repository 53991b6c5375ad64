-- What a vector cuts off the records made: a part of them, with as many as it counts.
use Rattle.std.proofs.Common.{◌≡◌, ℕ, zero, suc, ◌≤◌, min, List, [], ◌∷◌, length, take, refl, ap, arith, true, inl, inr}
use Rattle.std.proofs.lemmas.Bool.{cases_lt}
use Rattle.model_history.specs.Table.{identity_limit}
use Rattle.model_history.specs.Vector.{VersionVector}
use Rattle.model_history.specs.History.{History, at, versions, cut, IsPartOf}
use Rattle.model_history.proofs.PastLaws.{at-cut}
use Rattle.model_kinds.specs.declared.operation.Op.{Op}
use Rattle.model_traces.specs.Traces.{covers}
use Rattle.model_traces.proofs.Tests.{covers_tells}

take_length : {X : Type 0} (n : ℕ) (xs : List X) → take n xs ≡ take (length (take n xs)) xs
take_length zero [] = refl
take_length zero (x ∷ xs) = refl
take_length (suc n) [] = refl
take_length (suc n) (x ∷ xs) = ap (λ ys. x ∷ ys) (take_length n xs)

pub cut_part : (made : History Op) (known : VersionVector) → IsPartOf (cut made known) made
cut_part made known i = take_length (known i) (made i)

enough : (k m n : ℕ) → n ≡ min k m → k ≤ m → n ≡ k
enough k m n e h = omega (arith, e, h)

nothing : (k m n : ℕ) → n ≡ min k m → k ≡ 0 → n ≡ k
nothing k m n e h = omega (arith, e, h)

-- how much it has, where the vector counts no more than was made
pub cut_counts : (made : History Op) (known : VersionVector) → ((l : ℕ) → identity_limit ≤ l → known l ≡ 0) → covers (versions made) known ≡ true → versions (cut made known) ≡ known
cut_counts made known beyond few = λ k l. each l k
  where
    each : (l : ℕ) → at (cut made known) l ≡ known l
    each l = elim (cases_lt l identity_limit) [
      | inl near ↦ enough (known l) (at made l) (at (cut made known) l) (at-cut made known l) (covers_tells (versions made) known few l near)
      | inr far ↦ nothing (known l) (at made l) (at (cut made known) l) (at-cut made known l) (beyond l far)
    ]
