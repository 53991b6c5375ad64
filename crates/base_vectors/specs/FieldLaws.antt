-- An identity or a number that is read is the one that was spelled, and what was spelled is read again.
use Rattle.std.proofs.Common.{◌≡◌, ℕ, ◌^◌, ◌<◌, ◌≤◌, Bool, false, List, [], ◌∷◌, ◌++◌, length, Result, Ok, ap, subst, ◌∙◌, arith}
use Rattle.std.specs.Prelude.{◌&&◌, not, nat_le, nat_lt}
use Rattle.std.proofs.lemmas.Bool.{leb-true, le-leb, ltb-true, lt-ltb, not-true, and_parts, and_from}
use Rattle.model_history.specs.Table.{identity_limit}
use Rattle.model_history.specs.Vector.{IdentitySet}
use Rattle.base_bytes.specs.declared.fault.Fault.{Fault}
use Rattle.base_bytes.specs.Fields.{◌>>=◌, kept, byte_in, number_in}
use Rattle.base_bytes.specs.Spelling.{number_spelled, AreBytes, Takes}
use Rattle.base_bytes.specs.FieldLaws.{bind_ok, kept_ok, kept_on, ok_is, byte_takes, number_takes, number_again}
use Rattle.base_vectors.specs.Fields.{identity_in, positive_in}

-- an identity from a least one on that isn't barred
pub record IsAllowed (least : ℕ) (barred : IdentitySet) (i : ℕ) : Type 0 where
  pub from : least ≤ i
  pub small : i < identity_limit
  pub free : barred i ≡ false

abbrev allowed : ℕ → IdentitySet → ℕ → Bool
allowed least barred i = nat_le least i && nat_lt i identity_limit && not (barred i)

pub identity_takes : (least : ℕ) (barred : IdentitySet) (bytes : List ℕ) (i : ℕ) (rest : List ℕ) → AreBytes bytes → identity_in least barred bytes ≡ Ok (i, rest) → Takes bytes (i ∷ []) rest × IsAllowed least barred i
unfolding identity_in
identity_takes least barred bytes i rest fits e =
    let b = bind_ok (byte_in bytes) (λ x. kept (allowed least barred x.0) (length bytes) >>= λ _. Ok x) (i, rest) e in
    let x : ℕ × List ℕ = b.0 in
    let rule = kept_ok (allowed least barred x.0) (length bytes) (λ _. Ok x) (i, rest) b.2 in
    let front = and_parts (nat_le least x.0 && nat_lt x.0 identity_limit) (not (barred x.0)) rule.0 in
    let range = and_parts (nat_le least x.0) (nat_lt x.0 identity_limit) front.0 in
    let taken = byte_takes bytes x.0 x.1 fits b.1 in
    subst (λ (y : ℕ × List ℕ). Takes bytes (y.0 ∷ []) y.1 × IsAllowed least barred y.0) (ok_is x (i, rest) rule.1)
    (taken.0, record { from = leb-true _ _ range.0; small = ltb-true _ _ range.1; free = not-true _ front.1 })

pub identity_again : (least : ℕ) (barred : IdentitySet) (i : ℕ) (rest : List ℕ) → IsAllowed least barred i → identity_in least barred ((i ∷ []) ++ rest) ≡ Ok (i, rest)
unfolding identity_in
identity_again least barred i rest is =
    kept_on (allowed least barred i) (length (i ∷ rest)) (λ _. Ok (i, rest))
    (and_from _ _ (and_from _ _ (le-leb _ _ is.from) (lt-ltb _ _ is.small)) (ap not is.free))

-- a number from 1 to a greatest one
pub record IsPositive (most n : ℕ) : Type 0 where
  pub some : 1 ≤ n
  pub small : n ≤ most

abbrev positive : ℕ → ℕ → Bool
positive most n = nat_le 1 n && nat_le n most

pub positive_takes : (most : ℕ) (bytes : List ℕ) (n : ℕ) (rest : List ℕ) → AreBytes bytes → positive_in most bytes ≡ Ok (n, rest) → Takes bytes (number_spelled n) rest × IsPositive most n
unfolding positive_in
positive_takes most bytes n rest fits e =
    let b = bind_ok (number_in bytes) (λ x. kept (positive most x.0) (length bytes) >>= λ _. Ok x) (n, rest) e in
    let x : ℕ × List ℕ = b.0 in
    let rule = kept_ok (positive most x.0) (length bytes) (λ _. Ok x) (n, rest) b.2 in
    let range = and_parts (nat_le 1 x.0) (nat_le x.0 most) rule.0 in
    let taken = number_takes bytes x.0 x.1 fits b.1 in
    subst (λ (y : ℕ × List ℕ). Takes bytes (number_spelled y.0) y.1 × IsPositive most y.0) (ok_is x (n, rest) rule.1)
    (taken.0, record { some = leb-true _ _ range.0; small = leb-true _ _ range.1 })

pub positive_again : (most n : ℕ) (rest : List ℕ) → most < 2 ^ 64 → IsPositive most n → positive_in most (number_spelled n ++ rest) ≡ Ok (n, rest)
unfolding positive_in
positive_again most n rest limit is =
    let small = is.small in
    ap (λ (r : Result (ℕ × List ℕ) Fault). r >>= λ x. kept (positive most x.0) (length (number_spelled n ++ rest)) >>= λ _. Ok x) (number_again n rest (omega arith))
    ∙ kept_on (positive most n) (length (number_spelled n ++ rest)) (λ _. Ok (n, rest)) (and_from _ _ (le-leb _ _ is.some) (le-leb _ _ is.small))
