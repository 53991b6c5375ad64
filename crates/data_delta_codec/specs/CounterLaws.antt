-- Deltas of counters that are read are spelled so, and what is spelled so is read again.
use Rattle.std.proofs.Common.{◌≡◌, ℕ, ◌≤◌, true, List, ◌++◌, length, Result, Ok, refl, sym, ap, subst, ◌∙◌, append_assoc, arith}
use Rattle.std.specs.Prelude.{nat_le, ◌==◌}
use Rattle.std.proofs.lemmas.Bool.{eqb-true, leb-true, le-leb}
use native.Mathlib.Nat.{ℕ_set}
use mathlib.Core.Logic.{∥∥₁_elim}
use Rattle.model_meanings.specs.Refusal.{greatest_share}
use Rattle.base_bytes.specs.declared.fault.Fault.{Fault}
use Rattle.base_bytes.specs.Fields.{◌>>=◌, kept, number_in}
use Rattle.base_bytes.specs.Spelling.{number_spelled, AreBytes, Takes}
use Rattle.base_bytes.specs.FieldLaws.{bind_ok, kept_ok, kept_on, ok_is, takes_then, number_takes, number_again}
use Rattle.data_counters.specs.declared.counter.Share.{Share}
use Rattle.data_counters.specs.declared.counter.PnShare.{PnShare}
use Rattle.data_counters.specs.Spelled.{growing_byte, signed_byte}
use Rattle.data_delta_codec.specs.Counters.{amount_in, share_in, shares_in, share_spelled, shares_spelled, IsSoundShare, AreSoundShares}

amount_takes : (bytes : List ℕ) (x : ℕ × List ℕ) → AreBytes bytes → amount_in bytes ≡ Ok x → Takes bytes (number_spelled x.0) x.1 × (x.0 ≤ greatest_share)
unfolding amount_in
amount_takes bytes x fits e =
    let a = bind_ok (number_in bytes) (λ n. kept (nat_le n.0 greatest_share) (length bytes) >>= λ _. Ok n) x e in
    let n : ℕ × List ℕ = a.0 in
    let rule = kept_ok (nat_le n.0 greatest_share) (length bytes) (λ _. Ok n) x a.2 in
    let taken = number_takes bytes n.0 n.1 fits a.1 in
    subst (λ (y : ℕ × List ℕ). Takes bytes (number_spelled y.0) y.1 × (y.0 ≤ greatest_share)) (ok_is n x rule.1) (taken.0, leb-true _ _ rule.0)

amount_again : (n : ℕ) (rest : List ℕ) → n ≤ greatest_share → amount_in (number_spelled n ++ rest) ≡ Ok (n, rest)
unfolding amount_in
amount_again n rest within =
    ap (λ (r : Result (ℕ × List ℕ) Fault). r >>= λ x. kept (nat_le x.0 greatest_share) (length (number_spelled n ++ rest)) >>= λ _. Ok x) (number_again n rest (omega arith))
    ∙ kept_on (nat_le n greatest_share) (length (number_spelled n ++ rest)) (λ _. Ok (n, rest)) (le-leb _ _ within)

-- GROWING

pub growing_takes : (kind origin : ℕ) (bytes : List ℕ) (x : Share) (rest : List ℕ) → (kind == growing_byte) ≡ true → AreBytes bytes → share_in origin bytes ≡ Ok (x, rest)
    → Takes bytes (share_spelled x) rest × IsSoundShare x × (growing_byte ≡ kind) × (x.origin ≡ origin)
unfolding share_in
growing_takes kind origin bytes x rest known fits e =
    let a = bind_ok (amount_in bytes) (λ n. Ok (record { origin = origin; share = n.0 }, n.1)) (x, rest) e in
    let n : ℕ × List ℕ = a.0 in
    let taken = amount_takes bytes n fits a.1 in
    let made : Share × List ℕ = (record { origin = origin; share = n.0 }, n.1) in
    subst (λ (y : Share × List ℕ). Takes bytes (share_spelled y.0) y.1 × IsSoundShare y.0 × (growing_byte ≡ kind) × (y.0.origin ≡ origin)) {x = made} {y = (x, rest)} (ok_is made (x, rest) a.2)
    (taken.0, taken.1, sym (eqb-true kind growing_byte known), refl)

pub growing_again : (x : Share) (origin : ℕ) (rest : List ℕ) → IsSoundShare x → ∥ x.origin ≡ origin ∥₁ → share_in origin (share_spelled x ++ rest) ≡ Ok (x, rest)
unfolding share_in
growing_again x origin rest sound same =
    ap (λ (r : Result (ℕ × List ℕ) Fault). r >>= λ n. Ok (record { origin = origin; share = n.0 }, n.1)) (amount_again x.share rest sound)
    ∙ ap (λ (i : ℕ). Ok (record { origin = i; share = x.share }, rest)) (sym (∥∥₁_elim same (ℕ_set _ _) (λ is. is)))

-- BOTH WAYS

pub signed_takes : (kind origin : ℕ) (bytes : List ℕ) (x : PnShare) (rest : List ℕ) → (kind == signed_byte) ≡ true → AreBytes bytes → shares_in origin bytes ≡ Ok (x, rest)
    → Takes bytes (shares_spelled x) rest × AreSoundShares x × (signed_byte ≡ kind) × (x.origin ≡ origin)
unfolding shares_in
signed_takes kind origin bytes x rest known fits e =
    let a = bind_ok (amount_in bytes) (λ plus. amount_in plus.1 >>= λ minus. Ok (record { origin = origin; plus = plus.0; minus = minus.0 }, minus.1)) (x, rest) e in
    let p : ℕ × List ℕ = a.0 in
    let b = bind_ok (amount_in p.1) (λ minus. Ok (record { origin = origin; plus = p.0; minus = minus.0 }, minus.1)) (x, rest) a.2 in
    let m : ℕ × List ℕ = b.0 in
    let first = amount_takes bytes p fits a.1 in
    let second = amount_takes p.1 m first.0.rest_are_bytes b.1 in
    let made : PnShare × List ℕ = (record { origin = origin; plus = p.0; minus = m.0 }, m.1) in
    subst (λ (y : PnShare × List ℕ). Takes bytes (shares_spelled y.0) y.1 × AreSoundShares y.0 × (signed_byte ≡ kind) × (y.0.origin ≡ origin)) {x = made} {y = (x, rest)} (ok_is made (x, rest) b.2)
    (takes_then bytes (number_spelled p.0) p.1 (number_spelled m.0) m.1 first.0 second.0, record { plus = first.1; minus = second.1 }, sym (eqb-true kind signed_byte known), refl)

pub signed_again : (x : PnShare) (origin : ℕ) (rest : List ℕ) → AreSoundShares x → ∥ x.origin ≡ origin ∥₁ → shares_in origin (shares_spelled x ++ rest) ≡ Ok (x, rest)
unfolding shares_in
signed_again x origin rest sound same =
    ap (shares_in origin) (append_assoc (number_spelled x.plus) (number_spelled x.minus) rest)
    ∙ ap (λ (r : Result (ℕ × List ℕ) Fault). r >>= λ plus. amount_in plus.1 >>= λ minus. Ok (record { origin = origin; plus = plus.0; minus = minus.0 }, minus.1)) (amount_again x.plus (number_spelled x.minus ++ rest) sound.plus)
    ∙ ap (λ (r : Result (ℕ × List ℕ) Fault). r >>= λ minus. Ok (record { origin = origin; plus = x.plus; minus = minus.0 }, minus.1)) (amount_again x.minus rest sound.minus)
    ∙ ap (λ (i : ℕ). Ok (record { origin = i; plus = x.plus; minus = x.minus }, rest)) (sym (∥∥₁_elim same (ℕ_set _ _) (λ is. is)))
