-- Deltas of values that only grow: what is read is spelled so, and what is spelled so is read again.
use Rattle.std.proofs.Common.{◌≡◌, ℕ, ◌<◌, ◌^◌, true, List, [], ◌++◌, None, Result, Ok, refl, sym, ap, subst, ◌∙◌, append_assoc, arith}
use Rattle.std.specs.Prelude.{◌==◌}
use Rattle.std.proofs.lemmas.Bool.{eqb-true}
use native.Mathlib.Nat.{ℕ_set}
use mathlib.Core.Logic.{∥∥₁_elim}
use Rattle.model_history.specs.Texts.{Text}
use Rattle.model_meanings.specs.Refusal.{greatest_share}
use Rattle.base_bytes.specs.declared.fault.Fault.{Fault}
use Rattle.base_bytes.specs.Fields.{◌>>=◌, text_in}
use Rattle.base_bytes.specs.Spelling.{number_spelled, text_spelled, AreBytes, Takes}
use Rattle.base_bytes.specs.FieldLaws.{bind_ok, ok_is, takes_nothing, takes_then, text_takes, text_again}
use Rattle.base_vectors.specs.Fields.{positive_in}
use Rattle.base_vectors.specs.FieldLaws.{positive_takes, positive_again}
use Rattle.data_growing.specs.declared.flag.SwitchedOn.{SwitchedOn}
use Rattle.data_growing.specs.declared.register.Written.{Written}
use Rattle.data_growing.specs.Spelling.{set_spelled, IsSoundSet}
use Rattle.data_growing.specs.Reading.{set_in}
use Rattle.data_growing.specs.SpellingLaws.{set_takes, set_again}
use Rattle.data_delta_codec.specs.Growing.{nothing_spelled, switched_in, stamp_and_text, write_in, IsSoundStamp}

-- SETS

pub elements_take : (kind origin : ℕ) (bytes : List ℕ) (x : List Text) (rest : List ℕ) → (kind == 3) ≡ true → AreBytes bytes → set_in bytes ≡ Ok (x, rest) → Takes bytes (set_spelled x) rest × IsSoundSet x × (3 ≡ kind) × Unit {0}
elements_take kind origin bytes x rest known fits e =
    let t = set_takes bytes x rest fits e in
    (t.0, t.1, sym (eqb-true kind 3 known), tt)

pub elements_again : (x : List Text) (origin : ℕ) (rest : List ℕ) → IsSoundSet x → ∥ Unit {0} ∥₁ → set_in (set_spelled x ++ rest) ≡ Ok (x, rest)
elements_again x origin rest sound _ = set_again x rest sound

-- FLAGS

pub nothing_takes : (kind origin : ℕ) (bytes : List ℕ) (x : SwitchedOn) (rest : List ℕ) → (kind == 5) ≡ true → AreBytes bytes → switched_in bytes ≡ Ok (x, rest) → Takes bytes (nothing_spelled x) rest × Unit {0} × (5 ≡ kind) × Unit {0}
nothing_takes kind origin bytes x rest known fits e =
    (subst (λ (y : SwitchedOn × List ℕ). Takes bytes [] y.1) (ok_is (record {}, bytes) (x, rest) e) (takes_nothing bytes fits), tt, sym (eqb-true kind 5 known), tt)

-- REGISTERS

pub write_takes : (kind origin : ℕ) (bytes : List ℕ) (x : Written) (rest : List ℕ) → (kind == 6) ≡ true → AreBytes bytes → write_in origin bytes ≡ Ok (x, rest) → Takes bytes (stamp_and_text x) rest × IsSoundStamp x × (6 ≡ kind) × (x.writer ≡ origin)
unfolding write_in
write_takes kind origin bytes x rest known fits e =
    let a = bind_ok (positive_in greatest_share bytes) (λ timestamp. text_in None timestamp.1 >>= λ text. Ok (record { text = text.0; timestamp = timestamp.0; writer = origin }, text.1)) (x, rest) e in
    let n : ℕ × List ℕ = a.0 in
    let b = bind_ok (text_in None n.1) (λ text. Ok (record { text = text.0; timestamp = n.0; writer = origin }, text.1)) (x, rest) a.2 in
    let t : Text × List ℕ = b.0 in
    let first = positive_takes greatest_share bytes n.0 n.1 fits a.1 in
    let second = text_takes None n.1 t.0 t.1 first.0.rest_are_bytes b.1 in
    let made : Written × List ℕ = (record { text = t.0; timestamp = n.0; writer = origin }, t.1) in
    subst (λ (y : Written × List ℕ). Takes bytes (stamp_and_text y.0) y.1 × IsSoundStamp y.0 × (6 ≡ kind) × (y.0.writer ≡ origin)) {x = made} {y = (x, rest)} (ok_is made (x, rest) b.2)
    (takes_then bytes (number_spelled n.0) n.1 (text_spelled t.0) t.1 first.0 second.0, record { above = first.1.some; within = first.1.small; text_is = second.1 }, sym (eqb-true kind 6 known), refl)

pub write_again : (x : Written) (origin : ℕ) (rest : List ℕ) → IsSoundStamp x → ∥ x.writer ≡ origin ∥₁ → write_in origin (stamp_and_text x ++ rest) ≡ Ok (x, rest)
unfolding write_in
write_again x origin rest sound same =
    let limit : greatest_share < 2 ^ 64 = omega arith in
    ap (λ (t : List ℕ). positive_in greatest_share t >>= λ timestamp. text_in None timestamp.1 >>= λ text. Ok (record { text = text.0; timestamp = timestamp.0; writer = origin }, text.1)) (append_assoc (number_spelled x.timestamp) (text_spelled x.text) rest)
    ∙ ap (λ (r : Result (ℕ × List ℕ) Fault). r >>= λ timestamp. text_in None timestamp.1 >>= λ text. Ok (record { text = text.0; timestamp = timestamp.0; writer = origin }, text.1)) (positive_again greatest_share x.timestamp (text_spelled x.text ++ rest) limit (record { some = sound.above; small = sound.within }))
    ∙ ap (λ (r : Result (Text × List ℕ) Fault). r >>= λ text. Ok (record { text = text.0; timestamp = x.timestamp; writer = origin }, text.1)) (text_again None x.text rest sound.text_is refl)
    ∙ ap (λ (i : ℕ). Ok (record { text = x.text; timestamp = x.timestamp; writer = i }, rest)) (sym (∥∥₁_elim same (ℕ_set _ _) (λ is. is)))
