-- The numbers of a group and digests: what is read is spelled so, and what is spelled so is read again.
use Rattle.std.proofs.Common.{◌≡◌, ℕ, zero, suc, ◌<◌, ◌^◌, Bool, List, [], ◌∷◌, ◌++◌, length, take, drop, Result, Ok, sym, ap, subst, ◌∙◌, append_assoc, arith, lit<, length-append, length-take}
use Rattle.std.specs.Prelude.{◌&&◌, nat_lt, nat_le}
use Rattle.std.proofs.lemmas.Bool.{leb-true, le-leb, ltb-true, lt-ltb, and_parts, and_from}
use Rattle.std.proofs.lemmas.List.{take_at, drop_at, take-append-drop}
use Rattle.base_bytes.specs.declared.fault.Fault.{Fault}
use Rattle.base_bytes.specs.Fields.{◌>>=◌, kept, number_in}
use Rattle.base_bytes.specs.Spelling.{number_spelled, AreBytes, Takes}
use Rattle.base_bytes.specs.FieldLaws.{bind_ok, kept_ok, kept_on, enough_ok, enough_on, ok_is, takes_then, number_takes, number_again}
use Rattle.base_places.specs.Places.{bytes_dropped}
use Rattle.base_places.specs.Spells.{Spells}
use Rattle.member_codec.specs.Numbers.{span_spelled, IsSpan, span_in, digest_spelled, IsDigest, digest_in}

-- THE NUMBERS OF A GROUP

abbrev rule : ℕ → ℕ → Bool
rule after upto = nat_lt after upto && nat_le upto (2 ^ 62)

span_takes : (bytes : List ℕ) (x : ℕ × ℕ) (rest : List ℕ) → AreBytes bytes → span_in bytes ≡ Ok (x, rest) → Takes bytes (span_spelled x) rest × IsSpan x
unfolding span_in
span_takes bytes x rest fits e =
    let a = bind_ok (number_in bytes) (λ after. number_in after.1 >>= λ upto. kept (rule after.0 upto.0) (length after.1) >>= λ _. Ok ((after.0, upto.0), upto.1)) (x, rest) e in
    let after : ℕ × List ℕ = a.0 in
    let b = bind_ok (number_in after.1) (λ upto. kept (rule after.0 upto.0) (length after.1) >>= λ _. Ok ((after.0, upto.0), upto.1)) (x, rest) a.2 in
    let upto : ℕ × List ℕ = b.0 in
    let made : (ℕ × ℕ) × List ℕ = ((after.0, upto.0), upto.1) in
    let k = kept_ok (rule after.0 upto.0) (length after.1) (λ _. Ok made) (x, rest) b.2 in
    let both = and_parts (nat_lt after.0 upto.0) (nat_le upto.0 (2 ^ 62)) k.0 in
    let first = number_takes bytes after.0 after.1 fits a.1 in
    let second = number_takes after.1 upto.0 upto.1 first.0.rest_are_bytes b.1 in
    subst (λ (y : (ℕ × ℕ) × List ℕ). Takes bytes (span_spelled y.0) y.1 × IsSpan y.0) {x = made} {y = (x, rest)} (ok_is made (x, rest) k.1)
    (takes_then bytes (number_spelled after.0) after.1 (number_spelled upto.0) upto.1 first.0 second.0, record { rises = ltb-true _ _ both.0; small = leb-true _ _ both.1 })

span_again : (x : ℕ × ℕ) (rest : List ℕ) → IsSpan x → span_in (span_spelled x ++ rest) ≡ Ok (x, rest)
unfolding span_in
span_again x rest is =
    let low : x.0 < 2 ^ 64 = let r = is.rises in let s = is.small in omega arith in
    let high : x.1 < 2 ^ 64 = let s = is.small in omega arith in
    let left : List ℕ = number_spelled x.1 ++ rest in
    ap (λ (t : List ℕ). number_in t >>= λ after. number_in after.1 >>= λ upto. kept (rule after.0 upto.0) (length after.1) >>= λ _. Ok ((after.0, upto.0), upto.1)) (append_assoc (number_spelled x.0) (number_spelled x.1) rest)
    ∙ ap (λ (r : Result (ℕ × List ℕ) Fault). r >>= λ after. number_in after.1 >>= λ upto. kept (rule after.0 upto.0) (length after.1) >>= λ _. Ok ((after.0, upto.0), upto.1)) (number_again x.0 left low)
    ∙ ap (λ (r : Result (ℕ × List ℕ) Fault). r >>= λ upto. kept (rule x.0 upto.0) (length left) >>= λ _. Ok ((x.0, upto.0), upto.1)) (number_again x.1 rest high)
    ∙ kept_on (rule x.0 x.1) (length left) (λ _. Ok (x, rest)) (and_from _ _ (lt-ltb _ _ is.rises) (le-leb _ _ is.small))

pub span_spells : Spells IsSpan span_spelled span_in
span_spells = record { takes = span_takes; again = span_again }

-- DIGESTS

bytes_taken : (n : ℕ) (bytes : List ℕ) → AreBytes bytes → AreBytes (take n bytes)
bytes_taken zero bytes h i = lit< tt
bytes_taken (suc n) [] h i = lit< tt
bytes_taken (suc n) (b ∷ bytes) h zero = h 0
bytes_taken (suc n) (b ∷ bytes) h (suc i) = bytes_taken n bytes (λ j. h (suc j)) i

digest_takes : (bytes : List ℕ) (x : List ℕ) (rest : List ℕ) → AreBytes bytes → digest_in bytes ≡ Ok (x, rest) → Takes bytes (digest_spelled x) rest × IsDigest x
unfolding digest_in
digest_takes bytes x rest fits e =
    let long = enough_ok 20 bytes (λ _. Ok (take 20 bytes, drop 20 bytes)) (x, rest) e in
    subst (λ (y : List ℕ × List ℕ). Takes bytes y.0 y.1 × IsDigest y.0) {x = (take 20 bytes, drop 20 bytes)} {y = (x, rest)} (ok_is (take 20 bytes, drop 20 bytes) (x, rest) long.1) (
      record { parts = sym (take-append-drop 20 bytes); rest_are_bytes = bytes_dropped 20 bytes fits },
      record { long = omega (arith, length-take 20 bytes, long.0); bytes = bytes_taken 20 bytes fits },
    )

digest_again : (x : List ℕ) (rest : List ℕ) → IsDigest x → digest_in (digest_spelled x ++ rest) ≡ Ok (x, rest)
unfolding digest_in
digest_again x rest is =
    let long = is.long in
    enough_on 20 (x ++ rest) (λ _. Ok (take 20 (x ++ rest), drop 20 (x ++ rest))) (omega (arith, length-append x rest))
    ∙ ap (λ (t : List ℕ). Ok (t, drop 20 (x ++ rest))) (take_at x rest 20 long) ∙ ap (λ (t : List ℕ). Ok (x, t)) (drop_at x rest 20 long)

pub digest_spells : Spells IsDigest digest_spelled digest_in
digest_spells = record { takes = digest_takes; again = digest_again }
