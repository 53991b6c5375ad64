-- An identity before a space, in decimal.
use Rattle.std.proofs.Common.{◌≡◌, ℕ, ◌<◌, ◌+◌, ◌-◌, ◌==◌, Bool, true, false, not, Option, None, IsSome, IfSome, List, [], ◌∷◌, ◌++◌, length, take, drop, get_or, refl, sym, ap, subst, ◌∙◌, arith, append_assoc, Some}
use Rattle.std.specs.Prelude.{codes, decimal}
use Rattle.std.specs.Char.{digit_value}
use Rattle.std.specs.List.{position, position_or_len}
use Rattle.std.specs.Str.Parse.{AllDigits, digits_value}
use Rattle.std.proofs.lemmas.Bool.{eqb-true, ne_eqb, lt-ltb}
use Rattle.std.proofs.lemmas.Fmt.{digits_decimal}
use Rattle.std.proofs.lemmas.List.{length-append, take-append-drop, take_rest, drop_more, take_at}
use Rattle.std.proofs.lemmas.List.Quantifiers.{position-Some}
use Rattle.std.proofs.lemmas.Str.Parse.{IsNumeralModel, numerals_by_value, tells_digits}
use Rattle.top_lines.specs.Saying.{IsIdentity, IsSent}

own : IsNumeralModel (AllDigits 10) (digits_value 10)
own = numerals_by_value (AllDigits 10) tells_digits

-- a space is no digit
no_space : (c : ℕ) → digit_value c < 10 → (c == 32) ≡ false
no_space c h = ne_eqb c 32 (λ e. let at : digit_value 32 < 10 = subst (λ x. digit_value x < 10) e h in omega (arith, at))

-- the first space stands behind digits
digits_pass : (ds rest : List ℕ) → AllDigits 10 ds → position_or_len (λ byte. byte == 32) (ds ++ 32 ∷ rest) ≡ length ds
digits_pass [] rest h = refl
digits_pass (c ∷ cs) rest h = rw (no_space c h.0) (omega (arith, digits_pass cs rest h.1))

-- what stands before the first space and behind it
pub sent_is : (rest : List ℕ) (end from : ℕ) → position (λ byte. byte == 32) rest ≡ Some end → IsIdentity from (take end rest) → IsSent rest from (drop (end + 1) rest)
sent_is rest end from at is =
    let found = position-Some (λ byte. byte == 32) rest end 0 at in
    let space : get_or rest end 0 ≡ 32 = eqb-true (get_or rest end 0) 32 found.1 in
    record {
      given = is.1;
      is = sym (take-append-drop end rest)
          ∙ ap (λ t. take end rest ++ t) (drop_more rest end 0 found.0 ∙ ap (λ b. b ∷ drop (end + 1) rest) space)
          ∙ ap (λ w. w ++ (32 ∷ drop (end + 1) rest)) is.0
          ∙ sym (append_assoc (decimal from) (codes " ") (drop (end + 1) rest));
    }

sent_spaced : (rest : List ℕ) (from : ℕ) (digits : List ℕ) → IsSent rest from digits → rest ≡ decimal from ++ (32 ∷ digits)
sent_spaced rest from digits sent = sent.is ∙ append_assoc (decimal from) (codes " ") digits

-- an identity ends at the first space
pub ends_at : (rest : List ℕ) (from : ℕ) (digits : List ℕ) → IsSent rest from digits → position (λ byte. byte == 32) rest ≡ Some (length (decimal from))
ends_at rest from digits sent =
    let word = decimal from in
    let is = sent_spaced rest from digits sent in
    let place : position_or_len (λ byte. byte == 32) rest ≡ length word =
    ap (position_or_len (λ byte. byte == 32)) is ∙ digits_pass word digits (digits_decimal own from (omega (arith, sent.given))) in
    let inside : length word < length rest = rw is (omega (arith, length-append word (32 ∷ digits))) in
    rw place (rw (lt-ltb (length word) (length rest) inside) refl)

pub is_before : (rest : List ℕ) (from : ℕ) (digits : List ℕ) → IsSent rest from digits → IsIdentity from (take (length (decimal from)) rest)
is_before rest from digits sent =
    let word = decimal from in
    (ap (take (length word)) (sent_spaced rest from digits sent) ∙ take_at word (32 ∷ digits) (length word) refl, sent.given)

-- the same of slices
pub sent_in : (rest : List ℕ) (end from : ℕ) → position (λ byte. byte == 32) rest ≡ Some end → IsIdentity from (take end rest) → IsSent rest from (take (length rest - (end + 1)) (drop (end + 1) rest))
sent_in rest end from at is = rw (take_rest rest (end + 1)) (sent_is rest end from at is)

pub is_cut : (rest : List ℕ) (from end : ℕ) (digits : List ℕ) → IsSent rest from digits → end ≡ length (decimal from) → IsIdentity from (take end rest)
is_cut rest from end digits sent e = subst (λ n. IsIdentity from (take n rest)) (sym e) (is_before rest from digits sent)

-- ---- tests

pub not_false : (b : Bool) → not b ≡ false → b ≡ true
not_false true h = refl
not_false false h = absurd cc

pub some_is : (r : Option ℕ) (n : ℕ) → IsSome r → IfSome r (λ x. x ≡ n) → r ≡ Some n
some_is None n some is = absurd cc
some_is (Some x) n some is = ap Some is
