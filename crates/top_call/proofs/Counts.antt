-- Numbers of steps as words.
use Rattle.std.proofs.Common.{◌≡◌, ◌≢◌, ℕ, zero, suc, ◌<◌, ◌≤◌, List, [], ◌∷◌, length, get_or, decimal, refl, sym, ◌∙◌, ap, arith, Result, Ok}
use Rattle.std.specs.Str.Parse.{ParsesUnsigned, AllDigits, digits_value}
use Rattle.std.proofs.lemmas.Str.Parse.{IsNumeralModel, numerals_by_value, tells_digits, parse_plain}
use Rattle.std.proofs.lemmas.Fmt.{decimal_injective, parse-decimal, first_decimal, decimal_digit, decimal_nonempty, decimal-digits_value}
use Rattle.top_call.specs.Asking.{IsCount, most_steps}

own : IsNumeralModel (AllDigits 10) (digits_value 10)
own = numerals_by_value (AllDigits 10) tells_digits

-- the first of some, whatever would stand for it where there is none
pub first_of_some : (xs : List ℕ) (d e : ℕ) → 0 < length xs → get_or xs 0 d ≡ get_or xs 0 e
first_of_some [] d e h = absurd (omega arith)
first_of_some (x ∷ xs) d e h = refl

-- a count has one number
pub one_count : (n m : ℕ) (word : List ℕ) → IsCount n word → IsCount m word → n ≡ m
one_count n m word h k = decimal_injective n m (omega arith) (omega arith) (sym h.0 ∙ k.0)

pub count_some : (n : ℕ) (word : List ℕ) → IsCount n word → 0 < length word
count_some n word h = rw h.0 (decimal_nonempty n (omega arith))

-- it begins with a digit above 0
pub count_begins : (n : ℕ) (word : List ℕ) → IsCount n word → 48 < get_or word 0 0
count_begins n word h = rw h.0 (first_decimal n (omega arith) (omega arith))

-- it is parsed as its number
pub count_parsed : {E : Type 0} (n : ℕ) (word : List ℕ) (r : Result ℕ E) → IsCount n word → ParsesUnsigned 32 10 word r → r ≡ Ok n
count_parsed n word r h parsed = parse-decimal 32 n word r (omega arith) (omega arith) h.0 parsed

above_zero : (n : ℕ) (word : List ℕ) → word ≡ decimal n → 48 < get_or word 0 0 → 1 ≤ n
above_zero zero word e begins =
    let first : get_or word 0 0 ≡ 48 = ap (λ w. get_or w 0 0) (e ∙ decimal_digit 0 (omega arith)) in
    absurd (omega arith)
above_zero (suc n) word e begins = omega arith

-- what is parsed and begins so is a count
pub parsed_count : {E : Type 0} (n : ℕ) (word : List ℕ) (r : Result ℕ E) → r ≡ Ok n → 48 < get_or word 0 0 → n ≤ most_steps → ParsesUnsigned 32 10 word r → IsCount n word
parsed_count n word r e begins most parsed =
    let plain : get_or word 0 0 ≢ 43 = omega arith in
    let told = rw e at (parse_plain own 32 word r parsed plain) in
    let text : decimal (digits_value 10 word) ≡ word = decimal-digits_value own word told.0.0 told.0.1 (λ zero. absurd (omega arith)) (omega arith) in
    let is : word ≡ decimal n = sym text ∙ ap decimal (sym told.1) in
    (is, above_zero n word is begins, most)
