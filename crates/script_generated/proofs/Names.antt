-- The texts that generated scripts have in them: short, ASCII, and without a byte that JSON escapes.
use Rattle.std.proofs.Common.{◌≡◌, ℕ, ◌<◌, ◌≤◌, ◌^◌, List, [], ◌∷◌, ◌++◌, length, codes, decimal, refl, ap₂, arith, length-append}
use Rattle.std.specs.Str.{IsUtf8}
use Rattle.std.specs.Char.{digit_value}
use Rattle.std.specs.Str.Parse.{AllDigits}
use Rattle.std.proofs.lemmas.Fmt.{IsAscii-decimal, length-decimal-le, decimal_is_IsNumeral}
use Rattle.std.proofs.lemmas.Str.{IsUtf8-append, IsUtf8-from_ascii}
use Rattle.json.specs.Print.{escape}
use Rattle.json.proofs.Printed.Strings.{escape_byte_plain}
use Rattle.json.proofs.Printed.Utf8.{IsUtf8-are_ascii}
use Rattle.script_generated.specs.Generated.{item_named}

pub item_short : (k : ℕ) → k < 40 → length (item_named k) ≤ 64
item_short k small = omega (arith, length-append (codes "item-") (decimal k), length-decimal-le 2 k (omega arith) (omega arith) (omega arith))

pub note_short : (i : ℕ) → i ≤ 4094 → length (codes "n" ++ decimal i) ≤ 64
note_short i small = omega (arith, length-append (codes "n") (decimal i), length-decimal-le 4 i (omega arith) (omega arith) (omega arith))

decimal_utf8 : (n : ℕ) → n < 2 ^ 64 → IsUtf8 (decimal n)
decimal_utf8 n small = IsUtf8-from_ascii _ (IsAscii-decimal n small)

pub item_utf8 : (k : ℕ) → k < 40 → IsUtf8 (item_named k)
item_utf8 k small = IsUtf8-append (codes "item-") (decimal k) (IsUtf8-are_ascii _ refl) (decimal_utf8 k (omega arith))

pub note_utf8 : (i : ℕ) → i ≤ 4094 → IsUtf8 (codes "n" ++ decimal i)
note_utf8 i small = IsUtf8-append (codes "n") (decimal i) (IsUtf8-are_ascii _ refl) (decimal_utf8 i (omega arith))

digits_unescaped : (ds : List ℕ) → AllDigits 10 ds → escape ds ≡ ds
digits_unescaped [] h = refl
digits_unescaped (d ∷ ds) h =
    let digit : digit_value d < 10 = h.0 in
    let low : 48 ≤ d = grind arith in
    let high : d ≤ 57 = grind arith in
    ap₂ (λ (a b : List ℕ). a ++ b) (escape_byte_plain d (λ e. omega arith) (λ e. omega arith) (omega arith)) (digits_unescaped ds h.1)

pub decimal_unescaped : (n : ℕ) → n < 2 ^ 64 → escape (decimal n) ≡ decimal n
decimal_unescaped n small = digits_unescaped (decimal n) (decimal_is_IsNumeral n small).0.1
