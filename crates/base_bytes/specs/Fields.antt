-- Fields at the front of bytes, read from left to right, with the first fault that is met.
--     Gives         what a function returned is what reading gives, unless memory ran out
--     byte_in, word_in, number_in         fields of 1, 4 and 8 bytes, the greatest first
--     text_in       a text behind the number of its bytes
use Rattle.std.specs.Prelude.{◌≡◌, ℕ, List, [], ◌∷◌, length, take, drop, Bool, true, ◌&&◌, nat_lt, nat_le, if◌then◌else◌, Option, None, Some, Result, Ok, Err}
use Rattle.std.specs.Int.{Width, w32, w64, byte_len, from_be_bytes}
use Rattle.std.specs.Str.{is_utf8}
use Rattle.model_history.specs.Texts.{Text, text_lt}
use Rattle.base_bytes.specs.declared.fault.Fault.{Fault}
use Rattle.base_bytes.specs.declared.fault.Fault.TheVariants.{Short, BadByte}
use Rattle.base_bytes.specs.declared.fault.FieldError.{FieldError}
use Rattle.base_bytes.specs.declared.fault.FieldError.TheVariants as error

infixl 10 ◌>>=◌
abbrev pub ◌>>=◌ : {A B : Type 0} → Result A Fault → (A → Result B Fault) → Result B Fault
(Ok x) >>= f = f x
(Err e) >>= f = Err e

abbrev pub Fails : {Y : Type 0} → FieldError → Result Y Fault → Type 0
Fails error.Memory read = Unit {0}
Fails (error.Fault fault) read = read ≡ Err fault

abbrev pub Gives : {X Y : Type 0} → (X → Y) → Result X FieldError → Result Y Fault → Type 0
Gives view (Ok x) read = read ≡ Ok (view x)
Gives view (Err e) read = Fails e read

-- a rule on the field that begins where so many bytes are left
abbrev pub kept : Bool → ℕ → Result (Unit {0}) Fault
kept rule left = if rule then Ok tt else Err (BadByte left)

-- a field of so many bytes is not cut short
abbrev pub enough : ℕ → List ℕ → Result (Unit {0}) Fault
enough n bytes = if nat_lt (length bytes) n then Err (Short (length bytes)) else Ok tt

abbrev pub byte_in : List ℕ → Result (ℕ × List ℕ) Fault
byte_in [] = Err (Short 0)
byte_in (b ∷ rest) = Ok (b, rest)

abbrev pub big_endian : Width → List ℕ → Result (ℕ × List ℕ) Fault
big_endian w bytes = do
  _ ← enough (byte_len w) bytes
  Ok (from_be_bytes w (take (byte_len w) bytes), drop (byte_len w) bytes)

unfoldable pub word_in : List ℕ → Result (ℕ × List ℕ) Fault
word_in bytes = big_endian w32 bytes

unfoldable pub number_in : List ℕ → Result (ℕ × List ℕ) Fault
number_in bytes = big_endian w64 bytes

-- the text comes after the one before it, where there is one
abbrev pub is_after : Option Text → Text → Bool
is_after None text = true
is_after (Some before) text = text_lt before text

-- the number of its bytes, and the bytes, whose rule is that they are UTF-8 and in order
unfoldable pub text_in : Option Text → List ℕ → Result (Text × List ℕ) Fault
text_in before bytes = do
  n ← byte_in bytes
  _ ← kept (nat_le n.0 64) (length bytes)
  _ ← enough n.0 n.1
  _ ← kept (is_utf8 (take n.0 n.1) && is_after before (take n.0 n.1)) (length n.1)
  Ok (take n.0 n.1, drop n.0 n.1)
