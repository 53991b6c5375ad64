-- A field that is read is the field that was spelled, and what was spelled is read again.
use Rattle.std.proofs.Common.{◌≡◌, ℕ, suc, ◌+◌, ◌^◌, ◌<◌, ◌≤◌, Bool, true, false, cond, ltb, List, [], ◌∷◌, ◌++◌, length, take, drop, Option, None, Result, Ok, Err, refl, sym, ap, subst, ◌∙◌, append_assoc, arith, inl, inr}
use Rattle.std.specs.Prelude.{◌&&◌, nat_le}
use Rattle.std.specs.Int.{Width, w32, w64, byte_len, from_be_bytes, to_be_bytes}
use Rattle.std.specs.Str.{is_utf8}
use Rattle.std.proofs.lemmas.Bool.{cases_lt, ltb-false, le-ltb, leb-true, le-leb, and_parts, and_from}
use Rattle.std.proofs.lemmas.List.{take_at, drop_at, take-append-drop, length-append, length-take, get_or-drop, get_or-take, get_or_past}
use Rattle.std.proofs.lemmas.Nat.{be_bytes_4, be_bytes_8, from_be_bytes-to_be_bytes_4, from_be_bytes-to_be_bytes_8}
use Rattle.model_history.specs.Texts.{Text}
use Rattle.base_bytes.specs.declared.fault.Fault.{Fault}
use Rattle.base_bytes.specs.declared.fault.Fault.TheVariants.{Short}
use Rattle.base_bytes.specs.Fields.{◌>>=◌, kept, enough, byte_in, big_endian, word_in, number_in, is_after, text_in}
use Rattle.base_bytes.specs.Spelling.{word_spelled, number_spelled, text_spelled, IsText, AreBytes, Takes}

bytes_dropped : (n : ℕ) (bytes : List ℕ) → AreBytes bytes → AreBytes (drop n bytes)
bytes_dropped n bytes h i = rw get_or-drop (h (n + i))

bytes_taken : (n : ℕ) (bytes : List ℕ) → AreBytes bytes → AreBytes (take n bytes)
bytes_taken n bytes h i =
    elim (cases_lt i n) [
      | inl lt ↦ rw (get_or-take n bytes i 0 lt) (h i)
      | inr le ↦ rw (get_or_past (take n bytes) i 0 (omega (arith, length-take n bytes))) (omega arith)
    ]

-- STEPS

-- the value of a step that did not fail
pub bind_ok : {A B : Type 0} (r : Result A Fault) (f : A → Result B Fault) (y : B) → (r >>= f) ≡ Ok y → (x : A) × (r ≡ Ok x) × (f x ≡ Ok y)
bind_ok (Ok x) f y e = (x, refl, e)
bind_ok (Err d) f y e = absurd cc

abbrev done : {A : Type 0} → A → Result A Fault
done x = Ok x

pub ok_is : {A : Type 0} (x y : A) → done x ≡ done y → x ≡ y
ok_is x y e = cc

-- a rule that did not fail
pub kept_ok : {B : Type 0} (rule : Bool) (left : ℕ) (f : Unit {0} → Result B Fault) (y : B) → (kept rule left >>= f) ≡ Ok y → (rule ≡ true) × (f tt ≡ Ok y)
kept_ok true left f y e = (refl, e)
kept_ok false left f y e = absurd cc

-- a rule that holds
pub kept_on : {B : Type 0} (rule : Bool) (left : ℕ) (f : Unit {0} → Result B Fault) → rule ≡ true → (kept rule left >>= f) ≡ f tt
kept_on true left f e = refl
kept_on false left f e = absurd cc

pub enough_ok : {B : Type 0} (n : ℕ) (bytes : List ℕ) (f : Unit {0} → Result B Fault) (y : B) → (enough n bytes >>= f) ≡ Ok y → (n ≤ length bytes) × (f tt ≡ Ok y)
enough_ok {B} n bytes f y e = go (ltb (length bytes) n) refl e
  where
    go : (short : Bool) → ltb (length bytes) n ≡ short → (cond short (Err (Short (length bytes))) (done tt) >>= f) ≡ Ok y → (n ≤ length bytes) × (f tt ≡ Ok y)
    go true is e = absurd cc
    go false is e = (ltb-false _ _ is, e)

pub enough_on : {B : Type 0} (n : ℕ) (bytes : List ℕ) (f : Unit {0} → Result B Fault) → n ≤ length bytes → (enough n bytes >>= f) ≡ f tt
enough_on n bytes f le = ap (λ (short : Bool). cond short (Err (Short (length bytes))) (done tt) >>= f) (le-ltb _ _ le)

-- what is read of nothing is nothing
pub takes_nothing : (bytes : List ℕ) → AreBytes bytes → Takes bytes [] bytes
takes_nothing bytes fits = record { parts = refl; rest_are_bytes = fits }

pub takes_then : (a x b y c : List ℕ) → Takes a x b → Takes b y c → Takes a (x ++ y) c
takes_then a x b y c p q = record { parts = p.parts ∙ ap (λ (t : List ℕ). x ++ t) q.parts ∙ sym (append_assoc x y c); rest_are_bytes = q.rest_are_bytes }

takes_front : (n : ℕ) (bytes : List ℕ) → AreBytes bytes → Takes bytes (take n bytes) (drop n bytes)
takes_front n bytes fits = record { parts = sym (take-append-drop n bytes); rest_are_bytes = bytes_dropped n bytes fits }

-- NUMBERS

pub byte_takes : (bytes : List ℕ) (n : ℕ) (rest : List ℕ) → AreBytes bytes → byte_in bytes ≡ Ok (n, rest) → Takes bytes (n ∷ []) rest × (n < 256)
byte_takes [] n rest fits e = absurd cc
byte_takes (b ∷ bytes) n rest fits e =
    subst (λ (x : ℕ × List ℕ). Takes (b ∷ bytes) (x.0 ∷ []) x.1 × (x.0 < 256)) (ok_is (b, bytes) (n, rest) e)
    (record { parts = refl; rest_are_bytes = λ i. fits (suc i) }, fits 0)

pub byte_again : (n : ℕ) (rest : List ℕ) → byte_in ((n ∷ []) ++ rest) ≡ Ok (n, rest)
byte_again n rest = refl

record IsWide (w : Width) (limit : ℕ) : Type 0 where
  len : (n : ℕ) → length (to_be_bytes w n) ≡ byte_len w
  back : (bytes : List ℕ) → length bytes ≡ byte_len w → AreBytes bytes → to_be_bytes w (from_be_bytes w bytes) ≡ bytes
  again : (n : ℕ) → n < limit → from_be_bytes w (to_be_bytes w n) ≡ n
  below : (bytes : List ℕ) → AreBytes bytes → from_be_bytes w bytes < limit

wide32 : IsWide w32 (2 ^ 32)
wide32 = record {
  len = λ n. refl;
  back = λ bytes len fits. be_bytes_4 bytes _ len fits refl;
  again = λ n lt. from_be_bytes-to_be_bytes_4 n lt;
  below = λ bytes fits. omega (arith, fits 0, fits 1, fits 2, fits 3);
}

wide64 : IsWide w64 (2 ^ 64)
wide64 = record {
  len = λ n. refl;
  back = λ bytes len fits. be_bytes_8 bytes _ len fits refl;
  again = λ n lt. from_be_bytes-to_be_bytes_8 n lt;
  below = λ bytes fits. omega (arith, fits 0, fits 1, fits 2, fits 3, fits 4, fits 5, fits 6, fits 7);
}

big_endian_takes : (w : Width) (limit : ℕ) (wide : IsWide w limit) (bytes : List ℕ) (n : ℕ) (rest : List ℕ) → AreBytes bytes → big_endian w bytes ≡ Ok (n, rest) → Takes bytes (to_be_bytes w n) rest × (n < limit)
big_endian_takes w limit wide bytes n rest fits e =
    let g = enough_ok (byte_len w) bytes (λ _. Ok (from_be_bytes w (take (byte_len w) bytes), drop (byte_len w) bytes)) (n, rest) e in
    let long : byte_len w ≤ length bytes = g.0 in
    let front : List ℕ = take (byte_len w) bytes in
    let back : to_be_bytes w (from_be_bytes w front) ≡ front = wide.back front (omega (arith, length-take (byte_len w) bytes)) (bytes_taken (byte_len w) bytes fits) in
    let taken : Takes bytes (to_be_bytes w (from_be_bytes w front)) (drop (byte_len w) bytes) = subst (λ (t : List ℕ). Takes bytes t (drop (byte_len w) bytes)) (sym back) (takes_front (byte_len w) bytes fits) in
    subst (λ (x : ℕ × List ℕ). Takes bytes (to_be_bytes w x.0) x.1 × (x.0 < limit)) (ok_is (from_be_bytes w front, drop (byte_len w) bytes) (n, rest) g.1)
    (taken, wide.below front (bytes_taken (byte_len w) bytes fits))

big_endian_again : (w : Width) (limit : ℕ) (wide : IsWide w limit) (n : ℕ) (rest : List ℕ) → n < limit → big_endian w (to_be_bytes w n ++ rest) ≡ Ok (n, rest)
big_endian_again w limit wide n rest lt =
    let len = wide.len n in
    enough_on (byte_len w) (to_be_bytes w n ++ rest) (λ _. Ok (from_be_bytes w (take (byte_len w) (to_be_bytes w n ++ rest)), drop (byte_len w) (to_be_bytes w n ++ rest))) (omega (arith, length-append (to_be_bytes w n) rest))
    ∙ rw (take_at (to_be_bytes w n) rest (byte_len w) len, drop_at (to_be_bytes w n) rest (byte_len w) len, wide.again n lt) refl

pub word_takes : (bytes : List ℕ) (n : ℕ) (rest : List ℕ) → AreBytes bytes → word_in bytes ≡ Ok (n, rest) → Takes bytes (word_spelled n) rest × (n < 2 ^ 32)
unfolding word_in
word_takes bytes n rest fits e = big_endian_takes w32 (2 ^ 32) wide32 bytes n rest fits e

pub word_again : (n : ℕ) (rest : List ℕ) → n < 2 ^ 32 → word_in (word_spelled n ++ rest) ≡ Ok (n, rest)
unfolding word_in
word_again n rest lt = big_endian_again w32 (2 ^ 32) wide32 n rest lt

pub number_takes : (bytes : List ℕ) (n : ℕ) (rest : List ℕ) → AreBytes bytes → number_in bytes ≡ Ok (n, rest) → Takes bytes (number_spelled n) rest × (n < 2 ^ 64)
unfolding number_in
number_takes bytes n rest fits e = big_endian_takes w64 (2 ^ 64) wide64 bytes n rest fits e

pub number_again : (n : ℕ) (rest : List ℕ) → n < 2 ^ 64 → number_in (number_spelled n ++ rest) ≡ Ok (n, rest)
unfolding number_in
number_again n rest lt = big_endian_again w64 (2 ^ 64) wide64 n rest lt

-- TEXTS

-- what follows the bytes of a text
abbrev after_text : Option Text → ℕ × List ℕ → Result (Text × List ℕ) Fault
after_text before n = kept (is_utf8 (take n.0 n.1) && is_after before (take n.0 n.1)) (length n.1) >>= λ _. Ok (take n.0 n.1, drop n.0 n.1)

pub text_takes : (before : Option Text) (bytes : List ℕ) (text : Text) (rest : List ℕ) → AreBytes bytes → text_in before bytes ≡ Ok (text, rest) → Takes bytes (text_spelled text) rest × IsText text × (is_after before text ≡ true)
unfolding text_in
text_takes before bytes text rest fits e =
    let b = bind_ok (byte_in bytes) (λ n. kept (nat_le n.0 64) (length bytes) >>= λ _. enough n.0 n.1 >>= λ _. after_text before n) (text, rest) e in
    let n : ℕ × List ℕ = b.0 in
    let few = kept_ok (nat_le n.0 64) (length bytes) (λ _. enough n.0 n.1 >>= λ _. after_text before n) (text, rest) b.2 in
    let long = enough_ok n.0 n.1 (λ _. after_text before n) (text, rest) few.1 in
    let front : List ℕ = take n.0 n.1 in
    let rule = kept_ok (is_utf8 front && is_after before front) (length n.1) (λ _. Ok (front, drop n.0 n.1)) (text, rest) long.1 in
    let both = and_parts (is_utf8 front) (is_after before front) rule.0 in
    let first = byte_takes bytes n.0 n.1 fits b.1 in
    let len : length front ≡ n.0 = omega (arith, length-take n.0 n.1, long.0) in
    let short : n.0 ≤ 64 = leb-true n.0 64 few.0 in
    let taken : Takes bytes (n.0 ∷ front) (drop n.0 n.1) = takes_then bytes (n.0 ∷ []) n.1 front (drop n.0 n.1) first.0 (takes_front n.0 n.1 first.0.rest_are_bytes) in
    let whole : Takes bytes (text_spelled front) (drop n.0 n.1) = subst (λ (k : ℕ). Takes bytes (k ∷ front) (drop n.0 n.1)) (sym len) taken in
    subst (λ (x : Text × List ℕ). Takes bytes (text_spelled x.0) x.1 × IsText x.0 × (is_after before x.0 ≡ true)) (ok_is (front, drop n.0 n.1) (text, rest) rule.1)
    (whole, record { short = omega (arith, len, short); utf8 = both.0 }, both.1)

pub text_again : (before : Option Text) (text : Text) (rest : List ℕ) → IsText text → is_after before text ≡ true → text_in before (text_spelled text ++ rest) ≡ Ok (text, rest)
unfolding text_in
text_again before text rest is after =
    let all : ℕ × List ℕ = (length text, text ++ rest) in
    let front : take (length text) (text ++ rest) ≡ text = take_at text rest (length text) refl in
    let back : drop (length text) (text ++ rest) ≡ rest = drop_at text rest (length text) refl in
    kept_on (nat_le (length text) 64) (suc (length (text ++ rest))) (λ _. enough (length text) (text ++ rest) >>= λ _. after_text before all) (le-leb _ _ is.short)
    ∙ enough_on (length text) (text ++ rest) (λ _. after_text before all) (omega (arith, length-append text rest))
    ∙ kept_on (is_utf8 (take (length text) (text ++ rest)) && is_after before (take (length text) (text ++ rest))) (length (text ++ rest)) (λ _. Ok (take (length text) (text ++ rest), drop (length text) (text ++ rest)))
    (ap (λ (t : Text). is_utf8 t && is_after before t) front ∙ and_from _ _ is.utf8 after)
    ∙ rw (front, back) refl

-- a text on its own
pub text_takes_first : (bytes : List ℕ) (text : Text) (rest : List ℕ) → AreBytes bytes → text_in None bytes ≡ Ok (text, rest) → Takes bytes (text_spelled text) rest × IsText text
text_takes_first bytes text rest fits e = let t = text_takes None bytes text rest fits e in (t.0, t.1)
