-- A set of identities as words: what is true of one word holds of each.
use Rattle.std.proofs.Common.{◌≡◌, ℕ, zero, suc, ◌+◌, ◌-◌, ◌*◌, ◌/◌, ◌%◌, ◌^◌, ◌<◌, ◌≤◌, List, [], ◌∷◌, length, slice_index, set, bit_or, Bool, false, length-set, refl, ap, sym, subst, ◌∙◌, arith, inl, inr}
use Rattle.std.specs.Prelude.{◌==◌}
use Rattle.std.specs.List.{AllByRecursion}
use Rattle.std.specs.Int.Count.{ones}
use Rattle.std.specs.Int.{bit_at}
use Rattle.std.proofs.lemmas.Bool.{cases_lt}
use Rattle.std.proofs.lemmas.Nat.{or_block, or_lt, ones_cat, pow-add, pow_below, pow_pos}
use lib.Bits.{or_zero_r}
use lib.Pointwise.{pointwise}
use lib.Dec.{eqb}
use Rattle.std.proofs.lemmas.Nat.Bits.{bit_at-zero, bit_at_cat_low, bit_at_cat_high, bit_at_above}
use Rattle.model_history.specs.Table.{identity_limit}
use Rattle.base_vectors.specs.IdSets.{members_in, bits_of, words_in, AreSetWords}
use Rattle.base_vectors.specs.WordLaws.{words_back}

abbrev pub IsWord : ℕ → Type 0
IsWord word = word < 2 ^ 64

-- a bit of the number is a bit of one word
pub bit_of_word : (words : List ℕ) (i : ℕ) → AllByRecursion IsWord words → bit_at (bits_of words) i ≡ bit_at (slice_index words (i / 64)) (i % 64)
bit_of_word [] i small = bit_at-zero i ∙ sym (bit_at-zero (i % 64))
bit_of_word (word ∷ words) i small = elim (cases_lt i 64) [
  | inl low ↦
      let row : i / 64 ≡ 0 = omega arith in
      let place : i % 64 ≡ i = omega arith in
      bit_at_cat_low (bits_of words) 64 word i low ∙ sym (ap (λ k. bit_at (slice_index (word ∷ words) k) (i % 64)) row ∙ ap (bit_at word) place)
  | inr high ↦
      let row : i / 64 ≡ suc ((i - 64) / 64) = omega arith in
      let place : i % 64 ≡ (i - 64) % 64 = omega arith in
      bit_at_cat_high (bits_of words) 64 word i small.0 high ∙ bit_of_word words (i - 64) small.1
      ∙ sym (ap (λ k. bit_at (slice_index (word ∷ words) k) (i % 64)) row ∙ ap (bit_at (slice_index words ((i - 64) / 64))) place)
]

pub member_of_word : (words : List ℕ) (i : ℕ) → AllByRecursion IsWord words → members_in (bits_of words) i ≡ members_in (slice_index words (i / 64)) (i % 64)
member_of_word words i small = ap (λ b. b == 1) (bit_of_word words i small)

-- a number of so many bits has no member from there on
pub no_member : (bits k i : ℕ) → bits < 2 ^ k → k ≤ i → members_in bits i ≡ false
no_member bits k i small from = ap (λ b. b == 1) (bit_at_above bits k i small from)

-- ONE BY ONE

pub word_small : (words : List ℕ) (k : ℕ) → AllByRecursion IsWord words → slice_index words k < 2 ^ 64
word_small [] k small = omega arith
word_small (word ∷ words) zero small = small.0
word_small (word ∷ words) (suc k) small = word_small words k small.1

-- so many words from a place on
abbrev pub each : List ℕ → ℕ → ℕ → List ℕ
each words k zero = []
each words k (suc n) = slice_index words k ∷ each words (suc k) n

each_later : (word : ℕ) (words : List ℕ) (n k : ℕ) → each (word ∷ words) (suc k) n ≡ each words k n
each_later word words zero k = refl
each_later word words (suc n) k = ap (λ ws. slice_index words k ∷ ws) (each_later word words n (suc k))

each_all : (n : ℕ) (words : List ℕ) → length words ≡ n → each words 0 n ≡ words
each_all zero [] len = refl
each_all zero (word ∷ words) len = absurd (omega arith)
each_all (suc n) [] len = absurd (omega arith)
each_all (suc n) (word ∷ words) len = ap (λ ws. word ∷ ws) (each_later word words n 0 ∙ each_all n words (omega arith))

pub four_words : (words : List ℕ) → AreSetWords words → each words 0 4 ≡ words
four_words words are = each_all 4 words are.four

-- THE NUMBER OF ONES

ones_of : List ℕ → ℕ
ones_of [] = 0
ones_of (word ∷ words) = ones_of words + ones word

ones_by_word : (words : List ℕ) → AllByRecursion IsWord words → ones (bits_of words) ≡ ones_of words
unfolding ones ones_of
ones_by_word [] small = refl
ones_by_word (word ∷ words) small = ones_cat 64 (bits_of words) word small.0 ∙ ap (λ n. n + ones word) (ones_by_word words small.1)

pub ones_of_words : (words : List ℕ) → AreSetWords words
    → ones (slice_index words 0) + ones (slice_index words 1) + (ones (slice_index words 2) + ones (slice_index words 3)) ≡ ones (bits_of words)
unfolding ones_of
ones_of_words words are =
    let all : ones (bits_of words) ≡ ones_of (each words 0 4) = ones_by_word words are.small ∙ ap ones_of (sym (four_words words are)) in
    omega (arith, all)

-- TWO SETS

-- the words of both, so many from a place on
abbrev pub each_or : List ℕ → List ℕ → ℕ → ℕ → List ℕ
each_or xs ys k zero = []
each_or xs ys k (suc n) = bit_or (slice_index xs k) (slice_index ys k) ∷ each_or xs ys (suc k) n

or_by_word : (xs ys : List ℕ) (n k : ℕ) → AllByRecursion IsWord xs → AllByRecursion IsWord ys → bits_of (each_or xs ys k n) ≡ bit_or (bits_of (each xs k n)) (bits_of (each ys k n))
or_by_word xs ys zero k small also = sym (or_zero_r 0)
or_by_word xs ys (suc n) k small also =
    ap (λ b. b * 2 ^ 64 + bit_or (slice_index xs k) (slice_index ys k)) (or_by_word xs ys n (suc k) small also)
    ∙ sym (or_block 64 (bits_of (each xs (suc k) n)) (bits_of (each ys (suc k) n)) (slice_index xs k) (slice_index ys k) (word_small xs k small) (word_small ys k also))

or_small : (xs ys : List ℕ) (n k : ℕ) → AllByRecursion IsWord xs → AllByRecursion IsWord ys → AllByRecursion IsWord (each_or xs ys k n)
or_small xs ys zero k small also = tt
or_small xs ys (suc n) k small also = (or_lt 64 (slice_index xs k) (slice_index ys k) (word_small xs k small) (word_small ys k also), or_small xs ys n (suc k) small also)

pub or_of_words : (xs ys : List ℕ) → AreSetWords xs → AreSetWords ys → bits_of (each_or xs ys 0 4) ≡ bit_or (bits_of xs) (bits_of ys)
or_of_words xs ys are also =
    or_by_word xs ys 4 0 are.small also.small ∙ ap (λ ws. bit_or (bits_of ws) (bits_of (each ys 0 4))) (four_words xs are) ∙ ap (λ ws. bit_or (bits_of xs) (bits_of ws)) (four_words ys also)

pub or_is_set : (xs ys : List ℕ) → AreSetWords xs → AreSetWords ys → AreSetWords (each_or xs ys 0 4)
or_is_set xs ys are also = record {
  four = refl;
  small = or_small xs ys 4 0 are.small also.small;
  members = subst (λ b. b < 2 ^ identity_limit) (sym (or_of_words xs ys are also)) (or_lt identity_limit (bits_of xs) (bits_of ys) are.members also.members);
}

-- ONE MEMBER MORE

pub words_with : (words : List ℕ) (at k : ℕ) → AllByRecursion IsWord words → k < 64 → at < length words → bits_of (set words at (bit_or (slice_index words at) (2 ^ k))) ≡ bit_or (bits_of words) (2 ^ (at * 64 + k))
words_with [] at k small few within = absurd (omega arith)
words_with (word ∷ words) zero k small few within =
    let place : zero * 64 + k ≡ k = omega arith in
    let one : 0 * 2 ^ 64 + 2 ^ k ≡ 2 ^ k = omega arith in
    sym (ap (λ n. bit_or (bits_of words * 2 ^ 64 + word) (2 ^ n)) place ∙ ap (bit_or (bits_of words * 2 ^ 64 + word)) (sym one)
    ∙ or_block 64 (bits_of words) 0 word (2 ^ k) small.0 (pow_below k 64 few) ∙ ap (λ n. n * 2 ^ 64 + bit_or word (2 ^ k)) (or_zero_r (bits_of words)))
words_with (word ∷ words) (suc at) k small few within =
    let place : at * 64 + k + 64 ≡ suc at * 64 + k = omega arith in
    let high : 2 ^ (at * 64 + k) * 2 ^ 64 + 0 ≡ 2 ^ (at * 64 + k + 64) = omega (arith, pow-add 2 (at * 64 + k) 64) in
    ap (λ b. b * 2 ^ 64 + word) (words_with words at k small.1 few (omega arith))
    ∙ sym (ap (λ n. bit_or (bits_of words * 2 ^ 64 + word) n) (sym (high ∙ ap (λ n. 2 ^ n) place))
    ∙ or_block 64 (bits_of words) (2 ^ (at * 64 + k)) word 0 small.0 (pow_pos 64) ∙ ap (λ n. bit_or (bits_of words) (2 ^ (at * 64 + k)) * 2 ^ 64 + n) (or_zero_r word))

set_small : (words : List ℕ) (at word : ℕ) → AllByRecursion IsWord words → word < 2 ^ 64 → AllByRecursion IsWord (set words at word)
set_small [] at word small fits = tt
set_small (x ∷ words) zero word small fits = (fits, small.1)
set_small (x ∷ words) (suc at) word small fits = (small.0, set_small words at word small.1 fits)

-- the word and the bit of an identity
pub with_id : (words : List ℕ) (id : ℕ) → AreSetWords words → id < identity_limit
    → bits_of (set words (id / 64) (bit_or (slice_index words (id / 64)) (2 ^ (id % 64)))) ≡ bit_or (bits_of words) (2 ^ id)
with_id words id are few =
    let place : id / 64 * 64 + id % 64 ≡ id = omega arith in
    let within : id / 64 < length words = omega (arith, are.four) in
    words_with words (id / 64) (id % 64) are.small (omega arith) within ∙ ap (λ n. bit_or (bits_of words) (2 ^ n)) place

pub with_is_set : (words : List ℕ) (id : ℕ) → AreSetWords words → id < identity_limit → AreSetWords (set words (id / 64) (bit_or (slice_index words (id / 64)) (2 ^ (id % 64))))
with_is_set words id are few = record {
  four = length-set words (id / 64) (bit_or (slice_index words (id / 64)) (2 ^ (id % 64))) ∙ are.four;
  small = set_small words (id / 64) (bit_or (slice_index words (id / 64)) (2 ^ (id % 64))) are.small
      (or_lt 64 (slice_index words (id / 64)) (2 ^ (id % 64)) (word_small words (id / 64) are.small) (pow_below (id % 64) 64 (omega arith)));
  members = subst (λ b. b < 2 ^ identity_limit) (sym (with_id words id are few)) (or_lt identity_limit (bits_of words) (2 ^ id) are.members (pow_below id identity_limit few));
}

-- NO MEMBER FROM THE END ON

-- the number of which one word after another is 0 from above
pub few_words : (words : List ℕ) → AreSetWords words → (slice_index words 3 ≡ 0 → bits_of words < 2 ^ 192)
    × (slice_index words 3 ≡ 0 → slice_index words 2 ≡ 0 → bits_of words < 2 ^ 128) × (slice_index words 3 ≡ 0 → slice_index words 2 ≡ 0 → slice_index words 1 ≡ 0 → bits_of words < 2 ^ 64)
few_words words are =
    let all : bits_of (each words 0 4) ≡ bits_of words = ap bits_of (four_words words are) in
    let a = word_small words 0 are.small in
    let b = word_small words 1 are.small in
    let c = word_small words 2 are.small in
    (λ e. omega (arith, all, a, b, c, e), λ e f. omega (arith, all, a, b, e, f), λ e f g. omega (arith, all, a, e, f, g))

-- WHETHER TWO SETS ARE ONE

pub eq_by_words : (r : Bool) (xs ys : List ℕ) (a b : ℕ) → AreSetWords xs → AreSetWords ys → bits_of xs ≡ a → bits_of ys ≡ b → r ≡ pointwise eqb xs ys → r ≡ pointwise eqb (words_in 4 a) (words_in 4 b)
eq_by_words r xs ys a b are also is also_is e =
    e ∙ ap (λ words. pointwise eqb words ys) (sym (words_back xs are) ∙ ap (words_in 4) is) ∙ ap (pointwise eqb (words_in 4 a)) (sym (words_back ys also) ∙ ap (words_in 4) also_is)
