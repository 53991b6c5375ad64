-- The words of a number are those of which it was made.
use Rattle.std.proofs.Common.{◌≡◌, ℕ, zero, suc, ◌+◌, ◌*◌, ◌/◌, ◌^◌, ◌<◌, List, [], ◌∷◌, length, refl, ap, ◌∙◌, arith}
use Rattle.std.specs.List.{AllByRecursion}
use Rattle.std.proofs.lemmas.Nat.{shr_high, mod_low}
use Rattle.base_vectors.specs.IdSets.{bits_of, words_in, AreSetWords}

words_again : (n : ℕ) (words : List ℕ) → length words ≡ n → AllByRecursion (λ word. word < 2 ^ 64) words → words_in n (bits_of words) ≡ words
words_again zero [] len small = refl
words_again zero (word ∷ words) len small = absurd (omega arith)
words_again (suc n) [] len small = absurd (omega arith)
words_again (suc n) (word ∷ words) len small =
    ap (λ w. w ∷ words_in n ((bits_of words * 2 ^ 64 + word) / 2 ^ 64)) (mod_low (bits_of words) 64 word small.0)
    ∙ ap (λ b. word ∷ words_in n b) (shr_high (bits_of words) 64 word small.0)
    ∙ ap (λ ws. word ∷ ws) (words_again n words (omega arith) small.1)

pub words_back : (words : List ℕ) → AreSetWords words → words_in 4 (bits_of words) ≡ words
words_back words are = words_again 4 words are.four are.small
