-- A set of identities as the bits of a number, and that number as words of 64 bits.
--     members_in        the places of the ones
--     bits_of, words_in         the number of which these are the words, and so many words of a number
use Rattle.std.specs.Prelude.{◌≡◌, ℕ, zero, suc, ◌+◌, ◌*◌, ◌/◌, ◌%◌, ◌^◌, ◌<◌, ◌==◌, List, [], ◌∷◌, length}
use Rattle.std.specs.List.{AllByRecursion}
use Rattle.model_history.specs.Table.{identity_limit}
use Rattle.model_history.specs.Vector.{IdentitySet, members_of}

-- the places of the ones
abbrev pub members_in : ℕ → IdentitySet
members_in bits i = (bits / 2 ^ i) % 2 == 1

-- how many identities are in a set
unfoldable pub member_count : IdentitySet → ℕ
member_count set = length (members_of set)

-- the number of which these are the words, the lowest first
abbrev pub bits_of : List ℕ → ℕ
bits_of [] = 0
bits_of (word ∷ words) = bits_of words * 2 ^ 64 + word

-- so many words of a number, the lowest first
abbrev pub words_in : ℕ → ℕ → List ℕ
words_in zero bits = []
words_in (suc n) bits = bits % 2 ^ 64 ∷ words_in n (bits / 2 ^ 64)

-- the four words of a set of identities
pub record AreSetWords (words : List ℕ) : Type 0 where
  pub four : length words ≡ 4
  pub small : AllByRecursion (λ word. word < 2 ^ 64) words
  pub members : bits_of words < 2 ^ identity_limit
