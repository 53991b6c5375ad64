-- Numbers as a list of words, indexed by identity: 0 where there is none, and from the end of the list on.
--     of_words         the numbers that the words are
--     IsFirstBelow         the first index from one on at which a word is below the one that is needed
use Rattle.std.specs.Prelude.{ℕ, ◌<◌, ◌≤◌, List, slice_index}
use Rattle.base_vectors.specs.Vectors.{Numbers, numbers_of}

abbrev pub of_words : List ℕ → Numbers
of_words words = numbers_of (λ i. slice_index words i)

pub record IsFirstBelow (words needs : List ℕ) (from index : ℕ) : Type 0 where
  pub lacking : slice_index words index < slice_index needs index
  pub first : (i : ℕ) → from ≤ i → i < index → slice_index needs i ≤ slice_index words i
