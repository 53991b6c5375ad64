-- What the two directions have to do with each other.
use Rattle.std.proofs.Common.{◌≡◌, ℕ, ◌<◌, ◌^◌, List, [], ◌∷◌, ◌++◌, None, Result, Ok, refl}
use Rattle.base_bytes.specs.declared.fault.Fault.{Fault}
use Rattle.base_bytes.specs.Fields.{byte_in, word_in, number_in, text_in}
use Rattle.base_bytes.specs.Spelling.{IsText, word_spelled, number_spelled, text_spelled, AreBytes, Takes}
use Rattle.base_bytes.specs.FieldLaws.{byte_takes, byte_again, word_takes, word_again, number_takes, number_again, text_takes_first, text_again}

-- what is read is spelled so, and what is spelled so is read again, whatever follows it
pub record Spells {X : Type 0} (IsSound : X → Type 0) (spelled : X → List ℕ) (read_in : List ℕ → Result (X × List ℕ) Fault) : Type 0 where
  pub takes : (bytes : List ℕ) (x : X) (rest : List ℕ) → AreBytes bytes → read_in bytes ≡ Ok (x, rest) → Takes bytes (spelled x) rest × IsSound x
  pub again : (x : X) (rest : List ℕ) → IsSound x → read_in (spelled x ++ rest) ≡ Ok (x, rest)

pub byte_spells : Spells (λ n. n < 2 ^ 8) (λ n. n ∷ []) byte_in
byte_spells = record { takes = byte_takes; again = λ x rest sound. byte_again x rest }

pub word_spells : Spells (λ n. n < 2 ^ 32) word_spelled word_in
word_spells = record { takes = word_takes; again = word_again }

pub number_spells : Spells (λ n. n < 2 ^ 64) number_spelled number_in
number_spells = record { takes = number_takes; again = number_again }

pub text_spells : Spells IsText text_spelled (text_in None)
text_spells = record { takes = text_takes_first; again = λ x rest sound. text_again None x rest sound refl }
