-- The pairs of a vector.
use Rattle.std.specs.Prelude.{ℕ, List, ◌++◌, ◌==◌, not, map, filter, codes, decimal}
use Rattle.model_history.specs.Texts.{Text}
use Rattle.model_history.specs.Vector.{VersionVector}

-- an identity and its number
abbrev pub pair_word : VersionVector → ℕ → Text
pair_word v i = decimal i ++ codes ":" ++ decimal (v i)

-- the pairs of these identities, zeros left out
abbrev pub pair_words : VersionVector → List ℕ → List Text
pair_words v is = map (pair_word v) (filter (λ i. not (v i == 0)) is)
