-- An identity and numbers of records as bytes.
use Rattle.std.specs.Prelude.{ℕ, List, [], ◌∷◌}
use Rattle.base_vectors.specs.Vectors.{Numbers, number_at}
use Rattle.base_vectors.specs.Spelling.{numbers_spelled}

abbrev pub identity_spelled : ℕ → List ℕ
identity_spelled id = id ∷ []

abbrev pub versions_spelled : Numbers → List ℕ
versions_spelled versions = numbers_spelled (number_at versions)
