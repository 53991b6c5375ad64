-- What numbers of records keep, one an identity.
use Rattle.std.specs.Prelude.{ℕ, ◌≤◌, ◌^◌}
use Rattle.base_vectors.specs.Vectors.{Numbers, number_at, IsNormal}

-- numbers of records: at most 2 ^ 62
pub record AreSeqs (numbers : Numbers) : Type 0 where
  pub normal : IsNormal numbers
  pub small : (i : ℕ) → number_at numbers i ≤ 2 ^ 62
