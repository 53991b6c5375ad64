-- What a tally has counted.
use Rattle.std.specs.Prelude.{ℕ}
use Rattle.model_history.specs.Vector.{IdentitySet}
use Rattle.base_vectors.specs.IdSets.{members_in}

-- how many have to answer, and the number whose bits are the identities that did
pub record Count : Type 0 where
  pub needed : ℕ
  pub answered : ℕ

abbrev pub answered_by : Count → IdentitySet
answered_by count = members_in count.answered
