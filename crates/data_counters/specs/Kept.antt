-- What amounts per identity keep: no 0, identities alone, and none above what one identity may hold.
use Rattle.model_meanings.specs.Refusal.{greatest_share}
use Rattle.base_vectors.specs.Vectors.{Numbers}
use Rattle.base_vectors.specs.Spelling.{AreSpellable}

abbrev pub AreAmounts : Numbers → Type 0
AreAmounts numbers = AreSpellable greatest_share numbers
