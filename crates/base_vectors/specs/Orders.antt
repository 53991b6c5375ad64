-- What the order of two version vectors says.
use Rattle.std.specs.Prelude.{Bool, true, false}
use Rattle.base_vectors.specs.declared.vector.Order.{Order}
use Rattle.base_vectors.specs.declared.vector.Order.TheVariants.{Before, Same, After, Concurrent}

-- the one has all that the other has
abbrev pub reaches : Order → Bool
reaches Before = false
reaches Same = true
reaches After = true
reaches Concurrent = false

-- the other has all that the one has
abbrev pub is_reached : Order → Bool
is_reached Before = true
is_reached Same = true
is_reached After = false
is_reached Concurrent = false
