-- Where an entry belongs in a table.
use Rattle.std.specs.Prelude.{◌≡◌, ◌+◌, ◌≤◌, ◌<◌, ◌∷◌, ◌++◌, length, take, drop}
use Rattle.member_keeper.specs.declared.stored.Stored.{Stored}
use Rattle.member_keeper.specs.declared.search.Place.{Place}
use Rattle.member_keeper.specs.declared.search.Place.TheVariants.{At, Before}
use Rattle.member_keeper.specs.Tables.{Table, put}

abbrev pub IsPlace : Table → Stored → Place → Type 0
IsPlace table entry (At index) = (index < length table) × (put table entry ≡ take index table ++ entry ∷ drop (index + 1) table)
IsPlace table entry (Before index) = (index ≤ length table) × (put table entry ≡ take index table ++ entry ∷ drop index table)
