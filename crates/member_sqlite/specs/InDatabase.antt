-- Keepers over a database.
use Rattle.std.specs.Prelude.{ℕ, Option, refl}
use Rattle.std.specs.Coded.{Coded, code_by, coded×, coded_ℕ, coded_list, coded_option}
use Rattle.sqlite_trees.specs.declared.memory.MemStore.{MemStore}
use Rattle.sqlite_trees.specs.contracts.memory.MemStore as store
use Rattle.sqlite.specs.Held.{Held, held_code}
use Rattle.member_keeper.specs.contracts.stored.Stored as stored
use Rattle.member_keeper.specs.Tables.{Table}

-- The entries that the accepted calls left, in the order of their keys, how many calls failed, and the database, once it is open.
pub record Kept : Type 0 where
  pub table : Table
  pub faults : ℕ
  pub database : Option (Held MemStore)

-- it is stored as the pairs of its fields
abbrev pub kept_code : Coded Kept
kept_code =
    code_by (Table × (ℕ × Option (Held MemStore))) (coded× (coded_list stored.the_row.coded) (coded× coded_ℕ (coded_option (held_code store.the_row.coded))))
    (λ k. (k.table, (k.faults, k.database))) (λ p. record { table = p.0; faults = p.1.0; database = p.1.1 }) (λ _. refl)
