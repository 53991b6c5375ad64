-- Lists of records, and the histories that they spell.
use Rattle.std.specs.Prelude.{◌≡◌, List, map, IsPermutation}
use Rattle.model_history.specs.History.{Action as Meant, History, Stamped, all_records, IsHistory}
use Rattle.base_vectors.specs.Vectors.{number_at}
use Rattle.model_kinds.specs.declared.operation.Op.{Op}
use Rattle.data_meaning.specs.declared.record.Action.{Action}
use Rattle.data_meaning.specs.declared.record.Action.TheVariants.{Operation, Prune}
use Rattle.data_meaning.specs.declared.record.Record.{Record}

abbrev pub action_of : Action → Meant Op
action_of (Operation op) = Meant.Operation op
action_of (Prune removed) = Meant.Prune removed

-- a record as histories have it
abbrev pub stamped : Record → Stamped Op
stamped r = record { origin = r.origin; number = r.number; action = action_of r.action; past = number_at r.past }

-- the list is each record of a history once, in any order
pub record AreRecordsOf (records : List Record) (H : History Op) : Type 0 where
  pub history : IsHistory H
  pub listed : IsPermutation (map stamped records) (all_records H)

-- the list is each record of a history once, by origin and then by number
pub record AreInOrder (records : List Record) (H : History Op) : Type 0 where
  pub history : IsHistory H
  pub listed : map stamped records ≡ all_records H
