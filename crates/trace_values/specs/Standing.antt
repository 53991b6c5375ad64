-- What is kept of the records of a key, and what it stands for.
use Rattle.std.specs.Prelude.{◌≡◌, ◌+◌, ℕ, List, length, false}
use Rattle.model_history.specs.History.{History, versions, IsHistory}
use Rattle.model_history.specs.Log.{IsTakenFrom}
use Rattle.model_kinds.specs.SixKinds.{is_delete}
use Rattle.model_kinds.specs.declared.operation.Op.{Op}
use Rattle.model_meanings.specs.Growing.{has_operation}
use Rattle.model_traces.specs.Traces.{recorded}
use Rattle.base_vectors.specs.Vectors.{Numbers, number_at}
use Rattle.data_meaning.specs.declared.record.Action.{Action}
use Rattle.data_meaning.specs.declared.record.Record.{Record}
use Rattle.data_meaning.specs.Records.{action_of}
use Rattle.trace_values.specs.declared.values.Values.{Values}
use Rattle.trace_values.specs.Rows.{AreRows}
use Rattle.trace_values.specs.Sums.{AreSums}
use Rattle.trace_values.specs.Writes.{AreWrites}
use Rattle.trace_values.specs.Elements.{StandForElements}

pub record StandForValues (values : Values) (made : History Op) : Type 0 where
  pub sums : AreSums values.sums.items made
  pub writes : AreWrites values.writes.items made
  pub elements : StandForElements values.elements.items made

-- with one more record of an identity, made by a member that held a part of those before, it stands for all of them
abbrev pub KeepsOneMore : (old new : Values) → List (List Record) → (past : Numbers) → (id number : ℕ) → Action → Type 0
KeepsOneMore old new rows past id number action =
    (made H : History Op) → StandForValues old made → AreRows rows made → IsHistory made → IsTakenFrom made H → H id ≡ made id → number_at past ≡ versions H → number ≡ length (made id) + 1
    → StandForValues new (recorded made id H (action_of action))

-- it holds of each part of the records that a vector counts, where none of them deletes the key
abbrev pub OfWhatIsCounted : Values → List (List Record) → Numbers → (History Op → Type 0) → Type 0
OfWhatIsCounted values rows known Holds =
    (made H : History Op) → StandForValues values made → AreRows rows made → IsHistory made → IsTakenFrom made H → number_at known ≡ versions H → has_operation is_delete H ≡ false → Holds H
