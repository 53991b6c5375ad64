-- What was answered, which clauses speak of.
use Rattle.std.specs.Prelude.{◌≡◌, ℕ, ◌+◌, ◌≤◌, ◌^◌, Bool, List, length, fold, IsSome, All}
use Rattle.model_history.specs.Vector.{VersionVector}
use Rattle.base_vectors.specs.Vectors.{number_at}
use Rattle.data_envelope.specs.declared.group.Group.{Group}
use Rattle.data_lattice.specs.declared.replica.Replica.{Ghosts}
use Rattle.data_deltalog.specs.Answers.{Answer}
use Rattle.data_deltalog.specs.Contents.{LogParts, AgreeBut, before_with, appended, IsDeltaFor}
use Rattle.data_deltalog.specs.declared.delta_log.NextRecord.{NextRecord}
use Rattle.data_deltalog.specs.declared.grouped.Grouped.{Grouped}
use Rattle.data_deltalog.specs.declared.grouped.Grouped.TheVariants as variant

module _ {T Kind Op Delta : Type 0} {ghosts : Ghosts T Kind Op Delta} where
  -- which answer it is
  abbrev pub answer_in : Grouped T Kind Op Delta ghosts → Answer
  answer_in variant.Nothing = Answer.Nothing
  answer_in variant.TooOld = Answer.TooOld
  answer_in variant.NoDelta = Answer.NoDelta
  answer_in (variant.Group group) = Answer.AsGroup

  -- what holds of a group that is answered
  abbrev pub IfGroup : Grouped T Kind Op Delta ghosts → (Group T Kind Op Delta ghosts → Type 0) → Type 0
  IfGroup (variant.Group group) P = P group
  IfGroup _ P = Unit {0}

-- the first record of a log brings room for all
abbrev pub HasRoom : {Kind Delta : Type 0} → LogParts Kind Delta → NextRecord Delta → Type 0
HasRoom parts next = length parts.records ≡ 0 → IsSome next.room.spare

-- with the record, a log has these numbers of the others
abbrev pub IsAfter : {Kind Delta : Type 0} → LogParts Kind Delta → VersionVector → NextRecord Delta → Type 0
IsAfter parts known next = AgreeBut parts.origin (number_at (before_with parts next.before)) known

module _ {Kind Delta : Type 0} where
  -- the log with these records more
  abbrev pub all_appended : LogParts Kind Delta → List (NextRecord Delta) → LogParts Kind Delta
  all_appended parts records = fold (λ log (next : NextRecord Delta). appended log next.before next.delta) parts records

  -- records that were prepared from a log
  pub record AreNext (IsOfOrigin : Delta → ℕ → Type 0) (fits : Kind → Delta → Bool) (parts : LogParts Kind Delta) (records : List (NextRecord Delta)) : Type 0 where
    pub small : parts.last + length records ≤ 2 ^ 62
    pub fit : All (λ next. IsDeltaFor IsOfOrigin fits parts.kind parts.origin next.delta) records
    pub room : All (HasRoom parts) records
