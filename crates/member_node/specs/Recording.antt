-- What a member's own operation makes of an entry, and the record of it for the log.
--     is_open_to        whether the data take an operation
--     FollowsAll        all that the entry has is before the record
--     IsRecorded        one own record more
--     MeansRecorded, IsUnrefused, TellsRefusal        it is recorded or refused as in the model, in all logs
use Rattle.std.specs.Prelude.{◌≡◌, ℕ, ◌+◌, Bool, ◌&&◌, not, Some, None}
use Rattle.model_history.specs.History.{History, at}
use Rattle.model_history.specs.History.Action.{Operation}
use Rattle.model_history.specs.Log.{IsTakenFrom}
use Rattle.model_members.specs.Entry.{Entry, with_action}
use Rattle.base_vectors.specs.Vectors.{number_at}
use Rattle.data_lattice.specs.declared.replica.Replica.{Ghosts}
use Rattle.data_lattice.specs.declared.answers.ApplyError.{ApplyError}
use Rattle.data_lattice.specs.Refusals.{IsApplyRefusal}
use Rattle.data_envelope.specs.declared.envelope.Envelope.{Envelope}
use Rattle.data_envelope.specs.Images.{StandsFor}
use Rattle.data_envelope.specs.Words.{parts_of}
use Rattle.data_deltalog.specs.declared.delta_log.NextRecord.{NextRecord}
use Rattle.data_deltalog.specs.Contents.{LogParts, IsDeltaFor}
use Rattle.data_deltalog.specs.Words.{HasRoom, IsAfter}

module _ {T Kind Op Delta : Type 0} (ghosts : Ghosts T Kind Op Delta) where
  -- the key is not deleted, and the operation is one of its kind
  abbrev pub is_open_to : T → Op → Bool
  is_open_to value op = not (ghosts.is_closed value) && ghosts.data_type.fits (ghosts.kind_of value) op

  -- all that the entry has is before the record, in all logs
  abbrev pub FollowsAll : LogParts Kind Delta → Envelope T Kind Op Delta → NextRecord Delta → Type 0
  FollowsAll parts entry next = (history : History Op) (held : Entry Op) → StandsFor ghosts.IsDataOf (parts_of entry) history held → IsAfter parts (at held.history) next

  -- one more own record, the same marks and kind, and a delta of both, for which the log has room
  pub record IsRecorded (id : ℕ) (log : LogParts Kind Delta) (old new : Envelope T Kind Op Delta) (next : NextRecord Delta) : Type 0 where
    pub number : number_at (parts_of new).versions id ≡ number_at (parts_of old).versions id + 1
    pub marks : (parts_of new).marks ≡ (parts_of old).marks
    pub kind : ghosts.kind_of new.value ≡ ghosts.kind_of old.value
    pub fits : IsDeltaFor ghosts.IsOfOrigin ghosts.delta_fits_kind (ghosts.kind_of old.value) id next.delta
    pub room : HasRoom log next

  -- it is what the model's entry becomes, with the records before it and its delta for the log
  pub record StandsForRecorded (parts : LogParts Kind Delta) (log : History Op) (id : ℕ) (op : Op) (before : Entry Op) (new : Envelope T Kind Op Delta) (next : NextRecord Delta) : Type 0 where
    pub entry : StandsFor ghosts.IsDataOf (parts_of new) log (with_action before id (Operation op))
    pub known : IsAfter parts (at before.history) next
    pub made : Delta
    pub some : next.delta ≡ Some made
    pub delta : ghosts.IsDeltaOf made log id (at before.history id) (at before.history id + 1)

module _ {T Kind Op Delta : Type 0} (ghosts : Ghosts T Kind Op Delta) (id : ℕ) (op : Op) (old : Envelope T Kind Op Delta) where
  -- the operation is the next record, in each history that has it
  abbrev pub MeansRecorded : LogParts Kind Delta → (new : Envelope T Kind Op Delta) → NextRecord Delta → Type 0
  MeansRecorded parts new next =
      (history : History Op) (before : Entry Op) → StandsFor ghosts.IsDataOf (parts_of old) history before → IsTakenFrom history (with_action before id (Operation op)).history
      → StandsForRecorded ghosts parts history id op before new next

  -- the data type doesn't refuse it
  abbrev pub IsUnrefused : Type 0
  IsUnrefused = (history : History Op) (before : Entry Op) → StandsFor ghosts.IsDataOf (parts_of old) history before → ghosts.data_type.refusal (ghosts.kind_of old.value) id op before.history ≡ None

  -- or it does, with this error, unless memory was refused
  abbrev pub TellsRefusal : ApplyError → Type 0
  TellsRefusal error =
      (history : History Op) (before : Entry Op) → StandsFor ghosts.IsDataOf (parts_of old) history before → IsApplyRefusal (ghosts.data_type.refusal (ghosts.kind_of old.value) id op before.history) error
