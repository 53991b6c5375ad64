-- What is shown of an entry for which an envelope stands.
--     meaning_of        what it means, where it has records: a value, or that its key is deleted
--     MeansShown        a reply tells it
--     ShowsReadIfOk        a read ends with it
use Rattle.std.specs.Prelude.{◌≡◌, ℕ, List, Option, Some, None, if◌then◌else◌, Result, IfOk}
use Rattle.model_history.specs.History.{History}
use Rattle.model_members.specs.Entry.{Entry, has_records}
use Rattle.model_members.specs.DataType.{Meaning, meaning}
use Rattle.model_members.specs.Step.{value_reply, read_result}
use Rattle.model_kinds.specs.declared.shown.Shown.{Shown}
use Rattle.data_lattice.specs.declared.replica.Replica.{Ghosts}
use Rattle.data_envelope.specs.declared.envelope.Envelope.{Envelope}
use Rattle.data_envelope.specs.Images.{StandsFor}
use Rattle.data_envelope.specs.Words.{parts_of}
use Rattle.member_node.specs.declared.reply.Reply.{Reply}
use Rattle.member_node.specs.declared.operation.OperationResult.{OperationResult}
use Rattle.member_node.specs.Replies.{delta_groups, meant}
use Rattle.member_node.specs.Operations.{result_meant}

module _ {T Kind Op Delta : Type 0} (ghosts : Ghosts T Kind Op Delta) where
  -- what an entry that has records means
  abbrev pub meaning_of : Kind → Entry Op → Option (Meaning Shown)
  meaning_of kind held = if has_records held then Some (meaning ghosts.data_type kind held.history) else None

  -- a reply with that, or that there is none
  abbrev pub MeansShown : Envelope T Kind Op Delta → Reply → Type 0
  MeansShown entry reply =
      (digest : Kind → Entry Op → List ℕ) (log : History Op) (held : Entry Op) → StandsFor ghosts.IsDataOf (parts_of entry) log held
      → meant reply ≡ value_reply (delta_groups ghosts.data_type digest) (meaning_of (ghosts.kind_of entry.value) held)

  -- a read that finds the entry ends with it
  abbrev pub ShowsReadIfOk : {E : Type 0} → Envelope T Kind Op Delta → Result OperationResult E → Type 0
  ShowsReadIfOk entry result =
      (digest : Kind → Entry Op → List ℕ) (log : History Op) (held : Entry Op) → StandsFor ghosts.IsDataOf (parts_of entry) log held
      → IfOk result (λ end. result_meant end ≡ read_result (delta_groups ghosts.data_type digest) (meaning_of (ghosts.kind_of entry.value) held))
