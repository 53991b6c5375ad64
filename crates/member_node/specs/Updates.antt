-- What an own operation comes to at its key.
use Rattle.std.specs.Prelude.{◌≡◌, ℕ, ◌+◌, false, Option, Some, None}
use Rattle.model_history.specs.History.{History}
use Rattle.model_history.specs.History.Action.{Operation}
use Rattle.model_history.specs.Log.{IsTakenFrom}
use Rattle.model_meanings.specs.Refusal.{Refusal}
use Rattle.model_members.specs.Entry.{Entry, with_action}
use Rattle.model_members.specs.Node.{Reply as Meant}
use Rattle.data_lattice.specs.declared.replica.Replica.{Ghosts}
use Rattle.data_envelope.specs.declared.envelope.Envelope.{Envelope}
use Rattle.data_envelope.specs.Images.{StandsFor}
use Rattle.data_envelope.specs.Words.{parts_of}
use Rattle.data_deltalog.specs.declared.delta_log.NextRecord.{NextRecord}
use Rattle.data_deltalog.specs.Images.{StandsForLog}
use Rattle.member_node.specs.declared.key.KeyState.{KeyState}
use Rattle.member_node.specs.declared.reply.Reply.{Reply}
use Rattle.member_node.specs.declared.key.Updated.{Updated}
use Rattle.member_node.specs.declared.key.Updated.TheVariants.{Refused, Recorded}
use Rattle.member_node.specs.declared.in_place.Applied.{Applied}
use Rattle.member_node.specs.declared.in_place.Applied.TheVariants as applied
use Rattle.member_node.specs.declared.reply.Reply.TheVariants as reply
use Rattle.member_node.specs.Replies.{meant}
use Rattle.member_node.specs.Outputs.{is_pending}
use Rattle.member_node.specs.Sending.{own_number}
use Rattle.member_node.specs.Planning.{recorded, IsRecordable}

module _ {T Kind Op Delta : Type 0} (ghosts : Ghosts T Kind Op Delta) where
  -- no entry for which the envelope stands has a delete
  abbrev pub IsUndeleted : Envelope T Kind Op Delta → Type 0
  IsUndeleted entry = (log : History Op) (held : Entry Op) → StandsFor ghosts.IsDataOf (parts_of entry) log held → ghosts.data_type.deleted held.history ≡ false

  -- one own record more, in the entry and for the log, of the same kind and with the same marks
  pub record IsOwnRecord (id : ℕ) (state : KeyState T Kind Op Delta) (entry : Envelope T Kind Op Delta) (next : NextRecord Delta) : Type 0 where
    pub recordable : IsRecordable ghosts state next
    pub number : own_number id (recorded state entry next) ≡ own_number id state + 1
    pub marks : (parts_of entry).marks ≡ (parts_of state.entry).marks
    pub kind : ghosts.kind_of entry.value ≡ ghosts.kind_of state.entry.value

  -- or a refusal, which opens no operation
  abbrev pub IsOwn : ℕ → KeyState T Kind Op Delta → Updated T Kind Op Delta → Type 0
  IsOwn id state (Refused reply) = is_pending reply ≡ false
  IsOwn id state (Recorded entry next) = IsOwnRecord id state entry next

  -- how the data type refuses the operation
  abbrev pub refusal_at : ℕ → Op → KeyState T Kind Op Delta → Entry Op → Option Refusal
  refusal_at id op state held = ghosts.data_type.refusal (ghosts.kind_of state.entry.value) id op held.history

  pub record IsRefusal (id : ℕ) (op : Op) (state : KeyState T Kind Op Delta) (held : Entry Op) (reply : Reply) : Type 0 where
    pub refusal : Refusal
    pub refuses : refusal_at id op state held ≡ Some refusal
    pub told : meant reply ≡ Meant.Refused refusal

  -- the operation is the member's next record
  pub record IsNextOperation (id : ℕ) (op : Op) (state : KeyState T Kind Op Delta) (log : History Op) (held : Entry Op) (entry : Envelope T Kind Op Delta) (next : NextRecord Delta) : Type 0 where
    pub unrefused : refusal_at id op state held ≡ None
    pub image : StandsFor ghosts.IsDataOf (parts_of entry) log (with_action held id (Operation op))
    pub logged : StandsForLog ghosts.IsDeltaOf (recorded state entry next).log log (with_action held id (Operation op))

  -- it is what the model makes of the entry that is held
  abbrev pub IsUpdate : ℕ → Op → KeyState T Kind Op Delta → History Op → Entry Op → Updated T Kind Op Delta → Type 0
  IsUpdate id op state log held (Refused reply) = IsRefusal id op state held reply
  IsUpdate id op state log held (Recorded entry next) = IsNextOperation id op state log held entry next

  -- in all logs, of every entry for which the key stands
  abbrev pub MeansUpdate : ℕ → Op → KeyState T Kind Op Delta → Updated T Kind Op Delta → Type 0
  MeansUpdate id op state updated = (log : History Op) (held : Entry Op) → StandsFor ghosts.IsDataOf (parts_of state.entry) log held → StandsForLog ghosts.IsDeltaOf state.log log held
      → (refusal_at id op state held ≡ None → IsTakenFrom log (with_action held id (Operation op)).history) → IsUpdate id op state log held updated

-- IN ITS PLACE

-- what is replied
abbrev pub reply_of : Applied → Reply
reply_of applied.Recorded = reply.Done
reply_of (applied.Overflow share amount) = reply.Overflow share amount
reply_of applied.ClockSpent = reply.ClockSpent
reply_of applied.SetFull = reply.SetFull

module _ {T Kind Op Delta : Type 0} where
  -- the key after the operation, and what became of it
  abbrev pub Becomes : KeyState T Kind Op Delta → Updated T Kind Op Delta → Applied → KeyState T Kind Op Delta → Type 0
  Becomes old (Refused told) became new = (new ≡ old) × (reply_of became ≡ told)
  Becomes old (Recorded entry next) became new = (new ≡ recorded old entry next) × (became ≡ applied.Recorded)

-- the key is what an own operation comes to there
pub record IsApplied {T Kind Op Delta : Type 0} (ghosts : Ghosts T Kind Op Delta) (id : ℕ) (op : Op) (old : KeyState T Kind Op Delta) (became : Applied) (new : KeyState T Kind Op Delta) : Type 0 where
  pub updated : Updated T Kind Op Delta
  pub owned : IsOwn ghosts id old updated
  pub means : MeansUpdate ghosts id op old updated
  pub becomes : Becomes old updated became new
