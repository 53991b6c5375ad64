-- What a line asks a member for.
--     input_of        the input that a step is for the member of an identity
--     IsTaken        the bytes of a message are handed to a member, or refused
--     IsInstalled        those of a view
--     Asks        a line asks a member of a view for an input, or for nothing for this reason
use Rattle.std.specs.Prelude.{◌≡◌, ℕ, ◌==◌, List, length, true, false, if◌then◌else◌, Result, Ok, Err}
use Rattle.base_places.specs.Wholes.{whole_of}
use Rattle.model_kinds.specs.declared.kind.Kind.{Kind}
use Rattle.model_kinds.specs.declared.operation.Op.{Op}
use Rattle.data_lattice.specs.declared.replica.Replica.{Ghosts}
use Rattle.data_lattice.specs.declared.spelled.SpelledData.{Ghosts as Spelling}
use Rattle.data_delta_codec.specs.declared.spelled_delta.SpelledDelta.{Ghosts as DeltaSpelling}
use Rattle.member_views.specs.Views.{View}
use Rattle.member_views.specs.Sound.{IsView}
use Rattle.member_messages.specs.declared.message.Message.{Message}
use Rattle.member_acceptance.specs.Accepting.{is_accepted}
use Rattle.member_codec.specs.declared.error.CodecError.TheVariants.{NotASpelling}
use Rattle.member_codec.specs.Answers.{IsRead}
use Rattle.member_codec.specs.Messages.{Told, message_parts, message_bytes, IsSpellable, told_by}
use Rattle.member_codec.specs.Views.{view_spelled, view_in}
use Rattle.member_node.specs.declared.input.Input.{Input}
use Rattle.member_node.specs.declared.input.Input.TheVariants as input
use Rattle.script_reading.specs.declared.ask.Ask.{Ask}
use Rattle.script_reading.specs.declared.ask.Ask.TheVariants as asking
use Rattle.script_reading.specs.declared.script.Step.{Step}
use Rattle.script_reading.specs.declared.script.Step.TheVariants as form
use Rattle.top_lines.specs.declared.line.Line.{Line}
use Rattle.top_lines.specs.declared.line.Line.TheVariants as saying
use Rattle.top_lines.specs.declared.refusal.Refusal.{Refusal}
use Rattle.top_lines.specs.declared.refusal.Refusal.TheVariants.{NotOfAMember, OfAnother, NotAMessage, NotAccepted, NotAView}
use Rattle.top_lines.specs.Saying.{Says}

-- ---- steps

module _ {T Delta : Type 0} {ghosts : Ghosts T Kind Op Delta} where
  -- a view by its number alone is none
  abbrev pub input_of_ask : Ask → Result (Input T Kind Op Delta ghosts) Refusal
  input_of_ask (asking.Update key op level) = Ok (input.Update key op level)
  input_of_ask (asking.Get key level) = Ok (input.Get key level)
  input_of_ask asking.Flush = Ok input.Flush
  input_of_ask (asking.Gossip to) = Ok (input.GossipTo to)
  input_of_ask asking.Tick = Ok input.PruneTick
  input_of_ask (asking.Install view) = Err NotOfAMember

  -- a step of this member, or of another
  abbrev pub input_at : ℕ → ℕ → Result (Input T Kind Op Delta ghosts) Refusal → Result (Input T Kind Op Delta ghosts) Refusal
  input_at id at asked = if at == id then asked else Err OfAnother

  abbrev pub input_of : ℕ → Step → Result (Input T Kind Op Delta ghosts) Refusal
  input_of id (form.Ask at ask) = input_at id at (input_of_ask ask)
  input_of id (form.Timeout at op) = input_at id at (Ok (input.Timeout op))
  input_of id _ = Err NotOfAMember

-- ---- bytes

-- the bytes spell a view, or none
abbrev pub IsInstalled : {T Kind Op Delta : Type 0} {ghosts : Ghosts T Kind Op Delta} → List ℕ → Result (Input T Kind Op Delta ghosts) Refusal → Type 0
IsInstalled bytes (Ok (input.Install view)) = IsView view × (bytes ≡ view_spelled view)
IsInstalled bytes (Ok _) = ⊥
IsInstalled bytes (Err (NotAView place)) = IsRead (λ view. view) (length bytes) (Err (NotASpelling place)) (whole_of view_in bytes)
IsInstalled bytes (Err _) = ⊥

module _ {T Kind Op Delta : Type 0} (ghosts : Ghosts T Kind Op Delta) (spelling : Spelling T Kind Op Delta) (deltas : DeltaSpelling T Kind Op Delta) where
  -- the bytes are the spelling of a message
  abbrev pub AreOf : List ℕ → Message T Kind Op Delta ghosts → Type 0
  AreOf bytes message = IsSpellable ghosts spelling deltas (message_parts message) × (bytes ≡ message_bytes ghosts spelling deltas (message_parts message))

  -- they are the spelling of no message: the first field at fault begins there
  pub record AreOfNone (bytes : List ℕ) (place : ℕ) : Type 0 where
    pub fault : IsRead (message_parts {ghosts = ghosts}) (length bytes) (Err (NotASpelling place)) (told_by ghosts spelling deltas bytes)
    pub none : (message : Message T Kind Op Delta ghosts) → AreOf bytes message → ⊥

  -- they are of a message that an honest member of the view could have sent, or there is no such message
  abbrev pub IsTaken : View → ℕ → ℕ → List ℕ → Result (Input T Kind Op Delta ghosts) Refusal → Type 0
  IsTaken view id from bytes (Ok (input.Take sender message)) = (sender ≡ from) × AreOf bytes message × (is_accepted ghosts.mentioned view id from message ≡ true)
  IsTaken view id from bytes (Ok _) = ⊥
  IsTaken view id from bytes (Err (NotAMessage place)) = AreOfNone bytes place
  IsTaken view id from bytes (Err NotAccepted) = (message : Message T Kind Op Delta ghosts) × AreOf bytes message × (is_accepted ghosts.mentioned view id from message ≡ false)
  IsTaken view id from bytes (Err _) = ⊥

-- ---- lines

module _ {T Delta : Type 0} (ghosts : Ghosts T Kind Op Delta) (spelling : Spelling T Kind Op Delta) (deltas : DeltaSpelling T Kind Op Delta) where
  -- what a member of this view and identity is asked by what a line says
  abbrev pub IsAskedBy : View → ℕ → Result Line Refusal → Result (Input T Kind Op Delta ghosts) Refusal → Type 0
  IsAskedBy view id (Ok (saying.Asks step)) asked = asked ≡ input_of id step
  IsAskedBy view id (Ok (saying.Brings from bytes)) asked = IsTaken ghosts spelling deltas view id from bytes asked
  IsAskedBy view id (Ok (saying.Decides bytes)) asked = IsInstalled bytes asked
  IsAskedBy view id (Err refusal) asked = asked ≡ Err refusal

  -- and by the line
  pub record Asks (view : View) (id : ℕ) (line : List ℕ) (asked : Result (Input T Kind Op Delta ghosts) Refusal) : Type 0 where
    pub said : Result Line Refusal
    pub says : Says line said
    pub is : IsAskedBy view id said asked
