-- Messages as bytes: what contracts see of them, their one spelling, and how they are read.
--     MessageParts, message_parts        a message, its groups and entries by their parts
--     message_spelled, message_in        its spelling, and how it is read
--     message_bytes, IsSpellable, told_by        the same of a type of data, as contracts say it
use Rattle.std.specs.Prelude.{ℕ, ◌<◌, ◌^◌, List, ◌∷◌, ◌++◌, length, map, Option, Bool, ◌&&◌, nat_le, ◌==◌, if◌then◌else◌, None, Result, Ok}
use Rattle.std.specs.Option.{option_map}
use Rattle.model_history.specs.Texts.{Text}
use Rattle.base_bytes.specs.declared.fault.Fault.{Fault}
use Rattle.base_bytes.specs.Fields.{◌>>=◌, kept, byte_in, number_in, text_in}
use Rattle.base_bytes.specs.Spelling.{IsText, number_spelled, text_spelled}
use Rattle.data_lattice.specs.declared.replica.Replica.{Ghosts}
use Rattle.data_lattice.specs.declared.spelled.SpelledData.{Ghosts as Spelling}
use Rattle.data_delta_codec.specs.declared.spelled_delta.SpelledDelta.{Ghosts as DeltaSpelling}
use Rattle.data_envelope.specs.Images.{Parts, GroupParts}
use Rattle.data_envelope.specs.Words.{parts_of, group_parts}
use Rattle.member_messages.specs.declared.message.Keyed.{Keyed}
use Rattle.member_messages.specs.declared.message.Message.{Message}
use Rattle.member_messages.specs.declared.message.Message.TheVariants as message
use Rattle.member_messages.specs.declared.sketch.MessageKind.{MessageKind}
use Rattle.member_messages.specs.declared.sketch.MessageKind.TheVariants as kind
use Rattle.data_codec.specs.Envelopes.{parts_in, envelope_spelled, IsEnvelope}
use Rattle.base_places.specs.Lists.{pair_in, AreSound, list_spelled, list_in, made_in}
use Rattle.base_places.specs.Wholes.{whole_of}
use Rattle.member_codec.specs.Numbers.{IsDigest, digest_spelled, digest_in}
use Rattle.base_places.specs.Options.{IsSoundOption, option_spelled, option_in}
use Rattle.member_codec.specs.Groups.{group_in, group_spelled, IsSoundGroup}
use Rattle.member_codec.specs.Keyed.{keyed_as, IsSoundKeyed, keyed_spelled, keyed_in}

-- what members send each other, with entries and groups as they are seen
pub data MessageParts (Entry Group : Type 0) : Type 0 where
  Deltas : List (Keyed Group) → List (Keyed Entry) → MessageParts Entry Group
  Nack : List Text → MessageParts Entry Group
  Status : List (Keyed (List ℕ)) → MessageParts Entry Group
  Gossip : List (Keyed Entry) → List Text → MessageParts Entry Group
  Write : ℕ → Text → Entry → MessageParts Entry Group
  WriteAck : ℕ → MessageParts Entry Group
  WriteNack : ℕ → MessageParts Entry Group
  Read : ℕ → Text → MessageParts Entry Group
  ReadAnswer : ℕ → Text → Option Entry → MessageParts Entry Group

abbrev pub message_parts : {T Kind Op Delta : Type 0} {ghosts : Ghosts T Kind Op Delta} → Message T Kind Op Delta ghosts → MessageParts (Parts T) (GroupParts Delta)
message_parts (message.Deltas groups entries) = Deltas (map (keyed_as group_parts) groups) (map (keyed_as parts_of) entries)
message_parts (message.Nack keys) = Nack keys
message_parts (message.Status digests) = Status digests
message_parts (message.Gossip entries wants) = Gossip (map (keyed_as parts_of) entries) wants
message_parts (message.Write op key envelope) = Write op key (parts_of envelope)
message_parts (message.WriteAck op) = WriteAck op
message_parts (message.WriteNack op) = WriteNack op
message_parts (message.Read op key) = Read op key
message_parts (message.ReadAnswer op key envelope) = ReadAnswer op key (option_map parts_of envelope)

-- the bytes of the kinds
abbrev pub byte_of : MessageKind → ℕ
byte_of kind.Deltas = 1
byte_of kind.Nack = 2
byte_of kind.Status = 3
byte_of kind.Gossip = 4
byte_of kind.Write = 5
byte_of kind.WriteAck = 6
byte_of kind.WriteNack = 7
byte_of kind.Read = 8
byte_of kind.ReadAnswer = 9

abbrev pub is_kind : ℕ → Bool
is_kind byte = nat_le 1 byte && nat_le byte 9

abbrev pub kind_at : ℕ → MessageKind
kind_at byte =
    if byte == 1 then kind.Deltas else (if byte == 2 then kind.Nack else (if byte == 3 then kind.Status else (if byte == 4 then kind.Gossip else (if byte == 5 then kind.Write else (if byte == 6 then kind.WriteAck else (if byte == 7 then kind.WriteNack else (if byte == 8 then kind.Read else kind.ReadAnswer)))))))

module _ {Entry Group : Type 0} where
  abbrev pub kind_of : MessageParts Entry Group → MessageKind
  kind_of (Deltas groups entries) = kind.Deltas
  kind_of (Nack keys) = kind.Nack
  kind_of (Status digests) = kind.Status
  kind_of (Gossip entries wants) = kind.Gossip
  kind_of (Write op key entry) = kind.Write
  kind_of (WriteAck op) = kind.WriteAck
  kind_of (WriteNack op) = kind.WriteNack
  kind_of (Read op key) = kind.Read
  kind_of (ReadAnswer op key entry) = kind.ReadAnswer

  -- THE SPELLING

  abbrev pub body_spelled : (Entry → List ℕ) → (Group → List ℕ) → MessageParts Entry Group → List ℕ
  body_spelled entry group (Deltas groups entries) = list_spelled (keyed_spelled group) groups ++ list_spelled (keyed_spelled entry) entries
  body_spelled entry group (Nack keys) = list_spelled text_spelled keys
  body_spelled entry group (Status digests) = list_spelled (keyed_spelled digest_spelled) digests
  body_spelled entry group (Gossip entries wants) = list_spelled (keyed_spelled entry) entries ++ list_spelled text_spelled wants
  body_spelled entry group (Write op key envelope) = number_spelled op ++ (text_spelled key ++ entry envelope)
  body_spelled entry group (WriteAck op) = number_spelled op
  body_spelled entry group (WriteNack op) = number_spelled op
  body_spelled entry group (Read op key) = number_spelled op ++ text_spelled key
  body_spelled entry group (ReadAnswer op key envelope) = number_spelled op ++ (text_spelled key ++ option_spelled entry envelope)

  -- format 1, the kind, and what it brings
  abbrev pub message_spelled : (Entry → List ℕ) → (Group → List ℕ) → MessageParts Entry Group → List ℕ
  message_spelled entry group x = 1 ∷ byte_of (kind_of x) ∷ body_spelled entry group x

  -- each part can be spelled
  abbrev pub IsMessage : (Entry → Type 0) → (Group → Type 0) → MessageParts Entry Group → Type 0
  IsMessage IsEntry IsGroup (Deltas groups entries) = AreSound (IsSoundKeyed IsGroup) groups × AreSound (IsSoundKeyed IsEntry) entries
  IsMessage IsEntry IsGroup (Nack keys) = AreSound IsText keys
  IsMessage IsEntry IsGroup (Status digests) = AreSound (IsSoundKeyed IsDigest) digests
  IsMessage IsEntry IsGroup (Gossip entries wants) = AreSound (IsSoundKeyed IsEntry) entries × AreSound IsText wants
  IsMessage IsEntry IsGroup (Write op key envelope) = (op < 2 ^ 64) × (IsText key × IsEntry envelope)
  IsMessage IsEntry IsGroup (WriteAck op) = op < 2 ^ 64
  IsMessage IsEntry IsGroup (WriteNack op) = op < 2 ^ 64
  IsMessage IsEntry IsGroup (Read op key) = (op < 2 ^ 64) × IsText key
  IsMessage IsEntry IsGroup (ReadAnswer op key envelope) = (op < 2 ^ 64) × (IsText key × IsSoundOption IsEntry envelope)

  -- READING

  module _ (entry_in : List ℕ → Result (Entry × List ℕ) Fault) (group_in : List ℕ → Result (Group × List ℕ) Fault) where
    abbrev pub body_in : MessageKind → List ℕ → Result (MessageParts Entry Group × List ℕ) Fault
    body_in kind.Deltas = made_in (λ x. Deltas x.0 x.1) (pair_in (list_in (keyed_in group_in)) (list_in (keyed_in entry_in)))
    body_in kind.Nack = made_in Nack (list_in (text_in None))
    body_in kind.Status = made_in Status (list_in (keyed_in digest_in))
    body_in kind.Gossip = made_in (λ x. Gossip x.0 x.1) (pair_in (list_in (keyed_in entry_in)) (list_in (text_in None)))
    body_in kind.Write = made_in (λ x. Write x.0 x.1.0 x.1.1) (pair_in number_in (pair_in (text_in None) entry_in))
    body_in kind.WriteAck = made_in WriteAck number_in
    body_in kind.WriteNack = made_in WriteNack number_in
    body_in kind.Read = made_in (λ x. Read x.0 x.1) (pair_in number_in (text_in None))
    body_in kind.ReadAnswer = made_in (λ x. ReadAnswer x.0 x.1.0 x.1.1) (pair_in number_in (pair_in (text_in None) (option_in entry_in)))

    unfoldable pub kind_in : List ℕ → Result (MessageParts Entry Group × List ℕ) Fault
    kind_in bytes = do
      byte ← byte_in bytes
      _ ← kept (is_kind byte.0) (length bytes)
      body_in (kind_at byte.0) byte.1

    unfoldable pub message_in : List ℕ → Result (MessageParts Entry Group × List ℕ) Fault
    message_in bytes = do
      format ← byte_in bytes
      _ ← kept (format.0 == 1) (length bytes)
      kind_in format.1

-- OF A TYPE OF DATA

module _ {T Kind Op Delta : Type 0} (ghosts : Ghosts T Kind Op Delta) (spelling : Spelling T Kind Op Delta) (deltas : DeltaSpelling T Kind Op Delta) where
  -- what contracts see of a message
  abbrev pub Told : Type 0
  Told = MessageParts (Parts T) (GroupParts Delta)

  -- the one spelling of a message
  abbrev pub message_bytes : Told → List ℕ
  message_bytes = message_spelled (envelope_spelled spelling.byte_of spelling.spelled) (group_spelled deltas.delta_byte deltas.delta_spelled)

  -- each part can be spelled, and so it is of every message that is a value
  abbrev pub IsSpellable : Told → Type 0
  IsSpellable = IsMessage (IsEnvelope spelling.IsSound ghosts.mentioned) (IsSoundGroup deltas.IsSoundDelta ghosts.IsOfOrigin)

  -- the message at the front of bytes, or the first fault; and the one that all of them spell
  abbrev pub told_in : List ℕ → Result (Told × List ℕ) Fault
  told_in = message_in (parts_in spelling.is_known spelling.read_in 1) (group_in deltas.is_delta_byte deltas.delta_in)

  abbrev pub told_by : List ℕ → Result Told Fault
  told_by = whole_of told_in
