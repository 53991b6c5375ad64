-- What inputs of the program stand for in the model.
--     Tells        items that stand for those of the model, but for some that are passed over
--     StandsForTaken        a message, without what is of no declared key, or of another kind
--     StandsForInput        an input
use Rattle.std.specs.Prelude.{◌≡◌, ◌≢◌, ℕ, List, [], ◌∷◌, Option, Some, None, false, map, All}
use Rattle.model_history.specs.Texts.{Text}
use Rattle.model_members.specs.Entry as model
use Rattle.model_members.specs.Message as sending
use Rattle.model_members.specs.Message.{Message as Sent}
use Rattle.model_members.specs.Node as nodes
use Rattle.model_history.specs.History.{History}
use Rattle.data_lattice.specs.declared.replica.Replica.{Ghosts}
use Rattle.data_envelope.specs.declared.envelope.Envelope.{Envelope}
use Rattle.data_envelope.specs.declared.group.Group.{Group}
use Rattle.member_messages.specs.declared.message.Keyed.{Keyed}
use Rattle.member_messages.specs.declared.message.Message.{Message}
use Rattle.member_messages.specs.declared.message.Message.TheVariants.{Deltas, Nack, Status, Gossip, Write, WriteAck, WriteNack, Read, ReadAnswer}
use Rattle.member_messages.specs.Standing.{digest_told, StandsForKeyed, StandsForKeyedGroup}
use Rattle.member_quorum.specs.Levels.{level_meant}
use Rattle.member_node.specs.declared.key.KeyState.{KeyState}
use Rattle.member_node.specs.declared.input.Input.{Input}
use Rattle.member_node.specs.declared.input.Input.TheVariants as input

-- each item stands for the next of the model's, or is passed over
pub data Tells {X Y : Type 0} (Stands : X → Y → Type 0) (IsPassedOver : X → Type 0) : List X → List Y → Type 0 where
  nothing : Tells Stands IsPassedOver [] []
  told : (x : X) (y : Y) (xs : List X) (ys : List Y) → Stands x y → Tells Stands IsPassedOver xs ys → Tells Stands IsPassedOver (x ∷ xs) (y ∷ ys)
  passed_over : (x : X) (xs : List X) (ys : List Y) → IsPassedOver x → Tells Stands IsPassedOver xs ys → Tells Stands IsPassedOver (x ∷ xs) ys

module _ {T Kind Op Delta : Type 0} (ghosts : Ghosts T Kind Op Delta) (keys : List (KeyState T Kind Op Delta)) where
  -- the key isn't declared, or is of another kind
  abbrev pub IsEntryPassedOver : Keyed (Envelope T Kind Op Delta) → Type 0
  IsEntryPassedOver keyed = All (λ state. state.name ≡ keyed.key → state.kind ≢ ghosts.kind_of keyed.item.value) keys

  abbrev pub IsGroupPassedOver : Keyed (Group T Kind Op Delta ghosts) → Type 0
  IsGroupPassedOver keyed = All (λ state. state.name ≡ keyed.key → ghosts.delta_fits_kind state.kind keyed.item.delta ≡ false) keys

module _ {T Kind Op Delta : Type 0} (ghosts : Ghosts T Kind Op Delta) (kinds : Text → Kind) (logs : Text → History Op) (keys : List (KeyState T Kind Op Delta)) where
  abbrev pub TellsEntries : List (Keyed (Envelope T Kind Op Delta)) → List (sending.Keyed (model.Entry Op)) → Type 0
  TellsEntries = Tells (StandsForKeyed ghosts.kind_of ghosts.IsDataOf kinds logs) (IsEntryPassedOver ghosts keys)

  abbrev pub TellsGroups : List (Keyed (Group T Kind Op Delta ghosts)) → List (sending.Keyed (model.Group Op)) → Type 0
  TellsGroups = Tells (StandsForKeyedGroup kinds logs) (IsGroupPassedOver ghosts keys)

module _ {T Kind Op Delta : Type 0} {ghosts : Ghosts T Kind Op Delta} (kinds : Text → Kind) (logs : Text → History Op) (keys : List (KeyState T Kind Op Delta)) where
  pub record TellsDeltas (groups : List (Keyed (Group T Kind Op Delta ghosts))) (entries : List (Keyed (Envelope T Kind Op Delta))) (message : Sent Op) : Type 0 where
    pub told_groups : List (sending.Keyed (model.Group Op))
    pub told_entries : List (sending.Keyed (model.Entry Op))
    pub is : message ≡ Sent.Deltas told_groups told_entries
    pub groups_stand : TellsGroups ghosts kinds logs keys groups told_groups
    pub entries_stand : TellsEntries ghosts kinds logs keys entries told_entries

module _ {T Kind Op Delta : Type 0} (ghosts : Ghosts T Kind Op Delta) (kinds : Text → Kind) (logs : Text → History Op) (keys : List (KeyState T Kind Op Delta)) where
  pub record TellsGossip (entries : List (Keyed (Envelope T Kind Op Delta))) (wants : List Text) (message : Sent Op) : Type 0 where
    pub told_entries : List (sending.Keyed (model.Entry Op))
    pub is : message ≡ Sent.Gossip told_entries wants
    pub entries_stand : TellsEntries ghosts kinds logs keys entries told_entries

-- an entry under a key, if there is one
abbrev pub keyed_entry_of : {Op : Type 0} → Text → Option (model.Entry Op) → List (sending.Keyed (model.Entry Op))
keyed_entry_of key None = []
keyed_entry_of key (Some entry) = record { key = key; item = entry } ∷ []

module _ {T Kind Op Delta : Type 0} where
  -- an envelope under a key, if there is one
  abbrev pub keyed_envelope : Text → Option (Envelope T Kind Op Delta) → List (Keyed (Envelope T Kind Op Delta))
  keyed_envelope key None = []
  keyed_envelope key (Some envelope) = record { key = key; item = envelope } ∷ []

-- the write of an entry; where there is none, nothing is brought
abbrev pub write_told : {Op : Type 0} → ℕ → List (sending.Keyed (model.Entry Op)) → Sent Op
write_told op [] = Sent.Deltas [] []
write_told op (entry ∷ more) = Sent.Write op entry.key entry.item

module _ {T Kind Op Delta : Type 0} (ghosts : Ghosts T Kind Op Delta) (kinds : Text → Kind) (logs : Text → History Op) (keys : List (KeyState T Kind Op Delta)) where
  -- a write of the entry, or, where it is passed over, no write
  pub record TellsWrite (op : ℕ) (key : Text) (envelope : Envelope T Kind Op Delta) (message : Sent Op) : Type 0 where
    pub told_entries : List (sending.Keyed (model.Entry Op))
    pub entries_stand : TellsEntries ghosts kinds logs keys (record { key = key; item = envelope } ∷ []) told_entries
    pub is : message ≡ write_told op told_entries

  pub record TellsAnswer (op : ℕ) (key : Text) (envelope : Option (Envelope T Kind Op Delta)) (message : Sent Op) : Type 0 where
    pub entry : Option (model.Entry Op)
    pub entries_stand : TellsEntries ghosts kinds logs keys (keyed_envelope key envelope) (keyed_entry_of key entry)
    pub is : message ≡ Sent.ReadAnswer op key entry

module _ {T Kind Op Delta : Type 0} {ghosts : Ghosts T Kind Op Delta} (kinds : Text → Kind) (logs : Text → History Op) (keys : List (KeyState T Kind Op Delta)) where
  -- what a member with these keys takes of a message
  abbrev pub StandsForTaken : Message T Kind Op Delta ghosts → Sent Op → Type 0
  StandsForTaken (Deltas groups entries) message = TellsDeltas kinds logs keys groups entries message
  StandsForTaken (Nack keys) message = message ≡ Sent.Nack keys
  StandsForTaken (Status digests) message = message ≡ Sent.Status (map digest_told digests)
  StandsForTaken (Gossip entries wants) message = TellsGossip ghosts kinds logs keys entries wants message
  StandsForTaken (Write op key envelope) message = TellsWrite ghosts kinds logs keys op key envelope message
  StandsForTaken (WriteAck op) message = message ≡ Sent.WriteAck op
  StandsForTaken (WriteNack op) message = message ≡ Sent.WriteNack op
  StandsForTaken (Read op key) message = message ≡ Sent.Read op key
  StandsForTaken (ReadAnswer op key envelope) message = TellsAnswer ghosts kinds logs keys op key envelope message

  pub record StandsForTake (from : ℕ) (message : Message T Kind Op Delta ghosts) (sent : nodes.Input Op) : Type 0 where
    pub told : Sent Op
    pub is : sent ≡ nodes.Input.Take from told
    pub message_stands : StandsForTaken message told

  abbrev pub StandsForInput : Input T Kind Op Delta ghosts → nodes.Input Op → Type 0
  StandsForInput (input.Update key op level) sent = sent ≡ nodes.Input.Update key op (level_meant level)
  StandsForInput (input.Get key level) sent = sent ≡ nodes.Input.Get key (level_meant level)
  StandsForInput (input.Take from message) sent = StandsForTake from message sent
  StandsForInput (input.Install view) sent = sent ≡ nodes.Input.Install view
  StandsForInput input.Flush sent = sent ≡ nodes.Input.Flush
  StandsForInput (input.GossipTo id) sent = sent ≡ nodes.Input.GossipTo id
  StandsForInput input.PruneTick sent = sent ≡ nodes.Input.PruneTick
  StandsForInput (input.Timeout op) sent = sent ≡ nodes.Input.Timeout op
