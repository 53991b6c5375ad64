-- What messages of the program stand for in the model.
--     StandsForEntry, StandsForKeyed        an envelope of a key stands for an entry
--     StandsForKeyedGroup        a delta of a key, with its numbers, is a group of the key's log
--     StandsForMessage, StandsForPosts        each group and each entry that is sent stands for the model's, and the keys are equal
use Rattle.std.specs.Prelude.{◌≡◌, ℕ, List, true, Some, None, map}
use Rattle.std.specs.List.{AllZip}
use Rattle.model_history.specs.Texts.{Text}
use Rattle.model_history.specs.Vector.{VersionVector, IdentitySet}
use Rattle.model_history.specs.History.{History}
use Rattle.model_members.specs.Entry as model
use Rattle.model_members.specs.Entry.{Entry}
use Rattle.model_members.specs.Message as sending
use Rattle.model_members.specs.Message.{Message as Sent}
use Rattle.data_lattice.specs.declared.replica.Replica.{Ghosts}
use Rattle.data_envelope.specs.declared.envelope.Envelope.{Envelope}
use Rattle.data_envelope.specs.declared.group.Group.{Group}
use Rattle.data_envelope.specs.Images.{StandsFor, StandsForGroup}
use Rattle.data_envelope.specs.Words.{parts_of, group_parts}
use Rattle.member_messages.specs.declared.message.Keyed.{Keyed}
use Rattle.member_messages.specs.declared.message.Message.{Message}
use Rattle.member_messages.specs.declared.message.Message.TheVariants.{Deltas, Nack, Status, Gossip, Write, WriteAck, WriteNack, Read, ReadAnswer}
use Rattle.member_messages.specs.declared.message.Post.{Post}

-- a digest of a key, as the model says it
abbrev pub digest_told : Keyed (List ℕ) → sending.Keyed (List ℕ)
digest_told keyed = record { key = keyed.key; item = keyed.item }

module _ {T Kind Op Delta : Type 0} (kind_of : T → Kind) (IsDataOf : T → History Op → VersionVector → IdentitySet → Type 0) (kinds : Text → Kind) (logs : Text → History Op) where
  -- an envelope of a key stands for an entry
  pub record StandsForEntry (key : Text) (envelope : Envelope T Kind Op Delta) (entry : Entry Op) : Type 0 where
    pub kind : kind_of envelope.value ≡ kinds key
    pub image : StandsFor IsDataOf (parts_of envelope) (logs key) entry

  pub record StandsForKeyed (keyed : Keyed (Envelope T Kind Op Delta)) (entry : sending.Keyed (Entry Op)) : Type 0 where
    pub same : entry.key ≡ keyed.key
    pub held : StandsForEntry keyed.key keyed.item entry.item

  pub record StandsForGossip (entries : List (Keyed (Envelope T Kind Op Delta))) (wants : List Text) (message : Sent Op) : Type 0 where
    pub sent_entries : List (sending.Keyed (Entry Op))
    pub is : message ≡ Sent.Gossip sent_entries wants
    pub entries_stand : AllZip StandsForKeyed entries sent_entries

  pub record StandsForWrite (op : ℕ) (key : Text) (envelope : Envelope T Kind Op Delta) (message : Sent Op) : Type 0 where
    pub entry : Entry Op
    pub is : message ≡ Sent.Write op key entry
    pub held : StandsForEntry key envelope entry

  -- an answer with an entry
  pub record StandsForAnswer (op : ℕ) (key : Text) (envelope : Envelope T Kind Op Delta) (message : Sent Op) : Type 0 where
    pub entry : Entry Op
    pub is : message ≡ Sent.ReadAnswer op key (Some entry)
    pub held : StandsForEntry key envelope entry

module _ {T Kind Op Delta : Type 0} {ghosts : Ghosts T Kind Op Delta} (kinds : Text → Kind) (logs : Text → History Op) where
  -- a group of a key, whose delta is of the key's kind
  pub record StandsForKeyedGroup (keyed : Keyed (Group T Kind Op Delta ghosts)) (group : sending.Keyed (model.Group Op)) : Type 0 where
    pub same : group.key ≡ keyed.key
    pub fits : ghosts.delta_fits_kind (kinds keyed.key) keyed.item.delta ≡ true
    pub image : StandsForGroup ghosts.IsDeltaOf (group_parts keyed.item) (logs keyed.key) group.item

module _ {T Kind Op Delta : Type 0} {ghosts : Ghosts T Kind Op Delta} (kind_of : T → Kind) (IsDataOf : T → History Op → VersionVector → IdentitySet → Type 0) (kinds : Text → Kind) (logs : Text → History Op) where
  pub record StandsForDeltas (groups : List (Keyed (Group T Kind Op Delta ghosts))) (entries : List (Keyed (Envelope T Kind Op Delta))) (message : Sent Op) : Type 0 where
    pub sent_groups : List (sending.Keyed (model.Group Op))
    pub sent_entries : List (sending.Keyed (Entry Op))
    pub is : message ≡ Sent.Deltas sent_groups sent_entries
    pub groups_stand : AllZip (StandsForKeyedGroup kinds logs) groups sent_groups
    pub entries_stand : AllZip (StandsForKeyed kind_of IsDataOf kinds logs) entries sent_entries

  abbrev pub StandsForMessage : Message T Kind Op Delta ghosts → Sent Op → Type 0
  StandsForMessage (Deltas groups entries) message = StandsForDeltas groups entries message
  StandsForMessage (Nack keys) message = message ≡ Sent.Nack keys
  StandsForMessage (Status digests) message = message ≡ Sent.Status (map digest_told digests)
  StandsForMessage (Gossip entries wants) message = StandsForGossip kind_of IsDataOf kinds logs entries wants message
  StandsForMessage (Write op key envelope) message = StandsForWrite kind_of IsDataOf kinds logs op key envelope message
  StandsForMessage (WriteAck op) message = message ≡ Sent.WriteAck op
  StandsForMessage (WriteNack op) message = message ≡ Sent.WriteNack op
  StandsForMessage (Read op key) message = message ≡ Sent.Read op key
  StandsForMessage (ReadAnswer op key None) message = message ≡ Sent.ReadAnswer op key None
  StandsForMessage (ReadAnswer op key (Some envelope)) message = StandsForAnswer kind_of IsDataOf kinds logs op key envelope message

  pub record StandsForPost (post : Post T Kind Op Delta ghosts) (sent : sending.Post Op) : Type 0 where
    pub to : sent.to ≡ post.to
    pub message : StandsForMessage post.message sent.message

  -- message by message
  abbrev pub StandsForPosts : List (Post T Kind Op Delta ghosts) → List (sending.Post Op) → Type 0
  StandsForPosts posts sent = AllZip StandsForPost posts sent
