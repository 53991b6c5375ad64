-- What messages bring, and what is printed of them.
use Rattle.std.specs.Prelude.{ℕ, List, [], length}
use Rattle.model_history.specs.Texts.{Text}
use Rattle.data_lattice.specs.declared.replica.Replica.{Ghosts}
use Rattle.data_envelope.specs.declared.envelope.Envelope.{Envelope}
use Rattle.data_envelope.specs.declared.group.Group.{Group}
use Rattle.member_messages.specs.declared.message.Keyed.{Keyed}
use Rattle.member_messages.specs.declared.message.Message.{Message}
use Rattle.member_messages.specs.declared.message.Message.TheVariants.{Deltas, Nack, Status, Gossip, Write, WriteAck, WriteNack, Read, ReadAnswer}
use Rattle.member_messages.specs.declared.sketch.MessageKind.{MessageKind}
use Rattle.member_messages.specs.declared.sketch.MessageKind.TheVariants as kind
use Rattle.member_messages.specs.declared.sketch.Sketch.{Sketch}

-- a kind alone
abbrev pub bare : MessageKind → Sketch
bare kind = record { kind = kind; first = 0; second = 0 }

module _ {T Kind Op Delta : Type 0} {ghosts : Ghosts T Kind Op Delta} where
  abbrev pub sketch_of : Message T Kind Op Delta ghosts → Sketch
  sketch_of (Deltas groups entries) = record { kind = kind.Deltas; first = length groups; second = length entries }
  sketch_of (Nack keys) = record { kind = kind.Nack; first = length keys; second = 0 }
  sketch_of (Status digests) = record { kind = kind.Status; first = length digests; second = 0 }
  sketch_of (Gossip entries wants) = record { kind = kind.Gossip; first = length entries; second = length wants }
  sketch_of (Write op key envelope) = bare kind.Write
  sketch_of (WriteAck op) = bare kind.WriteAck
  sketch_of (WriteNack op) = bare kind.WriteNack
  sketch_of (Read op key) = bare kind.Read
  sketch_of (ReadAnswer op key envelope) = bare kind.ReadAnswer

  -- the groups that a message brings
  abbrev pub groups_of : Message T Kind Op Delta ghosts → List (Keyed (Group T Kind Op Delta ghosts))
  groups_of (Deltas groups entries) = groups
  groups_of _ = []

  -- the entries that a message lists
  abbrev pub entries_of : Message T Kind Op Delta ghosts → List (Keyed (Envelope T Kind Op Delta))
  entries_of (Deltas groups entries) = entries
  entries_of (Gossip entries wants) = entries
  entries_of _ = []

  -- the keys whose entries it asks for
  abbrev pub names_of : Message T Kind Op Delta ghosts → List Text
  names_of (Nack keys) = keys
  names_of (Gossip entries wants) = wants
  names_of _ = []

  -- the digests that it brings
  abbrev pub digests_of : Message T Kind Op Delta ghosts → List (Keyed (List ℕ))
  digests_of (Status digests) = digests
  digests_of _ = []
