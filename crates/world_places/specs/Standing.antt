-- What members, keepers and links of the program stand for in the model.
--     StandsForLink        a channel has the messages of a link, one for one, and the same next number
--     TellsStore        a keeper's table, if it is told, spells a store
--     StandsForRunning        a member runs exactly where one of the model does
use Rattle.std.specs.Prelude.{◌≡◌, Option, Some, None}
use Rattle.std.specs.List.{AllZip}
use Rattle.model_history.specs.Texts.{Text}
use Rattle.model_history.specs.History.{History}
use Rattle.model_members.specs.Node as nodes
use Rattle.model_members.specs.World.{Link, Store}
use Rattle.model_kinds.specs.declared.shown.Shown.{Shown}
use Rattle.data_lattice.specs.declared.replica.Replica.{Ghosts}
use Rattle.data_lattice.specs.declared.spelled.SpelledData.{Ghosts as Spelling}
use Rattle.member_keeper.specs.declared.keeper.Keeper.{Ghosts as Keeping}
use Rattle.member_keeper.specs.Tables.{Table, IsTable}
use Rattle.member_messages.specs.declared.message.Message.{Message}
use Rattle.member_node.specs.declared.node.Node.{Node}
use Rattle.member_node.specs.Members.{StandsForNode, StandsForMessage}
use Rattle.member_node.specs.Stores.{SpellsStore}
use Rattle.world_places.specs.Channels.{Channel}

-- LINKS

module _ {T Kind Op Delta : Type 0} {ghosts : Ghosts T Kind Op Delta} (kinds : Text → Kind) (logs : Text → History Op) where
  pub record StandsForChannel (channel : Channel (Message T Kind Op Delta ghosts)) (link : Link Op) : Type 0 where
    pub next : link.next ≡ channel.next
    pub messages : AllZip (StandsForMessage ghosts.kind_of ghosts.IsDataOf kinds logs) channel.messages link.messages

  -- there is a channel
  abbrev pub StandsForLink : Option (Channel (Message T Kind Op Delta ghosts)) → Link Op → Type 0
  StandsForLink None link = ⊥
  StandsForLink (Some channel) link = StandsForChannel channel link

-- MEMBERS AND KEEPERS

-- a table that is told is in the order of its keys, and the store's
abbrev pub TellsStore : {T K Kind Op Delta : Type 0} → Ghosts T Kind Op Delta → Keeping K → Spelling T Kind Op Delta → (Text → Kind) → (Text → History Op) → Option K → Store Op → Type 0
TellsStore ghosts keeping spelling kinds logs None store = Unit {0}
TellsStore ghosts keeping spelling kinds logs (Some keeper) store = (table : Table) → keeping.table keeper ≡ Some table → IsTable table × SpellsStore ghosts spelling kinds logs table store

module _ {T K Kind Op Delta : Type 0} {ghosts : Ghosts T Kind Op Delta} {keeping : Keeping K} (spelling : Spelling T Kind Op Delta) (kinds : Text → Kind) (logs : Text → History Op) where
  -- a member runs exactly where there is one
  abbrev pub StandsForRunning : Option (Node T K Kind Op Delta ghosts keeping) → Option (nodes.Node Kind Op Shown) → Type 0
  StandsForRunning None running = running ≡ None
  StandsForRunning (Some code) running = (node : nodes.Node Kind Op Shown) × (running ≡ Some node) × StandsForNode ghosts.kind_of ghosts.IsDataOf kinds logs code node
