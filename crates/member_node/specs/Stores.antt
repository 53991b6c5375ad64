-- What a keeper has of a member's durable entries.
--     spelled_entry        an entry, as it is stored
--     IsKept        an entry that can be spelled and read again
--     SpellsStore        a table has the spellings of a store's entries
--     AreFit        what a new member may load
use Rattle.std.specs.Prelude.{◌≡◌, ◌≢◌, ℕ, ◌<◌, List, true, Some, All, Any}
use Rattle.model_history.specs.Texts.{Text}
use Rattle.model_history.specs.History.{History, at}
use Rattle.model_members.specs.Entry.{Entry, Mark}
use Rattle.model_members.specs.Node as nodes
use Rattle.model_members.specs.World.{Store}
use Rattle.data_lattice.specs.declared.replica.Replica.{Ghosts}
use Rattle.data_lattice.specs.declared.spelled.SpelledData.{Ghosts as Spelling}
use Rattle.data_envelope.specs.Images.{Parts, StandsFor}
use Rattle.data_codec.specs.Envelopes.{IsEnvelope}
use Rattle.data_codec.specs.Stored.{entry_stored}
use Rattle.member_keeper.specs.declared.stored.Stored.{Stored}
use Rattle.member_keeper.specs.Tables.{Table}
use Rattle.member_node.specs.declared.key.KeyState.{KeyState}

module _ {T Kind Op Delta : Type 0} (spelling : Spelling T Kind Op Delta) where
  abbrev pub spelled_entry : nodes.KeyState Kind Op → Stored
  spelled_entry k = record { key = k.name; bytes = entry_stored spelling.history_byte spelling.history_spelled k.kind k.entry }

module _ {T Kind Op Delta : Type 0} (ghosts : Ghosts T Kind Op Delta) (spelling : Spelling T Kind Op Delta) where
  -- an envelope stands for the entry that can be spelled, and read again
  pub record IsKept (kind : Kind) (log : History Op) (entry : Entry Op) : Type 0 where
    pub parts : Parts T
    pub of_kind : ghosts.kind_of parts.value ≡ kind
    pub image : StandsFor ghosts.IsDataOf parts log entry
    pub readable : IsEnvelope spelling.IsSound ghosts.mentioned parts

  -- what stands at a key is the spelling of the entry that the store has there
  pub record SpellsEntry (kinds : Text → Kind) (logs : Text → History Op) (store : Store Op) (stored : Stored) : Type 0 where
    pub entry : Entry Op
    pub has : store stored.key ≡ Some entry
    pub bytes : stored.bytes ≡ entry_stored spelling.history_byte spelling.history_spelled (kinds stored.key) entry
    pub kept : IsKept (kinds stored.key) (logs stored.key) entry

  -- and each entry of the store is spelled
  pub record SpellsStore (kinds : Text → Kind) (logs : Text → History Op) (table : Table) (store : Store Op) : Type 0 where
    pub each : All (SpellsEntry kinds logs store) table
    pub all : (key : Text) (entry : Entry Op) → store key ≡ Some entry → Any (λ stored. stored.key ≡ key) table

-- an identity that was given, and is another than the new one
pub record IsEarlier (id given i : ℕ) : Type 0 where
  pub below : i < given
  pub other : i ≢ id

-- the entry names earlier identities alone: in its records and in its marks
pub record IsFit {Op : Type 0} (id given : ℕ) (entry : Entry Op) : Type 0 where
  pub counted : (i : ℕ) → 0 < at entry.history i → IsEarlier id given i
  pub marked : (r : ℕ) (mark : Mark) → entry.marks r ≡ Some mark → IsEarlier id given r × IsEarlier id given mark.owner
  pub seen : (r : ℕ) (mark : Mark) (i : ℕ) → entry.marks r ≡ Some mark → mark.seen i ≡ true → IsEarlier id given i

module _ {T Kind Op Delta : Type 0} (keys : List (KeyState T Kind Op Delta)) where
  abbrev pub IsDurable : Text → Type 0
  IsDurable key = Any (λ state. (state.name ≡ key) × (state.durable ≡ true)) keys

  -- each entry is one of a durable key, and fit
  abbrev pub AreFit : (id given : ℕ) → Store Op → Type 0
  AreFit id given store = (key : Text) (entry : Entry Op) → store key ≡ Some entry → IsDurable key × IsFit id given entry
