-- What installing a view makes of a key's entry.
use Rattle.std.specs.Prelude.{◌≡◌, ℕ, Option, Some}
use Rattle.model_history.specs.History.{History}
use Rattle.model_members.specs.Entry as model
use Rattle.model_members.specs.Entry.{seen_by}
use Rattle.data_markers.specs.Marks.{performed_in}
use Rattle.data_lattice.specs.declared.replica.Replica.{Ghosts}
use Rattle.data_envelope.specs.declared.envelope.Envelope.{Envelope}
use Rattle.data_envelope.specs.Images.{StandsFor}
use Rattle.data_envelope.specs.Words.{parts_of}
use Rattle.member_node.specs.declared.key.KeyState.{KeyState}
use Rattle.member_node.specs.declared.change.Change.{Change}
use Rattle.member_node.specs.declared.change.Change.TheVariants.{Entry}

module _ {T Kind Op Delta : Type 0} (ghosts : Ghosts T Kind Op Delta) (id view : ℕ) where
  -- the same data and records, and the marks with this member
  pub record IsSeenEntry (old new : Envelope T Kind Op Delta) : Type 0 where
    pub value : (parts_of new).value ≡ (parts_of old).value
    pub versions : (parts_of new).versions ≡ (parts_of old).versions
    pub performed : (r : ℕ) → performed_in (parts_of new).marks r ≡ performed_in (parts_of old).marks r
    pub image : (log : History Op) (entry : model.Entry Op) → StandsFor ghosts.IsDataOf (parts_of old) log entry → StandsFor ghosts.IsDataOf (parts_of new) log (seen_by id view entry)

  abbrev pub IsSeen : KeyState T Kind Op Delta → Option (Change T Kind Op Delta) → Type 0
  IsSeen state (Some (Entry entry)) = IsSeenEntry state.entry entry
  IsSeen state _ = ⊥
