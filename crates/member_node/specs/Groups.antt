-- What taking delta groups comes to, in all logs and for all members of the model.
--     TellsPassedOver        whether the model passes a group over
--     MeansGroupTaken        by an envelope
--     MeansGroupTakenAt, MeansGroupsTaken, MeansGaps        by the keys
--     PassesGroupOver        a group of no declared key, or of another kind, changes nothing
use Rattle.std.specs.Prelude.{◌≡◌, ℕ, List, Option, Bool, true, map}
use Rattle.model_history.specs.Texts.{Text}
use Rattle.model_history.specs.History.{History}
use Rattle.model_members.specs.Entry as model
use Rattle.model_members.specs.Message as sending
use Rattle.model_members.specs.Node.{Node}
use Rattle.model_members.specs.Step.{AfterGroups, is_group_passed_over, take_group, after_groups}
use Rattle.model_kinds.specs.declared.shown.Shown.{Shown}
use Rattle.data_lattice.specs.declared.replica.Replica.{Ghosts}
use Rattle.data_envelope.specs.declared.envelope.Envelope.{Envelope}
use Rattle.data_envelope.specs.declared.group.Group.{Group}
use Rattle.data_envelope.specs.Images.{StandsFor, StandsForGroup}
use Rattle.data_envelope.specs.Words.{parts_of, group_parts}
use Rattle.member_messages.specs.declared.message.Keyed.{Keyed}
use Rattle.member_messages.specs.Standing.{StandsForKeyedGroup}
use Rattle.member_node.specs.declared.key.KeyState.{KeyState}
use Rattle.member_node.specs.declared.change.Change.{Change}
use Rattle.member_node.specs.declared.groups.GroupTaken.{GroupTaken}
use Rattle.member_node.specs.Own.{AreOfTheirKinds}
use Rattle.member_node.specs.Changes.{AreMade}
use Rattle.member_node.specs.Inputs.{IsGroupPassedOver, TellsGroups}
use Rattle.member_node.specs.Taking.{IsKept, StandsAfter, AreHeld, IsAtWork, judged_for, entry_after, lacking_in, gap_told}

module _ {T Kind Op Delta : Type 0} (ghosts : Ghosts T Kind Op Delta) (id : ℕ) where
  -- it is told whether the model passes the group over
  abbrev pub TellsPassedOver : Envelope T Kind Op Delta → Group T Kind Op Delta ghosts → Bool → Type 0
  TellsPassedOver mine group told =
      (log : History Op) (before : model.Entry Op) (theirs : model.Group Op) → StandsFor ghosts.IsDataOf (parts_of mine) log before → StandsForGroup ghosts.IsDeltaOf (group_parts group) log theirs
      → told ≡ is_group_passed_over id before theirs

  -- a group of the same kind is taken as the model judges it
  abbrev pub MeansGroupTaken : Envelope T Kind Op Delta → Group T Kind Op Delta ghosts → GroupTaken T Kind Op Delta → Type 0
  MeansGroupTaken mine group taken =
      (log : History Op) (before : model.Entry Op) (theirs : model.Group Op) → ghosts.delta_fits_kind (ghosts.kind_of mine.value) group.delta ≡ true
      → StandsFor ghosts.IsDataOf (parts_of mine) log before → StandsForGroup ghosts.IsDeltaOf (group_parts group) log theirs
      → StandsAfter ghosts.IsDataOf log taken.entry before (entry_after before theirs (judged_for id before theirs)) × (taken.lacking ≡ lacking_in (judged_for id before theirs))

module _ {T Kind Op Delta : Type 0} (ghosts : Ghosts T Kind Op Delta) (id : ℕ) (keys : List (KeyState T Kind Op Delta)) where
  -- the changes and the gaps are those of the member that has taken the group too
  abbrev pub MeansGroupTakenAt : Keyed (Group T Kind Op Delta ghosts) → (old : List (Option (Change T Kind Op Delta))) → (before : List (Keyed ℕ)) → (new : List (Option (Change T Kind Op Delta))) → (after : List (Keyed ℕ)) → Type 0
  MeansGroupTakenAt keyed old before new after =
      (kinds : Text → Kind) (logs : Text → History Op) (view : ℕ) (entries : Text → model.Entry Op) (so_far : AfterGroups Kind Op Shown) (sent : sending.Keyed (model.Group Op))
      → AreHeld ghosts.kind_of ghosts.IsDataOf kinds logs id keys entries → AreMade (IsKept ghosts.kind_of id) keys old → StandsForKeyedGroup kinds logs keyed sent
      → IsAtWork ghosts.kind_of ghosts.IsDataOf kinds logs id keys view entries old so_far.node → before ≡ map gap_told so_far.gaps
      → IsAtWork ghosts.kind_of ghosts.IsDataOf kinds logs id keys view entries new (take_group so_far sent).node × (after ≡ map gap_told (take_group so_far sent).gaps)

  -- a group of no declared key, or of another kind, changes nothing
  abbrev pub PassesGroupOver : Keyed (Group T Kind Op Delta ghosts) → (old : List (Option (Change T Kind Op Delta))) → (before : List (Keyed ℕ)) → (new : List (Option (Change T Kind Op Delta))) → (after : List (Keyed ℕ)) → Type 0
  PassesGroupOver keyed old before new after =
      AreOfTheirKinds ghosts.kind_of keys → AreMade (IsKept ghosts.kind_of id) keys old → IsGroupPassedOver ghosts keys keyed → (new ≡ old) × (after ≡ before)

  -- the changes lead to the member that has taken the groups of a message
  abbrev pub MeansGroupsTaken : List (Keyed (Group T Kind Op Delta ghosts)) → (old new : List (Option (Change T Kind Op Delta))) → Type 0
  MeansGroupsTaken groups old new =
      (kinds : Text → Kind) (logs : Text → History Op) (view : ℕ) (entries : Text → model.Entry Op) (node : Node Kind Op Shown) (sent : List (sending.Keyed (model.Group Op)))
      → AreOfTheirKinds ghosts.kind_of keys → AreHeld ghosts.kind_of ghosts.IsDataOf kinds logs id keys entries → AreMade (IsKept ghosts.kind_of id) keys old → TellsGroups ghosts kinds logs keys groups sent
      → IsAtWork ghosts.kind_of ghosts.IsDataOf kinds logs id keys view entries old node → IsAtWork ghosts.kind_of ghosts.IsDataOf kinds logs id keys view entries new (after_groups node sent).node

  -- and the gaps are those that it met
  abbrev pub MeansGaps : List (Keyed (Group T Kind Op Delta ghosts)) → (old : List (Option (Change T Kind Op Delta))) → List (Keyed ℕ) → Type 0
  MeansGaps groups old gaps =
      (kinds : Text → Kind) (logs : Text → History Op) (view : ℕ) (entries : Text → model.Entry Op) (node : Node Kind Op Shown) (sent : List (sending.Keyed (model.Group Op)))
      → AreOfTheirKinds ghosts.kind_of keys → AreHeld ghosts.kind_of ghosts.IsDataOf kinds logs id keys entries → AreMade (IsKept ghosts.kind_of id) keys old → TellsGroups ghosts kinds logs keys groups sent
      → IsAtWork ghosts.kind_of ghosts.IsDataOf kinds logs id keys view entries old node → gaps ≡ map gap_told (after_groups node sent).gaps
