-- When every operation of a section's clients finishes.
use Rattle.std.specs.Prelude.{◌≡◌, ℕ, List, ◌++◌, false, Some, slice_get}
use Rattle.std.specs.List.{AllByRecursion}
use Rattle.model_members.specs.DataType.{Replication}
use Rattle.model_members.specs.Node.{Finished}
use Rattle.model_members.specs.Script.{Playing}
use Rattle.model_members.specs.World.{Event}
use Rattle.theorem_operations.specs.Finishing.{HasNotFailed}
use Rattle.theorem_operations.specs.Quorum.{AllInstalled}
use Rattle.theorem_sections.specs.Sections.{Client, Made, Section, Ending, OfEverySection, pending_op, some_full, world_of, client_line}

-- the store of a member that steps does not fail
abbrev pub StoreHolds : {Op : Type 0} → Event Op → Type 0
StoreHolds (Event.InputAt i input fate) = HasNotFailed fate
StoreHolds (Event.Delivery from to index fate) = HasNotFailed fate
StoreHolds _ = Unit {0}

module _ {Kind Op Shown : Type 0} (D : Replication Kind Op Shown) (before : Playing Kind Op Shown) (end : Section Kind Op Shown) where
  -- all running members have the last view installed before it, no store fails in it, and no running member is full at its end
  pub record IsUndisturbed : Type 0 where
    pub installed : AllInstalled before.world
    pub stores : (events : List (Event Op)) → end.playing.events ≡ before.events ++ events → AllByRecursion StoreHolds events
    pub room : some_full D (world_of end) ≡ false

module _ {Kind Op Shown : Type 0} (before : Playing Kind Op Shown) (end : Section Kind Op Shown) where
  -- the line of each command that opened an operation tells how it finished
  abbrev pub AllFinish : Type 0
  AllFinish =
      (c k op : ℕ) (client : Client Op Shown) (made : Made Op Shown) → slice_get end.clients c ≡ Some client → slice_get client.made k ≡ Some made → pending_op made.line.answer ≡ Some op
      → (finished : Finished Shown) × ((client_line (world_of end) c made).ended ≡ Some (Ending.Ended finished))

-- in every section from here that nothing disturbs, each operation of a client finishes
abbrev pub SectionsFinish : {Kind Op Shown : Type 0} → Replication Kind Op Shown → Playing Kind Op Shown → Type 0
SectionsFinish D before = OfEverySection D before (λ clients moves end. IsUndisturbed D before end → AllFinish before end)
