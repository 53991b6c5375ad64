-- What a flush of a member tells, by the histories that it holds.
--     IsLook        what is found at a key is what the member holds of it
--     IsToldBy        the notices are those of the model, and so are the subscriptions after them
use Rattle.std.specs.Prelude.{◌≡◌, List, Option}
use Rattle.model_history.specs.Texts.{Text}
use Rattle.model_history.specs.History.{History}
use Rattle.model_members.specs.Node as nodes
use Rattle.model_kinds.specs.declared.shown.Shown.{Shown}
use Rattle.data_lattice.specs.declared.replica.Replica.{Ghosts}
use Rattle.member_keeper.specs.declared.keeper.Keeper.{Ghosts as Keeping}
use Rattle.member_node.specs.declared.node.Node.{Node}
use Rattle.member_node.specs.Members.{StandsForNode}
use Rattle.member_desk.specs.declared.followed.Followed.{Followed}
use Rattle.member_desk.specs.declared.look.Told.{Told}
use Rattle.member_desk.specs.declared.look.Look.{Look}
use Rattle.member_desk.specs.declared.notice.Notice.{Notice}
use Rattle.member_desk.specs.Notices.{notices_of, told_after}
use Rattle.member_desk.specs.Looks.{found_by}
use Rattle.member_desk.specs.Histories.{shows_history, held_at, StandsForTold, StandsForDesk}

module _ {T K Kind Op Delta : Type 0} {ghosts : Ghosts T Kind Op Delta} {keeping : Keeping K} (code : Node T K Kind Op Delta ghosts keeping) where
  -- whatever history was told, what is found is what the member holds
  abbrev pub IsLook : Followed Told → Look → Type 0
  IsLook followed look =
      (kinds : Text → Kind) (logs : Text → History Op) (node : nodes.Node Kind Op Shown) (told : Option (History Op)) → StandsForNode ghosts.kind_of ghosts.IsDataOf kinds logs code node
      → StandsForTold (shows_history ghosts.data_type kinds followed.key) (logs followed.key) followed.told told
      → StandsForTold (shows_history ghosts.data_type kinds followed.key) (logs followed.key) (found_by followed.told look) (held_at node followed.key)

  -- for every member and every desk of the model for which these stand, in all logs
  abbrev pub IsToldBy : (old : List (Followed Told)) → List Notice → (new : List (Followed Told)) → Type 0
  IsToldBy old notices new =
      (kinds : Text → Kind) (logs : Text → History Op) (node : nodes.Node Kind Op Shown) (desk : List (Followed (History Op))) → StandsForNode ghosts.kind_of ghosts.IsDataOf kinds logs code node
      → StandsForDesk ghosts.data_type kinds logs old desk
      → (notices ≡ notices_of (shows_history ghosts.data_type kinds) (held_at node) desk) × StandsForDesk ghosts.data_type kinds logs new (told_after (held_at node) desk)
