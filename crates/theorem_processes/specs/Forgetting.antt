-- What a member of a process stands for, which may have forgotten how its first operations ended, and declared a part of the keys.
--     HasForgotten        what a member is once it forgot
--     AreLeft        the ends that are left of all
--     StandsInPart, StandsForProcess        a member of the model, but for the ends that were forgotten and the keys that are not declared
use Rattle.std.specs.Prelude.{◌≡◌, ℕ, ◌<◌, List, [], ◌∷◌, Option, Some, None}
use Rattle.model_history.specs.Texts.{Text}
use Rattle.model_history.specs.History.{History}
use Rattle.model_members.specs.Node as nodes
use Rattle.model_kinds.specs.declared.operation.Op.{Op}
use Rattle.model_kinds.specs.declared.shown.Shown.{Shown}
use Rattle.data_lattice.specs.declared.replica.Replica.{Ghosts}
use Rattle.member_keeper.specs.declared.keeper.Keeper.{Ghosts as Keeping}
use Rattle.member_node.specs.declared.node.Node.{Node}
use Rattle.member_node.specs.Ended.{forgotten_to}
use Rattle.member_node.specs.Forgetting.{IsOtherwiseAlike, StandsForgetting}
use Rattle.member_node.specs.Members.{StandsForNode}
use Rattle.theorem_declaring.specs.Parts.{with_keys, UsesOnly}
use Rattle.theorem_processes.specs.Declaring.{declared_keys}
use Rattle.theorem_processes.specs.Keys.{AsksOnly}

-- all ends in their order, but for some of operations below this number
pub data AreLeft (forgotten : ℕ) : List (nodes.Finished Shown) → List (nodes.Finished Shown) → Type 0 where
  nothing : AreLeft forgotten [] []
  kept : (end : nodes.Finished Shown) (left ends : List (nodes.Finished Shown)) → AreLeft forgotten left ends → AreLeft forgotten (end ∷ left) (end ∷ ends)
  lost : (end : nodes.Finished Shown) (left ends : List (nodes.Finished Shown)) → end.op < forgotten → AreLeft forgotten left ends → AreLeft forgotten left (end ∷ ends)

module _ {T K Kind Delta : Type 0} {ghosts : Ghosts T Kind Op Delta} {keeping : Keeping K} where
  -- a member that forgot how its operations below this number ended, as `Node::forget` says it
  pub record HasForgotten (before : ℕ) (old new : Node T K Kind Op Delta ghosts keeping) : Type 0 where
    pub same : IsOtherwiseAlike old new
    pub forgotten : new.operations.forgotten ≡ forgotten_to old.operations before
    pub stands : StandsForgetting old new

  module _ (kinds : Text → Kind) (logs : Text → History Op) (forgotten : ℕ) where
    -- the member stands for the model's with the ends that are left and the keys that it has declared. So all that it holds, says
    -- and posts is the model's, which holds nothing of the other keys; and `look` tells less of the operations below this number
    -- only. With 0 and all keys declared it stands for the model's member itself
    pub record StandsInPart (code : Node T K Kind Op Delta ghosts keeping) (node : nodes.Node Kind Op Shown) : Type 0 where
      pub ends : List (nodes.Finished Shown)
      pub left : AreLeft forgotten ends node.finished
      pub uses : UsesOnly (declared_keys code) node
      pub asks : AsksOnly (declared_keys code) node
      pub stands : StandsForNode ghosts.kind_of ghosts.IsDataOf kinds logs code (with_keys (declared_keys code) (record node { finished = ends }))

    -- a member runs exactly where the model has one
    abbrev pub StandsForProcess : Option (Node T K Kind Op Delta ghosts keeping) → Option (nodes.Node Kind Op Shown) → Type 0
    StandsForProcess None running = running ≡ None
    StandsForProcess (Some code) running = (node : nodes.Node Kind Op Shown) × (running ≡ Some node) × StandsInPart code node
