-- What a member forgets of operations that ended.
--     forgetting        a member of the model without the ends of the first operations
--     IsOtherwiseAlike, StandsForgetting        the member is the same but for its operations, and stands for that one
use Rattle.std.specs.Prelude.{◌≡◌, ℕ, filter, nat_le}
use Rattle.model_history.specs.Texts.{Text}
use Rattle.model_history.specs.History.{History}
use Rattle.model_members.specs.Node as nodes
use Rattle.model_kinds.specs.declared.shown.Shown.{Shown}
use Rattle.data_lattice.specs.declared.replica.Replica.{Ghosts}
use Rattle.member_keeper.specs.declared.keeper.Keeper.{Ghosts as Keeping}
use Rattle.member_node.specs.declared.node.Node.{Node}
use Rattle.member_node.specs.Members.{StandsForNode}

-- the model's member without the ends of the operations below this number
abbrev pub forgetting : {Kind Op : Type 0} → ℕ → nodes.Node Kind Op Shown → nodes.Node Kind Op Shown
forgetting count node = record node { finished = filter (λ (f : nodes.Finished Shown). nat_le count f.op) node.finished }

module _ {T K Kind Op Delta : Type 0} {ghosts : Ghosts T Kind Op Delta} {keeping : Keeping K} where
  -- but for its operations
  pub record IsOtherwiseAlike (old new : Node T K Kind Op Delta ghosts keeping) : Type 0 where
    pub alloc : new.alloc ≡ old.alloc
    pub identity : new.id ≡ old.id
    pub view : new.view ≡ old.view
    pub keys : new.keys ≡ old.keys
    pub steps : new.steps ≡ old.steps
    pub limit : new.limit ≡ old.limit
    pub keeper : new.keeper ≡ old.keeper

  -- what it stood for without the ends that are forgotten, in all logs
  abbrev pub StandsForgetting : (old new : Node T K Kind Op Delta ghosts keeping) → Type 0
  StandsForgetting old new =
      (kinds : Text → Kind) (logs : Text → History Op) (node : nodes.Node Kind Op Shown) → StandsForNode ghosts.kind_of ghosts.IsDataOf kinds logs old node
      → StandsForNode ghosts.kind_of ghosts.IsDataOf kinds logs new (forgetting new.operations.forgotten node)
