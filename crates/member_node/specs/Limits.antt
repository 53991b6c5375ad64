-- A member with another limit of steps.
--     highest_limit        the highest that one can be given
--     IsLimited        the member that makes at most so many steps in all
use Rattle.std.specs.Prelude.{◌≡◌, ℕ, ◌^◌, min, max}
use Rattle.model_history.specs.Texts.{Text}
use Rattle.model_history.specs.History.{History}
use Rattle.model_members.specs.Node as nodes
use Rattle.model_kinds.specs.declared.shown.Shown.{Shown}
use Rattle.data_lattice.specs.declared.replica.Replica.{Ghosts}
use Rattle.member_keeper.specs.declared.keeper.Keeper.{Ghosts as Keeping}
use Rattle.member_node.specs.declared.node.Node.{Node}
use Rattle.member_node.specs.Members.{StandsForNode}

abbrev pub highest_limit : ℕ
highest_limit = 2 ^ 54

module _ {T K Kind Op Delta : Type 0} {ghosts : Ghosts T Kind Op Delta} {keeping : Keeping K} where
  -- the number that was asked for, but no less than the steps that were made, and at most the highest. All else is as it was,
  -- and the member stands for the members of the model for which it stood
  pub record IsLimited (old : Node T K Kind Op Delta ghosts keeping) (limit : ℕ) (new : Node T K Kind Op Delta ghosts keeping) : Type 0 where
    pub limit_is : new.limit ≡ max old.steps (min limit highest_limit)
    pub steps : new.steps ≡ old.steps
    pub identity : new.id ≡ old.id
    pub viewed : new.view ≡ old.view
    pub keys : new.keys ≡ old.keys
    pub operations : new.operations ≡ old.operations
    pub keeper : new.keeper ≡ old.keeper
    pub stands : (kinds : Text → Kind) (logs : Text → History Op) (node : nodes.Node Kind Op Shown) → StandsForNode ghosts.kind_of ghosts.IsDataOf kinds logs old node → StandsForNode ghosts.kind_of ghosts.IsDataOf kinds logs new node
