-- What carrying out a plan makes of a member.
use Rattle.std.specs.Prelude.{◌≡◌, ◌+◌, List, [], Option, unwrap_or}
use Rattle.model_members.specs.View.{View}
use Rattle.data_lattice.specs.declared.replica.Replica.{Ghosts}
use Rattle.data_lattice.specs.declared.spelled.SpelledData.{Ghosts as Spelling}
use Rattle.member_keeper.specs.declared.keeper.Keeper.{Ghosts as Keeping}
use Rattle.member_keeper.specs.declared.stored.Stored.{Stored}
use Rattle.member_node.specs.declared.node.Node.{Node}
use Rattle.member_node.specs.declared.plan.Plan.{Plan}
use Rattle.member_node.specs.declared.reply.Fate.{Fate}
use Rattle.member_node.specs.declared.operations.OperationChange.{OperationChange}
use Rattle.member_node.specs.Operations.{known, after_store, changed_operations}
use Rattle.member_node.specs.Planning.{IsPlanned}
use Rattle.member_node.specs.Answerable.{StoresNothing}
use Rattle.member_node.specs.Storing.{AreStores}
use Rattle.member_node.specs.Steps.{IsKeptBy}

module _ {T K Kind Op Delta : Type 0} {ghosts : Ghosts T Kind Op Delta} {keeping : Keeping K} where
  pub record IsCommitted (old : Node T K Kind Op Delta ghosts keeping) (view : Option View) (plan : Plan T Kind Op Delta) (operations : OperationChange) (new : Node T K Kind Op Delta ghosts keeping) : Type 0 where
    pub planned : IsPlanned old.keys.items plan new.keys.items
    pub operated : known new.operations ≡ changed_operations (known old.operations) operations
    pub viewed : new.view ≡ unwrap_or view old.view
    pub counted : new.steps ≡ old.steps + 1
    pub limit : new.limit ≡ old.limit
    pub identity : new.id ≡ old.id
    pub keeper : new.keeper ≡ old.keeper

  -- and the keeper was given what the plan has to store
  pub record IsCarried (spelling : Spelling T Kind Op Delta) (old : Node T K Kind Op Delta ghosts keeping) (view : Option View) (plan : Plan T Kind Op Delta) (operations : OperationChange) (fate : Fate) (new : Node T K Kind Op Delta ghosts keeping) : Type 0 where
    pub planned : IsPlanned old.keys.items plan new.keys.items
    pub operated : known new.operations ≡ changed_operations (known old.operations) (after_store fate operations)
    pub viewed : new.view ≡ unwrap_or view old.view
    pub counted : new.steps ≡ old.steps + 1
    pub limit : new.limit ≡ old.limit
    pub identity : new.id ≡ old.id
    pub items : List Stored
    pub stores : AreStores ghosts spelling old.keys.items plan items
    pub nothing : StoresNothing plan → items ≡ []
    pub kept : IsKeptBy keeping items fate old.keeper new.keeper
