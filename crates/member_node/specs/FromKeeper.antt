-- What a member is that was made from a keeper.
--     IsFromKeeper, IsRefusedFrom        the new member, and the keeper that comes back
--     StandsForKept, KeepsUndamaged        what comes of a table that has the spellings of a store
use Rattle.std.specs.Prelude.{◌≡◌, ℕ, ◌≤◌, List, true, false, Some, map}
use Rattle.model_history.specs.Texts.{Text}
use Rattle.model_history.specs.History.{History, IsHistory}
use Rattle.base_outside.specs.Causes.{Rose}
use Rattle.model_members.specs.View.{View}
use Rattle.model_members.specs.World.{Store, loaded_node}
use Rattle.data_lattice.specs.declared.replica.Replica.{Ghosts}
use Rattle.data_lattice.specs.declared.spelled.SpelledData.{Ghosts as Spelling}
use Rattle.member_keeper.specs.declared.keeper.Keeper.{Ghosts as Keeping}
use Rattle.member_keeper.specs.Calls.{Becomes}
use Rattle.member_keeper.specs.Tables.{Table}
use Rattle.member_node.specs.declared.key.KeyDecl.{KeyDecl}
use Rattle.member_node.specs.declared.key.KeyState.{KeyState}
use Rattle.member_node.specs.declared.node.Node.{Node}
use Rattle.member_node.specs.Replies.{program_steps}
use Rattle.member_node.specs.declared.from_keeper.FromKeeperError.{FromKeeperError}
use Rattle.member_node.specs.declared.from_keeper.FromKeeperError.TheVariants.{LoadFailed, Damaged, Memory}
use Rattle.member_node.specs.Keys.{AreOfKinds, declared, declared_by}
use Rattle.member_node.specs.Loading.{IsFirstUnsound}
use Rattle.member_node.specs.Members.{StandsForNode}
use Rattle.member_node.specs.Stores.{SpellsStore, AreFit}
use Rattle.member_node.specs.Steps.{Answers, MayAnswer}

-- THE NEW MEMBER

module _ {T Kind Op Delta K : Type 0} {ghosts : Ghosts T Kind Op Delta} {keeping : Keeping K} where
  module _ (decls : List (KeyDecl T Kind Op Delta)) (keeper : K) (id : ℕ) (view : View) where
    -- the keeper was loaded, and its table stays
    pub record IsFromKeeper (new : Node T K Kind Op Delta ghosts keeping) : Type 0 where
      pub identity : new.id ≡ id
      pub viewed : new.view ≡ view
      pub keys : map declared_by new.keys.items ≡ map declared decls
      pub begins : new.steps ≡ 0
      pub limit : new.limit ≡ program_steps
      pub table : Becomes (keeping.table keeper) (keeping.table new.keeper) (λ table. table)
      pub answered : Answers keeping true keeper new.keeper
      pub later : keeping.faults keeper ≤ keeping.faults new.keeper

  -- where the keeper's table has the spellings of a store, the new member is the model's that has loaded this
  abbrev pub StandsForKept : Spelling T Kind Op Delta → List (KeyDecl T Kind Op Delta) → K → (id : ℕ) → View → Node T K Kind Op Delta ghosts keeping → Type 0
  StandsForKept spelling decls keeper id view new =
      (kinds : Text → Kind) (logs : Text → History Op) (table : Table) (store : Store Op) → keeping.table keeper ≡ Some table → AreOfKinds kinds decls → ((key : Text) → IsHistory (logs key))
      → SpellsStore ghosts spelling kinds logs table store → StandsForNode ghosts.kind_of ghosts.IsDataOf kinds logs new (loaded_node (map declared decls) id view store)

-- THE KEEPER THAT COMES BACK

module _ {K : Type 0} (keeping : Keeping K) (keeper : K) where
  -- what is told of it stays, and its count did not fall
  pub record KeepsTable (back : K) : Type 0 where
    pub table : Becomes (keeping.table keeper) (keeping.table back) (λ table. table)
    pub later : keeping.faults keeper ≤ keeping.faults back

  -- the keeper failed at a load, and only then its count rose for it
  abbrev pub IsRefusedFrom : FromKeeperError K → Type 0
  IsRefusedFrom (LoadFailed back) = KeepsTable back × Answers keeping false keeper back × Rose (keeping.faults keeper) (keeping.faults back)
  IsRefusedFrom (Damaged back key) = KeepsTable back × Answers keeping true keeper back
  IsRefusedFrom (Memory back) = KeepsTable back × MayAnswer keeping keeper back

module _ {T Kind Op Delta : Type 0} (ghosts : Ghosts T Kind Op Delta) (spelling : Spelling T Kind Op Delta) where
  -- of keys that are declared so, the first that may not be loaded
  pub record IsFirstUnsoundOf (decls : List (KeyDecl T Kind Op Delta)) (id given : ℕ) (table : Table) (key : Text) : Type 0 where
    pub keys : List (KeyState T Kind Op Delta)
    pub declared_so : map declared_by keys ≡ map declared decls
    pub first : IsFirstUnsound ghosts spelling keys id given table key

  module _ {K : Type 0} where
    abbrev pub IsFirstUnfitOf : List (KeyDecl T Kind Op Delta) → (id given : ℕ) → Table → FromKeeperError K → Type 0
    IsFirstUnfitOf decls id given table (LoadFailed back) = Unit {0}
    IsFirstUnfitOf decls id given table (Damaged back key) = IsFirstUnsoundOf decls id given table key
    IsFirstUnfitOf decls id given table (Memory back) = Unit {0}

    abbrev pub IsUndamagedFrom : FromKeeperError K → Type 0
    IsUndamagedFrom (LoadFailed back) = Unit {0}
    IsUndamagedFrom (Damaged back key) = ⊥
    IsUndamagedFrom (Memory back) = Unit {0}

    -- where the table has the spellings of a store that is fit for the new member, nothing is found damaged
    abbrev pub KeepsUndamaged : Keeping K → List (KeyDecl T Kind Op Delta) → K → (id : ℕ) → View → FromKeeperError K → Type 0
    KeepsUndamaged keeping decls keeper id view error =
        (kinds : Text → Kind) (logs : Text → History Op) (table : Table) (store : Store Op) → keeping.table keeper ≡ Some table → AreOfKinds kinds decls → SpellsStore ghosts spelling kinds logs table store
        → ((keys : List (KeyState T Kind Op Delta)) → map declared_by keys ≡ map declared decls → AreFit keys id view.given store) → IsUndamagedFrom error
