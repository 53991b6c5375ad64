-- What a restart does at a place.
--     IsReloaded        the new member has what the keeper told
--     IsUnfit        what was kept is nothing that a new member may take
--     Reloads        the new member stands there, or the old one does, as is answered
use Rattle.std.specs.Prelude.{◌≡◌, ℕ, Option, None, Some, map, Result, Ok, Err}
use Rattle.model_history.specs.Texts.{Text}
use Rattle.model_history.specs.History.{History, IsHistory}
use Rattle.model_members.specs.View.{View}
use Rattle.model_members.specs.World.{Store, loaded_node}
use Rattle.data_lattice.specs.declared.replica.Replica.{Ghosts}
use Rattle.data_lattice.specs.declared.spelled.SpelledData.{Ghosts as Spelling}
use Rattle.member_keeper.specs.declared.keeper.Keeper.{Ghosts as Keeping}
use Rattle.member_keeper.specs.Tables.{Table}
use Rattle.base_bytes.specs.declared.memory.Memory.{Memory}
use Rattle.member_node.specs.declared.node.Node.{Node}
use Rattle.member_node.specs.declared.loading.LoadError.TheVariants as load
use Rattle.member_node.specs.Keys.{declared_by, HaveKinds}
use Rattle.member_node.specs.Members.{StandsForNode}
use Rattle.member_node.specs.Stores.{SpellsStore, AreFit}
use Rattle.member_node.specs.Loading.{IsLoaded, IsRefusedLoad}
use Rattle.world_members.specs.declared.event.Answer.{Answer}
use Rattle.world_members.specs.declared.event.Answer.TheVariants as answer

module _ {T K Kind Op Delta : Type 0} {ghosts : Ghosts T Kind Op Delta} {keeping : Keeping K} (spelling : Spelling T Kind Op Delta) (id : ℕ) (view : View) where
  -- the new member has what the keeper told
  pub record IsReloaded (old new : Node T K Kind Op Delta ghosts keeping) : Type 0 where
    pub loaded : IsLoaded old id view new
    pub stands : (kinds : Text → Kind) (logs : Text → History Op) (table : Table) (store : Store Op) → keeping.table old.keeper ≡ Some table → HaveKinds kinds old.keys.items → ((key : Text) → IsHistory (logs key))
        → SpellsStore ghosts spelling kinds logs table store → StandsForNode ghosts.kind_of ghosts.IsDataOf kinds logs new (loaded_node (map declared_by old.keys.items) id view store)

  -- the old member comes back, and its keeper has no store that a new one may take
  pub record IsUnfit (key : Text) (old new : Node T K Kind Op Delta ghosts keeping) : Type 0 where
    pub refused : IsRefusedLoad old (load.Damaged new key)
    pub unfit : (kinds : Text → Kind) (logs : Text → History Op) (table : Table) (store : Store Op) → keeping.table old.keeper ≡ Some table → HaveKinds kinds old.keys.items → SpellsStore ghosts spelling kinds logs table store → AreFit old.keys.items id view.given store → ⊥

  abbrev pub ReloadsSo : Answer → Node T K Kind Op Delta ghosts keeping → Node T K Kind Op Delta ghosts keeping → Type 0
  ReloadsSo answer.LoadFailed old new = IsRefusedLoad old (load.LoadFailed new)
  ReloadsSo (answer.Damaged key) old new = IsUnfit key old new
  ReloadsSo _ old new = ⊥

  -- no answer: the new member
  abbrev pub Reloads : Result (Option Answer) Memory → Node T K Kind Op Delta ghosts keeping → Node T K Kind Op Delta ghosts keeping → Type 0
  Reloads (Ok None) old new = IsReloaded old new
  Reloads (Ok (Some answer)) old new = ReloadsSo answer old new
  Reloads (Err memory) old new = IsRefusedLoad old (load.Memory new)
