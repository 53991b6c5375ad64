-- What a load makes of what the keeper gave. If the keeper tells its table, it gave that; but a keeper that tells none gave a list too.
--     HoldsGiven        the list may be loaded, and the new member holds it
--     IsDamagedAt, IsDamaged        the key of the first of the list that may not be loaded
use Rattle.std.specs.Prelude.{ℕ, List, All}
use Rattle.model_history.specs.Texts.{Text}
use Rattle.model_history.specs.History.{History}
use Rattle.model_members.specs.View.{View}
use Rattle.model_members.specs.World.{Store}
use Rattle.data_lattice.specs.declared.replica.Replica.{Ghosts}
use Rattle.data_lattice.specs.declared.spelled.SpelledData.{Ghosts as Spelling}
use Rattle.member_keeper.specs.declared.stored.Stored.{Stored}
use Rattle.member_keeper.specs.declared.keeper.Keeper.{Ghosts as Keeping}
use Rattle.member_keeper.specs.Calls.{Gives}
use Rattle.member_node.specs.declared.node.Node.{Node}
use Rattle.member_node.specs.declared.loading.LoadError.{LoadError}
use Rattle.member_node.specs.declared.loading.LoadError.TheVariants.{LoadFailed, Damaged, Memory}
use Rattle.member_node.specs.Keys.{HaveKinds}
use Rattle.member_node.specs.Stores.{SpellsStore, AreFit}
use Rattle.member_node.specs.Loading.{AreSound, IsFirstUnsound}
use Rattle.member_node.specs.Restoring.{HoldsKept}

module _ {T Kind Op Delta K : Type 0} {ghosts : Ghosts T Kind Op Delta} {keeping : Keeping K} (spelling : Spelling T Kind Op Delta) (old : Node T K Kind Op Delta ghosts keeping) (id : ℕ) (view : View) where
  -- all of it may be loaded, and each key of the new member holds what was given for it, or is as new where nothing was
  pub record HoldsGiven (new : Node T K Kind Op Delta ghosts keeping) : Type 0 where
    pub loaded : List Stored
    pub gives : Gives (keeping.table old.keeper) loaded
    pub sound : AreSound ghosts spelling old.keys.items id view.given loaded
    pub holds : All (HoldsKept ghosts spelling id view loaded) new.keys.items

  -- what was given at this key may not be loaded, and all before it may; so it has not the spellings of a store that is fit for the new member
  pub record IsDamagedAt (key : Text) : Type 0 where
    pub loaded : List Stored
    pub gives : Gives (keeping.table old.keeper) loaded
    pub first : IsFirstUnsound ghosts spelling old.keys.items id view.given loaded key
    pub unfit : (kinds : Text → Kind) (logs : Text → History Op) (store : Store Op) → HaveKinds kinds old.keys.items → SpellsStore ghosts spelling kinds logs loaded store → AreFit old.keys.items id view.given store → ⊥

  abbrev pub IsDamaged : LoadError T K Kind Op Delta ghosts keeping → Type 0
  IsDamaged (LoadFailed back) = Unit {0}
  IsDamaged (Damaged back key) = IsDamagedAt key
  IsDamaged (Memory back) = Unit {0}
