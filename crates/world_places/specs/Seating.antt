-- How the first world's keepers come to their places, and how a member starts at one.
--     RefusesToClear        what a refusal to forget leaves
--     Clears        what is left after all keepers were to forget all
--     IsNewMember        a member without records, with the program's limit
--     Seats        the spare keeper of a place went to a new member
--     AreFirstSeats        those of the first places did
--     IsLeft        the member at a place left, and its keeper is there
--     ActsAt        the spare keeper of a place did this
--     SeatsAnew        the spare keeper of a place forgot all, and went to a new member
use Rattle.std.specs.Prelude.{◌≡◌, ◌≢◌, ℕ, ◌<◌, ◌≤◌, List, [], Bool, map, Option, Some, None, slice_get}
use Rattle.model_history.specs.Texts.{Text}
use Rattle.model_history.specs.History.{History, IsHistory}
use Rattle.model_members.specs.View.{View, first_view}
use Rattle.model_members.specs.World.{loaded_node, no_entries}
use Rattle.data_lattice.specs.declared.replica.Replica.{Ghosts}
use Rattle.member_keeper.specs.declared.keeper.Keeper.{Ghosts as Keeping}
use Rattle.member_keeper.specs.declared.keeper.KeeperError.{KeeperError}
use Rattle.member_keeper.specs.declared.keeper.KeeperError.TheVariants.{Failed, Memory}
use Rattle.member_node.specs.declared.key.KeyDecl.{KeyDecl}
use Rattle.member_node.specs.declared.node.Node.{Node}
use Rattle.member_node.specs.Members.{AreOfKinds, declared, StandsForNode}
use Rattle.member_node.specs.Replies.{program_steps}
use Rattle.world_places.specs.Keeping.{AtEachPlace, Keeps, IsCleared, FailsToClear, IsNotCleared, AreKept}
use Rattle.world_places.specs.Places.{item_at, keeper_of}

module _ {K : Type 0} (keeping : Keeping K) where
  abbrev pub AreCleared : List K → List K → Type 0
  AreCleared old new = AtEachPlace (λ place before after. IsCleared keeping before after) old new

  -- the keeper failed, or wanted memory
  abbrev pub RefusesToClear : KeeperError → K → K → Type 0
  RefusesToClear Failed before after = FailsToClear keeping before after
  RefusesToClear Memory before after = Keeps keeping [] before after

  -- one of the keepers did
  abbrev pub RefusesClear : ℕ → KeeperError → List K → List K → Type 0
  RefusesClear place Failed old new = IsNotCleared keeping place old new
  RefusesClear place Memory old new = AreKept keeping old new

  -- all forgot all, unless one refused
  abbrev pub Clears : Option (ℕ × KeeperError) → List K → List K → Type 0
  Clears None old new = AreCleared old new
  Clears (Some refused) old new = RefusesClear refused.0 refused.1 old new

  -- a keeper refused to forget, or there was no memory for its new member
  abbrev pub RefusesSeat : KeeperError → K → K → Type 0
  RefusesSeat Failed before after = FailsToClear keeping before after
  RefusesSeat Memory before after = (answers : List Bool) × Keeps keeping answers before after

-- the spare keeper of a place did this, and the others are as before
pub record ActsAt {K : Type 0} (Does : K → K → Type 0) (place : ℕ) (old new : List (Option K)) : Type 0 where
  pub there : (keeper : K) → item_at old place ≡ Some keeper → (after : K) × (item_at new place ≡ Some after) × Does keeper after
  pub others : (other : ℕ) → other ≢ place → slice_get new other ≡ slice_get old other

module _ {T K Kind Op Delta : Type 0} {ghosts : Ghosts T Kind Op Delta} {keeping : Keeping K} where
  -- a member without records, of this view and with this keeper
  pub record IsNewMember (id : ℕ) (view : View) (keys : List (KeyDecl T Kind Op Delta)) (keeper : K) (node : Node T K Kind Op Delta ghosts keeping) : Type 0 where
    pub identity : node.id ≡ id
    pub kept : node.keeper ≡ keeper
    pub limit : node.limit ≡ program_steps
    pub stands : (kinds : Text → Kind) (logs : Text → History Op) → ((key : Text) → IsHistory (logs key)) → AreOfKinds kinds keys
        → StandsForNode ghosts.kind_of ghosts.IsDataOf kinds logs node (loaded_node (map declared keys) id view no_entries)

  -- the spare keeper of a place went to a new member there
  pub record Seats (id : ℕ) (view : View) (keys : List (KeyDecl T Kind Op Delta)) (place : ℕ) (old new : List (Option (Node T K Kind Op Delta ghosts keeping))) (spare left : List (Option K)) : Type 0 where
    pub seated : (keeper : K) → item_at spare place ≡ Some keeper → (node : Node T K Kind Op Delta ghosts keeping) × (item_at new place ≡ Some node) × IsNewMember id view keys keeper node
    pub taken : (keeper : K) → item_at spare place ≡ Some keeper → slice_get left place ≡ Some None
    pub others : (other : ℕ) → other ≢ place → slice_get new other ≡ slice_get old other
    pub spares : (other : ℕ) → other ≢ place → slice_get left other ≡ slice_get spare other

  -- those of the first places went to new members, each with the identity of its place's number
  pub record AreFirstSeats (members : ℕ) (keys : List (KeyDecl T Kind Op Delta)) (new : List (Option (Node T K Kind Op Delta ghosts keeping))) (spare left : List (Option K)) : Type 0 where
    pub seated : (place : ℕ) (keeper : K) → place < members → item_at spare place ≡ Some keeper → (node : Node T K Kind Op Delta ghosts keeping) × (item_at new place ≡ Some node) × IsNewMember place (first_view members) keys keeper node
    pub taken : (place : ℕ) (keeper : K) → place < members → item_at spare place ≡ Some keeper → item_at left place ≡ None
    pub free : (place : ℕ) → members ≤ place → item_at new place ≡ None
    pub spares : (place : ℕ) → members ≤ place → item_at left place ≡ item_at spare place

  -- the member at a place left, and its keeper is there
  pub record IsLeft (place : ℕ) (old new : List (Option (Node T K Kind Op Delta ghosts keeping))) (spare left : List (Option K)) : Type 0 where
    pub none : item_at new place ≡ None
    pub keeper : item_at left place ≡ keeper_of old spare place
    pub others : (other : ℕ) → other ≢ place → item_at new other ≡ item_at old other
    pub spares : (other : ℕ) → other ≢ place → item_at left other ≡ item_at spare other

  -- the spare keeper of a place forgot all, and went to a new member there
  pub record SeatsAnew (id : ℕ) (view : View) (keys : List (KeyDecl T Kind Op Delta)) (place : ℕ) (old new : List (Option (Node T K Kind Op Delta ghosts keeping))) (spare left : List (Option K)) : Type 0 where
    pub seated : (keeper : K) → item_at spare place ≡ Some keeper
        → (cleared : K) × IsCleared keeping keeper cleared × (node : Node T K Kind Op Delta ghosts keeping) × (item_at new place ≡ Some node) × IsNewMember id view keys cleared node
    pub taken : (keeper : K) → item_at spare place ≡ Some keeper → item_at left place ≡ None
    pub others : (other : ℕ) → other ≢ place → item_at new other ≡ item_at old other
    pub spares : (other : ℕ) → other ≢ place → item_at left other ≡ item_at spare other
