-- What a call does to the keepers of the places.
--     Keeps        what a keeper tells after it answered some calls
--     AreSeated        each place has its member, with the program's limit, or a spare keeper
--     AreKept        each keeper was called some times, or not at all
--     IsNotCleared        the keepers where one failed at the start
use Rattle.std.specs.Prelude.{◌≡◌, ℕ, ◌<◌, List, [], ◌∷◌, ◌++◌, length, count_by, not, Bool, true, false, Option, Some, None, IsSome, is_some, option_map, slice_get}
use Rattle.std.specs.Option.{ForSome}
use Rattle.model_members.specs.View.{View}
use Rattle.thread_machine.specs.Faults.{RoseBy}
use Rattle.data_lattice.specs.declared.replica.Replica.{Ghosts}
use Rattle.member_keeper.specs.declared.keeper.Keeper.{Ghosts as Keeping}
use Rattle.member_keeper.specs.Calls.{Becomes}
use Rattle.member_node.specs.declared.node.Node.{Node}
use Rattle.member_node.specs.Replies.{program_steps}
use Rattle.member_views.specs.Sound.{last_view}
use Rattle.world_places.specs.Places.{item_at, identity_at}

-- the answers that each place's keeper gave
abbrev pub Given : Type 0
Given = ℕ → List Bool

-- each place has the member of the last view that is there, or else a spare keeper. Each member has the program's limit of steps
pub record AreSeated {T K Kind Op Delta : Type 0} {ghosts : Ghosts T Kind Op Delta} {keeping : Keeping K} (views : List View) (nodes : List (Option (Node T K Kind Op Delta ghosts keeping))) (spare : List (Option K)) : Type 0 where
  pub members : (place : ℕ) → place < 8 → option_map (λ (node : Node T K Kind Op Delta ghosts keeping). node.id) (item_at nodes place) ≡ identity_at (last_view views) place
  pub spares : (place : ℕ) → place < 8 → is_some (item_at spare place) ≡ not (is_some (item_at nodes place))
  pub limits : (place : ℕ) → place < 8 → ForSome (item_at nodes place) (λ node. node.limit ≡ program_steps)

module _ {K : Type 0} (keeping : Keeping K) where
  -- These answers were told after those before, and no more of them are failures than the count rose by. A table that was told is told.
  pub record Keeps (answers : List Bool) (old new : K) : Type 0 where
    pub told : Becomes (keeping.answers old) (keeping.answers new) (λ before. before ++ answers)
    pub counted : RoseBy (count_by not answers) (keeping.faults old) (keeping.faults new)
    pub table : IsSome (keeping.table old) → IsSome (keeping.table new)

  -- the same keeper, where there was one
  abbrev pub KeepsAt : List Bool → Option K → Option K → Type 0
  KeepsAt answers None None = answers ≡ []
  KeepsAt answers (Some old) (Some new) = Keeps answers old new
  KeepsAt answers _ _ = ⊥

  -- the keeper of a place gave some answers
  pub record IsKept (old new : Option K) : Type 0 where
    pub answers : List Bool
    pub keeps : KeepsAt answers old new

-- There are as many keepers as before, and this holds of each, by its place.
pub record AtEachPlace {K : Type 0} (Holds : ℕ → K → K → Type 0) (old new : List K) : Type 0 where
  pub count : length new ≡ length old
  pub each : (place : ℕ) (before after : K) → slice_get old place ≡ Some before → slice_get new place ≡ Some after → Holds place before after

module _ {K : Type 0} (keeping : Keeping K) where
  -- each gave some answers
  abbrev pub AreKept : List K → List K → Type 0
  AreKept old new = AtEachPlace (λ place before after. (answers : List Bool) × Keeps keeping answers before after) old new

  -- the keeper forgot all
  pub record IsCleared (before after : K) : Type 0 where
    pub answered : Keeps keeping (true ∷ []) before after
    pub table : Becomes (keeping.table before) (keeping.table after) (λ table. [])

  -- the keeper failed to forget, and its table stays
  pub record FailsToClear (before after : K) : Type 0 where
    pub answered : Keeps keeping (false ∷ []) before after
    pub table : Becomes (keeping.table before) (keeping.table after) (λ table. table)

  -- the keepers before a place forgot all, that of the place failed, and those behind it were not called
  pub record IsNotCleared (place : ℕ) (old new : List K) : Type 0 where
    pub within : place < length old
    pub earlier : AtEachPlace (λ p before after. p < place → IsCleared before after) old new
    pub failed : AtEachPlace (λ p before after. p ≡ place → FailsToClear before after) old new
    pub later : AtEachPlace (λ p before after. place < p → after ≡ before) old new
