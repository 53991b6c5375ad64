-- Parts that make a world.
use Rattle.std.specs.Prelude.{◌≡◌, ℕ, ◌<◌, List, not, Option, is_some, option_map}
use Rattle.std.specs.Option.{ForSome}
use Rattle.model_members.specs.View.{View}
use Rattle.thread_machine.specs.declared.machines.Machines.{Machines}
use Rattle.thread_machine.specs.Machines.{machine_at}
use Rattle.data_lattice.specs.declared.replica.Replica.{Ghosts}
use Rattle.member_keeper.specs.declared.keeper.Keeper.{Ghosts as Keeping}
use Rattle.member_views.specs.Sound.{last_view}
use Rattle.member_node.specs.declared.node.Node.{Node}
use Rattle.member_node.specs.Replies.{program_steps}
use Rattle.world_places.specs.Places.{item_at, identity_at}

-- each place has the member of the last view that is there, or else a spare keeper. Each member has the program's limit of steps
pub record ArePlaced {T K Kind Op Delta I F O R : Type 0} {ghosts : Ghosts T Kind Op Delta} {keeping : Keeping K} (views : List View) (members : Machines (Node T K Kind Op Delta ghosts keeping) I F O R) (spare : List (Option K)) : Type 0 where
  pub identities : (place : ℕ) → place < 8 → option_map (λ (node : Node T K Kind Op Delta ghosts keeping). node.id) (machine_at members place) ≡ identity_at (last_view views) place
  pub spares : (place : ℕ) → place < 8 → is_some (item_at spare place) ≡ not (is_some (machine_at members place))
  pub limits : (place : ℕ) → place < 8 → ForSome (machine_at members place) (λ node. node.limit ≡ program_steps)
