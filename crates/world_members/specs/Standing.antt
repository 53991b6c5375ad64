-- What a world of the program stands for in the model.
--     StandsForWorld        views, keys, running members, links and stores are those of the model
use Rattle.std.specs.Prelude.{◌≡◌, ℕ, ◌<◌, map}
use Rattle.model_history.specs.Table.{identity_limit}
use Rattle.model_history.specs.Texts.{Text}
use Rattle.model_history.specs.History.{History}
use Rattle.model_members.specs.Node as nodes
use Rattle.model_members.specs.World as worlds
use Rattle.model_members.specs.World.{views_of}
use Rattle.model_kinds.specs.declared.shown.Shown.{Shown}
use Rattle.data_lattice.specs.declared.replica.Replica.{Ghosts}
use Rattle.data_lattice.specs.declared.spelled.SpelledData.{Ghosts as Spelling}
use Rattle.member_keeper.specs.declared.keeper.Keeper.{Ghosts as Keeping}
use Rattle.member_views.specs.Sound.{last_view}
use Rattle.member_node.specs.Members.{AreOfKinds, declared}
use Rattle.world_members.specs.declared.world.World.{World}
use Rattle.world_places.specs.Channels.{channel_at}
use Rattle.world_places.specs.Places.{member_of, keeper_of}
use Rattle.world_places.specs.Standing.{StandsForLink, TellsStore, StandsForRunning}

module _ {T K Kind Op Delta : Type 0} {ghosts : Ghosts T Kind Op Delta} {keeping : Keeping K} (spelling : Spelling T Kind Op Delta) (kinds : Text → Kind) (logs : Text → History Op) where
  pub record StandsForWorld (code : World T K Kind Op Delta ghosts keeping) (world : worlds.World Kind Op Shown) : Type 0 where
    pub views : views_of world ≡ code.views
    pub keys : world.keys ≡ map declared code.keys.items
    pub of_kinds : AreOfKinds kinds code.keys.items
    pub running : (i : ℕ) → StandsForRunning spelling kinds logs (member_of (last_view code.views) code.nodes.items i) (world.nodes i)
    pub links : (from to : ℕ) → from < identity_limit → to < identity_limit → StandsForLink kinds logs (channel_at code.links from to) (world.links from to)
    pub stores : (place : ℕ) → TellsStore ghosts keeping spelling kinds logs (keeper_of code.nodes.items code.spare.items place) (world.stores place)
