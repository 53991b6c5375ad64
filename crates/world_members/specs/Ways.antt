-- The way of a script from its first world on, and the worlds of the program that stand for it.
--     Throughout        logs hold all histories of the way
--     Means        a world stands for where a script is, in all such logs
use Rattle.std.specs.Prelude.{◌≡◌, ℕ, List, ◌++◌}
use Rattle.model_history.specs.Texts.{Text}
use Rattle.model_history.specs.History.{History, IsHistory}
use Rattle.model_members.specs.DataType.{Replication}
use Rattle.model_members.specs.Node.{KeyDecl}
use Rattle.model_members.specs.World.{Event, start, run, IsRun}
use Rattle.model_members.specs.Script.{Playing}
use Rattle.theorem_runs.specs.Logs.{IsLoggedBy}
use Rattle.model_kinds.specs.declared.shown.Shown.{Shown}
use Rattle.data_lattice.specs.declared.replica.Replica.{Ghosts}
use Rattle.data_lattice.specs.declared.spelled.SpelledData.{Ghosts as Spelling}
use Rattle.member_keeper.specs.declared.keeper.Keeper.{Ghosts as Keeping}
use Rattle.member_node.specs.Steps.{replication}
use Rattle.world_members.specs.declared.world.World.{World}
use Rattle.world_members.specs.Standing.{StandsForWorld}

-- all histories of each world on the way are parts of the logs
pub record Throughout {Kind Op Shown : Type 0} (D : Replication Kind Op Shown) (logs : Text → History Op) (members : ℕ) (decls : List (KeyDecl Kind)) (p : Playing Kind Op Shown) : Type 0 where
  pub histories : (key : Text) → IsHistory (logs key)
  pub logged : (before rest : List (Event Op)) → p.events ≡ before ++ rest → IsLoggedBy logs (run D (start members decls) before)

-- the events of a script so far stand first among the later ones
abbrev pub IsPrefix : {Op : Type 0} → List (Event Op) → List (Event Op) → Type 0
IsPrefix {Op} events later = (more : List (Event Op)) × (later ≡ events ++ more)

module _ {T K Kind Op Delta : Type 0} {ghosts : Ghosts T Kind Op Delta} {keeping : Keeping K} (spelling : Spelling T Kind Op Delta) (kinds : Text → Kind) (members : ℕ) (decls : List (KeyDecl Kind)) where
  -- A WORLD MEANS WHERE A SCRIPT IS: the way so far is a run, and in all logs of the way the world stands for the model's
  pub record Means (p : Playing Kind Op Shown) (code : World T K Kind Op Delta ghosts keeping) : Type 0 where
    pub run : IsRun (replication ghosts spelling) members decls p.events p.world
    pub stands : (logs : Text → History Op) → Throughout (replication ghosts spelling) logs members decls p → StandsForWorld spelling kinds logs code p.world
