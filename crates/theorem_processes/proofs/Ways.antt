-- How far the processes of a cluster have come.
--     IsWay        logs hold all histories of the way
--     Reached        the way is a run, and the processes stand for the world that it leads to
--     way_of, safe_there        what a run tells of logs
--     member_of_view, places_there        where running members are
--     identity_there, keys_there        who they are, and their keys
use Rattle.std.proofs.Common.{◌≡◌, ℕ, ◌<◌, List, [], ◌++◌, map, sym, ap, subst, ◌∙◌, append_assoc, true, Option, Some}
use Rattle.model_history.specs.Texts.{Text}
use Rattle.model_history.specs.History.{History, IsHistory, IsExactlyPruned}
use Rattle.model_history.specs.Log.{IsTakenFrom}
use Rattle.model_history.proofs.HistoryLaws.{append_nothing}
use Rattle.model_members.specs.DataType.{Replication}
use Rattle.model_members.specs.Entry.{Entry}
use Rattle.model_members.specs.Node as nodes
use Rattle.model_members.specs.View.{is_member}
use Rattle.model_members.specs.World as worlds
use Rattle.model_members.specs.World.{Event, start, run, IsRun}
use Rattle.theorem_runs.specs.Logs.{IsLoggedBy, AreLogsOf}
use Rattle.theorem_runs.specs.Pruning.{variables_of}
use Rattle.theorem_runs.proofs.AgreementOverRuns.{logs_throughout}
use Rattle.theorem_runs.proofs.PruningSafety.{held_is_pruned}
use Rattle.theorem_runs.proofs.RunViews.{AreViews}
use Rattle.theorem_runs.proofs.Safety.{IsSafe as IsSafeWorld, runs_are_safe}
use Rattle.theorem_runs.proofs.ViewLaws.{HasPlaces}
use Rattle.model_kinds.specs.declared.operation.Op.{Op}
use Rattle.model_kinds.specs.declared.shown.Shown.{Shown}
use Rattle.data_lattice.specs.declared.replica.Replica.{Ghosts}
use Rattle.data_lattice.specs.declared.spelled.SpelledData.{Ghosts as Spelling}
use Rattle.member_keeper.specs.declared.keeper.Keeper.{Ghosts as Keeping}
use Rattle.member_node.specs.declared.key.KeyDecl.{KeyDecl}
use Rattle.member_node.specs.declared.node.Node.{Node}
use Rattle.member_node.specs.Keys.{declared}
use Rattle.member_node.specs.Members.{IsSafe}
use Rattle.theorem_processes.specs.Forgetting.{StandsInPart, StandsForProcess}
use Rattle.theorem_processes.specs.Processes.{Processes}
use Rattle.theorem_processes.specs.Runs.{lasting, StandFor}

-- a member with the same entries
pub safe_alike : {Kind : Type 0} {logs : Text → History Op} (one other : nodes.Node Kind Op Shown) → other.entries ≡ one.entries → IsSafe logs one → IsSafe logs other
safe_alike {logs = logs} one other same s =
    record {
      taken = λ key. subst (λ (entries : Text → Entry Op). IsTakenFrom (logs key) (entries key).history) (sym same) (s.taken key);
      exact = λ key. subst (λ (entries : Text → Entry Op). IsExactlyPruned (entries key).history) (sym same) (s.exact key);
    }

module _ {Kind : Type 0} (D : Replication Kind Op Shown) (count : ℕ) (keys : List (nodes.KeyDecl Kind)) where
  -- logs hold all histories of the way
  pub record IsWay (logs : Text → History Op) (events : List (Event Op)) : Type 0 where
    pub histories : (key : Text) → IsHistory (logs key)
    pub logged : (before rest : List (Event Op)) → events ≡ before ++ rest → IsLoggedBy logs (run D (start count keys) before)

  pub way_before : (logs : Text → History Op) (events more : List (Event Op)) → IsWay logs (events ++ more) → IsWay logs events
  way_before logs events more way =
      record { histories = way.histories; logged = λ before rest e. way.logged before (rest ++ more) (ap (λ es. es ++ more) e ∙ append_assoc before rest more) }

  pub way_by : (logs : Text → History Op) (events : List (Event Op)) → AreLogsOf D count keys events logs → IsWay logs events
  way_by logs events are = record { histories = are.last.histories; logged = are.throughout }

  module _ (events : List (Event Op)) (world : worlds.World Kind Op Shown) (is_run : IsRun D count keys events world) where
    pub way_of : (logs : Text → History Op) × IsWay logs events
    way_of = let l = logs_throughout D count keys events world is_run in (l.0, way_by l.0 events l.1)

    safe_world : IsSafeWorld D (variables_of D (start count keys) events) world
    safe_world = runs_are_safe D count keys events world is_run

    -- a running member's histories are parts of the logs, and exactly pruned
    pub safe_there : (logs : Text → History Op) → IsWay logs events → (i : ℕ) (node : nodes.Node Kind Op Shown) → world.nodes i ≡ Some node → IsSafe logs node
    safe_there logs way i node runs =
        let logged : IsLoggedBy logs world = subst (λ (w : worlds.World Kind Op Shown). IsLoggedBy logs w) (sym is_run.leads) (way.logged events [] (sym (append_nothing events))) in
        record {
          taken = λ key. logged.held i node key runs;
          exact = λ key. held_is_pruned D (variables_of D (start count keys) events) world safe_world i node key runs;
        }

    pub member_of_view : (i : ℕ) (node : nodes.Node Kind Op Shown) → world.nodes i ≡ Some node → is_member world.view i ≡ true
    member_of_view i node runs = (safe_world.views.running i node runs).last

    -- it has its identity, and the keys of the world
    pub identity_there : (i : ℕ) (node : nodes.Node Kind Op Shown) → world.nodes i ≡ Some node → node.identity ≡ i
    identity_there i node runs = (safe_world.views.running i node runs).identity

    pub keys_there : (i : ℕ) (node : nodes.Node Kind Op Shown) → world.nodes i ≡ Some node → node.keys ≡ world.keys
    keys_there i node runs = (safe_world.views.running i node runs).keys

    pub views_there : AreViews (worlds.views_of world) world.view
    views_there = safe_world.views.views

    pub members_below : (t : ℕ) → is_member world.view t ≡ true → t < world.view.given
    members_below t m = views_there.below world.view.number world.view t views_there.listed m

    pub places_there : HasPlaces world.view
    places_there = views_there.places world.view.number world.view views_there.listed

module _ {T K Kind Delta : Type 0} {ghosts : Ghosts T Kind Op Delta} {keeping : Keeping K} (spelling : Spelling T Kind Op Delta) (kinds : Text → Kind) (decls : List (KeyDecl T Kind Op Delta)) (count : ℕ) where
  -- the way is a run, and in all logs of it the processes stand for the world
  pub record Reached (events : List (Event Op)) (ps : Processes ghosts keeping) (world : worlds.World Kind Op Shown) : Type 0 where
    pub is_run : IsRun (lasting ghosts spelling) count (map declared decls) events world
    pub stand : (logs : Text → History Op) → IsWay (lasting ghosts spelling) count (map declared decls) logs events → StandFor spelling kinds decls logs ps world

  -- the model's member that a running one stands for, but for ends that it has forgotten and keys that it has not declared
  pub record IsAtWork (logs : Text → History Op) (ps : Processes ghosts keeping) (world : worlds.World Kind Op Shown) (i : ℕ) (member : Node T K Kind Op Delta ghosts keeping) : Type 0 where
    pub node : nodes.Node Kind Op Shown
    pub runs : world.nodes i ≡ Some node
    pub stands : StandsInPart kinds logs (ps.forgotten i) member node

  pub at_work : (logs : Text → History Op) (ps : Processes ghosts keeping) (world : worlds.World Kind Op Shown) → StandFor spelling kinds decls logs ps world → (i : ℕ) (member : Node T K Kind Op Delta ghosts keeping) → ps.members i ≡ Some member → IsAtWork logs ps world i member
  at_work logs ps world s i member runs = by (subst (λ (o : Option (Node T K Kind Op Delta ghosts keeping)). StandsForProcess {ghosts = ghosts} {keeping = keeping} kinds logs (ps.forgotten i) o (world.nodes i)) runs (s.running i))
    where
      by : StandsForProcess {ghosts = ghosts} {keeping = keeping} kinds logs (ps.forgotten i) (Some member) (world.nodes i) → IsAtWork logs ps world i member
      by there = record { node = there.0; runs = there.1; stands = there.2 }
