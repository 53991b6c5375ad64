-- All histories of a run are parts of one log for each key.
use Rattle.std.specs.Prelude.{◌≡◌, ℕ, ◌<◌, ◌≤◌, List, ◌++◌, Some}
use Rattle.std.specs.List.{AllByRecursion}
use Rattle.model_history.specs.Table.{identity_limit}
use Rattle.model_history.specs.Texts.{Text}
use Rattle.model_history.specs.Log.{IsTakenFrom}
use Rattle.model_history.specs.History.{Record, History, at, HasRecord, IsHistory}
use Rattle.model_history.specs.History.Action.{Prune}
use Rattle.model_members.specs.Entry.{Entry, Group, IsGroupOf}
use Rattle.model_members.specs.Message.{Keyed, Message, entries_in, groups_in}
use Rattle.model_members.specs.DataType.{Replication}
use Rattle.model_members.specs.Node.{KeyDecl, Node, Input}
use Rattle.model_members.specs.World.{World, Event, message_at, start, run}

-- a message brings entries and groups of the logs
pub record IsMessageOf {Op : Type 0} (logs : Text → History Op) (message : Message Op) : Type 0 where
  pub entries : AllByRecursion (λ (e : Keyed (Entry Op)). IsTakenFrom (logs e.key) e.item.history) (entries_in message)
  pub groups : AllByRecursion (λ (g : Keyed (Group Op)). IsGroupOf (logs g.key) g.item) (groups_in message)

-- all histories of a world are parts of the logs
pub record IsLoggedBy {Kind Op Shown : Type 0} (logs : Text → History Op) (world : World Kind Op Shown) : Type 0 where
  pub held : (i : ℕ) (node : Node Kind Op Shown) (key : Text) → world.nodes i ≡ Some node → IsTakenFrom (logs key) (node.entries key).history
  pub sent : (from to index : ℕ) (message : Message Op) → message_at world from to index ≡ Some message → IsMessageOf logs message
  pub stored : (place : ℕ) (key : Text) (entry : Entry Op) → world.stores place key ≡ Some entry → IsTakenFrom (logs key) entry.history

-- each key, origin and number names one record: all histories of a world are parts of the logs, and each running member has all of its own records
pub record HasLogs {Kind Op Shown : Type 0} (logs : Text → History Op) (world : World Kind Op Shown) : Type 0 where
  pub few : world.view.given ≤ identity_limit
  pub given : (i : ℕ) (node : Node Kind Op Shown) → world.nodes i ≡ Some node → i < world.view.given
  pub identity : (i : ℕ) (node : Node Kind Op Shown) → world.nodes i ≡ Some node → node.identity ≡ i
  pub fresh : (key : Text) (i : ℕ) → world.view.given ≤ i → at (logs key) i ≡ 0
  pub histories : (key : Text) → IsHistory (logs key)
  pub own : (i : ℕ) (node : Node Kind Op Shown) (key : Text) → world.nodes i ≡ Some node → (node.entries key).history i ≡ logs key i
  pub held : (i : ℕ) (node : Node Kind Op Shown) (key : Text) → world.nodes i ≡ Some node → IsTakenFrom (logs key) (node.entries key).history
  pub sent : (from to index : ℕ) (message : Message Op) → message_at world from to index ≡ Some message → IsMessageOf logs message
  pub stored : (place : ℕ) (key : Text) (entry : Entry Op) → world.stores place key ≡ Some entry → IsTakenFrom (logs key) entry.history

-- no record of the log is a prune
pub record HasNoPrunes {Op : Type 0} (log : History Op) : Type 0 where
  pub none : (i k removed : ℕ) (r : Record Op) → HasRecord log i k r → r.action ≡ Prune removed → ⊥

-- the event is no prune tick
abbrev pub IsNoTick : {Op : Type 0} → Event Op → Type 0
IsNoTick (Event.InputAt i Input.PruneTick fate) = ⊥
IsNoTick _ = Unit {0}

-- the logs of a run hold all histories of each world on the way, and a prune only where there was a prune tick
pub record AreLogsOf {Kind Op Shown : Type 0} (D : Replication Kind Op Shown) (members : ℕ) (keys : List (KeyDecl Kind)) (events : List (Event Op)) (logs : Text → History Op) : Type 0 where
  pub last : HasLogs logs (run D (start members keys) events)
  pub throughout : (before rest : List (Event Op)) → events ≡ before ++ rest → IsLoggedBy logs (run D (start members keys) before)
  pub unpruned : AllByRecursion IsNoTick events → (key : Text) → HasNoPrunes (logs key)

-- there are such logs
abbrev pub HaveLogs : {Kind Op Shown : Type 0} → Replication Kind Op Shown → ℕ → List (KeyDecl Kind) → List (Event Op) → Type 0
HaveLogs {Kind} {Op} {Shown} D members keys events = (logs : Text → History Op) × AreLogsOf D members keys events logs

-- each running member's history of a key is one: pasts lie inside it, numbers are in order, and a past holds the pasts of its records
abbrev pub AllHaveHistories : {Kind Op Shown : Type 0} → World Kind Op Shown → Type 0
AllHaveHistories {Kind} {Op} {Shown} world = (i : ℕ) (node : Node Kind Op Shown) (key : Text) → world.nodes i ≡ Some node → IsHistory (node.entries key).history
