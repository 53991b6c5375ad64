-- Worlds by what they were made of.
--     WasMadeOf        the views, the members at the start, and the rest
--     HasRun, HaveRun        members that made some entries
--     AreGivenBack, IsPlayed        what comes of any world that was made of these
use Rattle.std.specs.Prelude.{◌≡◌, ℕ, List, Option, Some, None, Result, Vec, MatchResult}
use Rattle.std.specs.declared.alloc.Global.{Global}
use Rattle.model_kinds.specs.declared.operation.Op.{Op}
use Rattle.data_lattice.specs.declared.replica.Replica.{Ghosts}
use Rattle.data_lattice.specs.declared.spelled.SpelledData.{Ghosts as Spelling}
use Rattle.member_keeper.specs.declared.keeper.Keeper.{Ghosts as Keeping}
use Rattle.member_views.specs.Views.{View}
use Rattle.thread_machine.specs.declared.machine.Machine.{Ghosts as Machine}
use Rattle.thread_machine.specs.declared.entry.Entry.{Entry}
use Rattle.thread_machine.specs.declared.machines.Machines.{Machines}
use Rattle.thread_machine.specs.Machines.{machine_at}
use Rattle.thread_machine.specs.Replays.{IsReplay}
use Rattle.member_node.specs.declared.node.Node.{Node}
use Rattle.script_reading.specs.declared.clients.Repeated.{Repeated}
use Rattle.world_members.specs.declared.client_line.Section.{Section}
use Rattle.world_members.specs.declared.world.World.{World}
use Rattle.world_places.specs.Places.{item_at}
use Rattle.world_members.specs.Threads.{PlaysSection, GivesBack}
use Rattle.thread_section.specs.declared.giving.Rest.{Rest}

module _ {M I F O R : Type 0} (meaning : Machine M I F O R) where
  -- the machine made the entries of some history, and where there was none there is none
  pub record HasRun (start now : Option M) : Type 0 where
    pub replay : (m : M) → start ≡ Some m → (n : M) × (h : List (Entry M I F O R)) × (now ≡ Some n) × IsReplay meaning m h n
    pub none : start ≡ None → now ≡ None

  pub record HaveRun (starts nows : Machines M I F O R) : Type 0 where
    pub each : (place : ℕ) → HasRun (machine_at starts place) (machine_at nows place)

module _ {T K Kind Delta I F O R : Type 0} {ghosts : Ghosts T Kind Op Delta} {keeping : Keeping K} where
  -- the world had these views, these members, and the rest
  pub record WasMadeOf (old : World T K Kind Op Delta ghosts keeping) (views : List View) (starts : Machines (Node T K Kind Op Delta ghosts keeping) I F O R) (rest : Rest T K Kind Delta ghosts keeping) : Type 0 where
    pub views_are : views ≡ old.views
    pub members : (place : ℕ) → machine_at starts place ≡ item_at old.nodes.items place
    pub links : rest.links ≡ old.links
    pub keys : rest.keys ≡ old.keys
    pub spare : rest.seats.spare ≡ old.spare

  -- the keepers of such a world come back
  pub record AreGivenBack (views : List View) (starts : Machines (Node T K Kind Op Delta ghosts keeping) I F O R) (rest : Rest T K Kind Delta ghosts keeping) (keepers : List K) : Type 0 where
    pub of : (old : World T K Kind Op Delta ghosts keeping) → WasMadeOf old views starts rest → GivesBack old keepers

  -- clients played a section in such a world, or its keepers come back
  pub record IsPlayed (spelling : Spelling T Kind Op Delta) (clients : List (List Repeated)) (views : List View) (starts : Machines (Node T K Kind Op Delta ghosts keeping) I F O R) (rest : Rest T K Kind Delta ghosts keeping)
      (result : Result (Section T K Kind Op Delta ghosts keeping) (Vec K Global)) : Type 0 where
    pub of : (old : World T K Kind Op Delta ghosts keeping) → WasMadeOf old views starts rest
        → MatchResult result (λ (section : Section T K Kind Op Delta ghosts keeping). PlaysSection spelling clients old section.world section.lines) (λ (keepers : Vec K Global). GivesBack old keepers.items)
