-- What a closed table leaves.
use Rattle.std.specs.Prelude.{◌≡◌, ℕ, ◌<◌, List, [], ◌∷◌, ◌++◌, map, is_some, slice_get, Option, Some, None}
use mathlib.Core.Option.{some}
use mathlib.Core.List.{IsPrefix}
use lib.ListN.{get_elem?}
use Rattle.thread_machine.specs.declared.machine.Machine.{Ghosts}
use Rattle.thread_machine.specs.declared.entry.Entry.{Entry}
use Rattle.thread_machine.specs.declared.machines.Machines.{Machines}
use Rattle.thread_cell.specs.declared.histories.Histories.{Histories}
use Rattle.thread_cell.specs.declared.opening.Opening.{Opening}
use Rattle.thread_cell.specs.declared.unnamed.Cells.{Cells}
use Rattle.thread_cell.specs.declared.view.View.{View}
use Rattle.thread_cell.specs.Lists.{at, times}
use Rattle.thread_cell.specs.Views.{numbers}
use Rattle.thread_machine.specs.Machines.{machine_at}
use Rattle.thread_cell.specs.Entries.{places_from, history_at}
use Rattle.thread_machine.specs.Replays.{IsReplay}
use Rattle.thread_cell.specs.Stamps.{Rises}
use Rattle.thread_cell.specs.Values.{ClientParts, CellParts, client_calls}

module _ {M I F O R : Type 0} where
  -- the seat stands for the clients of these sessions, and for no place
  pub record Served (sessions : List (ClientParts M I F O R)) (v : View (Entry M I F O R) (Opening M I F O R)) : Type 0 where
    pub places : v.places ≡ []
    pub clients : (k : ℕ) (s : ClientParts M I F O R) → slice_get sessions k ≡ Some s → (i : ℕ) × (get_elem? v.clients i ≡ some (client_calls s))
    pub counted : (c : ℕ) → times c (numbers (map client_calls sessions)) ≡ times c (numbers v.clients)
    pub knows : (k : ℕ) (s : ClientParts M I F O R) → slice_get sessions k ≡ Some s → (p : ℕ) → IsPrefix (at s.seen.known p) (at v.known p)

  module _ (meaning : Ghosts M I F O R) where
    -- the machine of one place is the replay of its history; where there was none there is none
    pub record EndsAt (start now : Option M) (history : List (Entry M I F O R)) : Type 0 where
      pub replay : (m : M) → start ≡ Some m → (n : M) × (now ≡ Some n) × IsReplay meaning m history n
      pub none : start ≡ None → (now ≡ None) × (history ≡ [])
      pub rises : Rises history

    -- a seat took over a place that has a machine; what it knew of others stays
    pub record Takes (p : ℕ) (start now : Option M) (history : List (Entry M I F O R)) (v v' : View (Entry M I F O R) (Opening M I F O R)) : Type 0 where
      pub ends : EndsAt start now history
      pub places : v'.places ≡ v.places ++ places_from p (is_some start ∷ [])
      pub clients : v'.clients ≡ v.clients
      pub here : 0 < times p (places_from p (is_some start ∷ [])) → at v'.known p ≡ history
      pub keeps : (q : ℕ) → 0 < times q v.places → at v'.known q ≡ at v.known q
      pub more : (q : ℕ) → IsPrefix (at v.known q) (at v'.known q)

    -- each machine is the replay of its place's history from the machine there at the start
    pub record AreReplayed (starts nows : Machines M I F O R) (histories : Histories M I F O R) : Type 0 where
      pub each : (p : ℕ) → EndsAt (machine_at starts p) (machine_at nows p) (history_at histories p)

  -- what each session had seen are beginnings of the histories
  pub record SessionsKnew (sessions : List (ClientParts M I F O R)) (histories : Histories M I F O R) : Type 0 where
    pub each : (k : ℕ) (s : ClientParts M I F O R) → slice_get sessions k ≡ Some s → (p : ℕ) → IsPrefix (at s.seen.known p) (history_at histories p)

-- a cell gave up its place: its history, and what it had seen
pub record GivesUp {M I F O R : Type 0} (p : ℕ) (cell : Option (CellParts M I F O R)) (history : List (Entry M I F O R)) (known : List (List (Entry M I F O R))) : Type 0 where
  pub own : (c : CellParts M I F O R) → cell ≡ Some c → history ≡ at c.seen.known p
  pub begins : (c : CellParts M I F O R) → cell ≡ Some c → (q : ℕ) → IsPrefix (at c.seen.known q) (at known q)

-- what a cell had seen are beginnings of the histories, and its own history is whole
pub record CellKnew {M I F O R : Type 0} (p : ℕ) (cell : Option (CellParts M I F O R)) (histories : Histories M I F O R) : Type 0 where
  pub own : (c : CellParts M I F O R) → cell ≡ Some c → history_at histories p ≡ at c.seen.known p
  pub begins : (c : CellParts M I F O R) → cell ≡ Some c → (q : ℕ) → IsPrefix (at c.seen.known q) (history_at histories q)

pub record CellsKnew {M N I F O R : Type 0} (cells : Cells M N I F O R) (histories : Histories M I F O R) : Type 0 where
  pub p0 : CellKnew 0 cells.p0 histories
  pub p1 : CellKnew 1 cells.p1 histories
  pub p2 : CellKnew 2 cells.p2 histories
  pub p3 : CellKnew 3 cells.p3 histories
  pub p4 : CellKnew 4 cells.p4 histories
  pub p5 : CellKnew 5 cells.p5 histories
  pub p6 : CellKnew 6 cells.p6 histories
  pub p7 : CellKnew 7 cells.p7 histories

-- each place that began with a machine has a cell, and no other place
pub record IsWhole {M N I F O R : Type 0} (cells : Cells M N I F O R) : Type 0 where
  pub p0 : is_some cells.p0 ≡ is_some cells.table.machines.p0
  pub p1 : is_some cells.p1 ≡ is_some cells.table.machines.p1
  pub p2 : is_some cells.p2 ≡ is_some cells.table.machines.p2
  pub p3 : is_some cells.p3 ≡ is_some cells.table.machines.p3
  pub p4 : is_some cells.p4 ≡ is_some cells.table.machines.p4
  pub p5 : is_some cells.p5 ≡ is_some cells.table.machines.p5
  pub p6 : is_some cells.p6 ≡ is_some cells.table.machines.p6
  pub p7 : is_some cells.p7 ≡ is_some cells.table.machines.p7
