-- What tables, cells and sessions begin with.
use Rattle.std.specs.Prelude.{◌≡◌, ℕ, zero, suc, ◌-◌, List, [], ◌∷◌, ◌++◌, map, drop, replicate, true, Option, Some, None}
use Rattle.atomic_table.specs.Table.{Me}
use Rattle.atomic_table.specs.Seated.{TableId}
use Rattle.thread_cell.specs.declared.opening.Opening.{Opening}
use Rattle.thread_cell.specs.declared.view.ClientCalls.{ClientCalls}
use Rattle.thread_cell.specs.declared.view.View.{View}
use Rattle.thread_cell.specs.Views.{newcomer}
use Rattle.thread_machine.specs.Machines.{flags}
use Rattle.thread_cell.specs.Entries.{places_from}
use Rattle.thread_cell.specs.Values.{ClientParts, CellParts}

-- a table that has no name yet: its identity, and what it begins with
pub record UnnamedParts (K : Type 0) : Type 0 where
  pub table : TableId
  pub opening : K

module _ {E K : Type 0} where
  -- the seat that makes the others: it has seen nothing, and stands for these places and clients
  pub record Opens (key : K) (ps : List ℕ) (cs : List ClientCalls) (me : Me E (View E K)) : Type 0 where
    pub began : me.0.began ≡ Some key
    pub known : me.0.known ≡ []
    pub places : me.0.places ≡ ps
    pub clients : me.0.clients ≡ cs
    pub slots : me.1 ≡ []

-- the clients from one on
abbrev pub clients_left : ℕ → ℕ → List ClientCalls
clients_left all number = map newcomer (places_from number (replicate (all - number) true))

module _ {M I F O R : Type 0} where
  -- the places from one on that have a machine
  abbrev pub places_left : Opening M I F O R → ℕ → List ℕ
  places_left key p = places_from p (drop p (flags key.machines))

  -- a cell as it begins
  abbrev pub begun : TableId → Opening M I F O R → Option M → Option (CellParts M I F O R)
  begun table key None = None
  begun table key (Some machine) = Some (record { seen = record { table = table; began = Some key; known = []; stamp = 0 }; machine = machine })

  abbrev pub begun_session : TableId → Opening M I F O R → ℕ → ClientParts M I F O R
  begun_session table key number = record { seen = record { table = table; began = Some key; known = []; stamp = 0 }; number = number; calls = [] }

  -- the sessions of the first clients as they begin
  abbrev pub begun_sessions : TableId → Opening M I F O R → ℕ → List (ClientParts M I F O R)
  begun_sessions table key zero = []
  begun_sessions table key (suc n) = begun_sessions table key n ++ begun_session table key n ∷ []
