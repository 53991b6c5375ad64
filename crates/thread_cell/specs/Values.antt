-- What contracts see of cells, sessions and notes, and what is true of each.
use Rattle.std.specs.Prelude.{◌≡◌, ◌≢◌, ℕ, ◌+◌, ◌<◌, ◌≤◌, max, List, [], ◌∷◌, ◌++◌, length, Option, Some}
use mathlib.Core.List.{IsPrefix}
use Rattle.atomic_table.specs.Table.{Me}
use Rattle.atomic_table.specs.Seated.{TableId}
use Rattle.thread_machine.specs.declared.machine.Machine.{Ghosts}
use Rattle.thread_machine.specs.declared.entry.Entry.{Entry}
use Rattle.thread_cell.specs.declared.opening.Opening.{Opening}
use Rattle.thread_cell.specs.declared.receipt.Receipt.{Receipt}
use Rattle.thread_cell.specs.declared.view.ClientCalls.{ClientCalls}
use Rattle.thread_cell.specs.declared.view.View.{View}
use Rattle.thread_machine.specs.Faults.{RoseAt}
use Rattle.thread_cell.specs.Lists.{at, longer}
use Rattle.thread_machine.specs.Machines.{machine_at}
use Rattle.thread_cell.specs.Rule.{most, calls_at}
use Rattle.thread_cell.specs.Seats.{client, IsAtPlace, IsOfClient, IsOfNone}
use Rattle.thread_machine.specs.Replays.{IsReplay}
use Rattle.thread_cell.specs.Stamps.{IsTimed, Rises}

-- what was seen at a table: what it began with, by place the history so far, and a stamp
pub record Seen (E K : Type 0) : Type 0 where
  pub table : TableId
  pub began : Option K
  pub known : List (List E)
  pub stamp : ℕ

-- a session: what it has seen, its client number and the client's own calls
pub record OfClient (E K : Type 0) : Type 0 where
  pub seen : Seen E K
  pub number : ℕ
  pub calls : List (ℕ × ℕ)

-- a cell: what it has seen, and its machine
pub record OfMachine (M E K : Type 0) : Type 0 where
  pub seen : Seen E K
  pub machine : M

module _ (M I F O R : Type 0) where
  abbrev pub Sights : Type 0
  Sights = Seen (Entry M I F O R) (Opening M I F O R)

  abbrev pub ClientParts : Type 0
  ClientParts = OfClient (Entry M I F O R) (Opening M I F O R)

  abbrev pub CellParts : Type 0
  CellParts = OfMachine M (Entry M I F O R) (Opening M I F O R)

abbrev pub client_calls : {E K : Type 0} → OfClient E K → ClientCalls
client_calls s = client s.number s.calls

abbrev pub seen_by : {E K : Type 0} → TableId → View E K → ℕ → Seen E K
seen_by table v stamp = record { table = table; began = v.began; known = v.known; stamp = stamp }

module _ {M I F O R : Type 0} where
  pub record IsNote (stamp : ℕ) (me : Me (Entry M I F O R) (View (Entry M I F O R) (Opening M I F O R))) : Type 0 where
    pub seat : IsOfNone me.0
    pub slots : me.1 ≡ []
    pub timed : IsTimed me.0.known stamp

  pub record IsSession (number : ℕ) (calls : List (ℕ × ℕ)) (stamp : ℕ) (me : Me (Entry M I F O R) (View (Entry M I F O R) (Opening M I F O R))) : Type 0 where
    pub seat : IsOfClient number calls me.0
    pub slots : me.1 ≡ []
    pub timed : IsTimed me.0.known stamp

  module _ (meaning : Ghosts M I F O R) (p : ℕ) where
    -- the machine is the replay of the history from what the table began with there
    pub record Began (began : Option (Opening M I F O R)) (history : List (Entry M I F O R)) (machine : M) : Type 0 where
      pub opening : Opening M I F O R
      pub start : M
      pub began_is : began ≡ Some opening
      pub start_is : machine_at opening.machines p ≡ Some start
      pub replay : IsReplay meaning start history machine

    pub record IsCell (machine : M) (history : List (Entry M I F O R)) (clock : ℕ) (me : Me (Entry M I F O R) (View (Entry M I F O R) (Opening M I F O R))) : Type 0 where
      pub inside : p < 8
      pub seat : IsAtPlace p me.0
      pub slots : me.1 ≡ []
      pub timed : IsTimed me.0.known clock
      pub whole : at me.0.known p ≡ history
      pub few : length history ≤ most
      pub rises : Rises history
      pub replayed : Began me.0.began history machine

    -- a step of a cell for a session: one entry more, which both then know
    pub record Accepts (input : I) (c : CellParts M I F O R) (s : ClientParts M I F O R) (c' : CellParts M I F O R) (s' : ClientParts M I F O R) (receipt : Receipt M I F O R) : Type 0 where
      pub entry : Entry M I F O R
      pub input_is : entry.input ≡ input
      pub client_is : entry.client ≡ s.number
      pub stamp_is : entry.stamp ≡ max c.seen.stamp s.seen.stamp + 1
      pub receipt_is : receipt ≡ record { place = p; index = length (at c.seen.known p); stamp = entry.stamp; output = entry.output }
      pub steps : meaning.Steps c.machine input entry.fate entry.output c'.machine
      pub fault : RoseAt (meaning.is_fault entry.fate) (meaning.faults c.machine) (meaning.faults c'.machine)
      pub history : at c'.seen.known p ≡ at c.seen.known p ++ entry ∷ []
      pub elsewhere : (q : ℕ) → q ≢ p → at c'.seen.known q ≡ longer (at c.seen.known q) (at s.seen.known q)
      pub cell_knew : (q : ℕ) → IsPrefix (at c.seen.known q) (at c'.seen.known q)
      pub behind : IsPrefix (at s.seen.known p) (at c.seen.known p)
      pub client_knew : (q : ℕ) → IsPrefix (at s.seen.known q) (at c'.seen.known q)
      pub same : (q : ℕ) → at s'.seen.known q ≡ at c'.seen.known q
      pub clock : c'.seen.stamp ≡ entry.stamp
      pub stamp : s'.seen.stamp ≡ entry.stamp
      pub number : s'.number ≡ s.number
      pub calls : s'.calls ≡ s.calls ++ (p, length (at c.seen.known p)) ∷ []
      pub is_new : calls_at p (length (at c.seen.known p)) s.calls ≡ 0
      pub table : s'.seen.table ≡ s.seen.table
      pub began : (c'.seen.began ≡ c.seen.began) × (s'.seen.began ≡ s.seen.began) × (s.seen.began ≡ c.seen.began)
