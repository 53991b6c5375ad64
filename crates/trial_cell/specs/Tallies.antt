-- Tallies: what a step does, and what a history comes to.
use Rattle.std.specs.Prelude.{◌≡◌, ℕ, ◌+◌, List, [], ◌∷◌, Some, count_by}
use Rattle.thread_machine.specs.declared.entry.Entry.{Entry}
use Rattle.thread_machine.specs.declared.machines.Machines.{Machines}
use Rattle.thread_machine.specs.Machines.{machine_at}
use Rattle.thread_machine.specs.Faults.{RoseBy}
use Rattle.thread_cell.specs.declared.histories.Histories.{Histories}
use Rattle.thread_cell.specs.Entries.{history_at}
use Rattle.trial_cell.specs.declared.shelf.Fate.{Fate}
use Rattle.trial_cell.specs.declared.tally.Overflow.{Overflow}
use Rattle.trial_cell.specs.declared.tally.Tally.{Tally}
use Rattle.trial_cell.specs.Shelves.{Tells, is_lost, held_after}

abbrev pub Added : Type 0
Added = Entry Tally ℕ Fate ℕ Overflow

-- the amount is added, the new total is the answer, and it is put on the shelf
pub record IsStep (before : Tally) (amount : ℕ) (fate : Fate) (output : ℕ) (after : Tally) : Type 0 where
  pub total : after.total ≡ before.total + amount
  pub output_is : output ≡ after.total
  pub told : (held : ℕ) → Tells before.shelf held → Tells after.shelf (held_after fate output held)

-- the amounts of a history
abbrev pub amounts : List Added → ℕ
amounts [] = 0
amounts (e ∷ history) = e.input + amounts history

-- what a shelf holds after a history
abbrev pub held_replayed : ℕ → List Added → ℕ
held_replayed held [] = held
held_replayed held (e ∷ history) = held_replayed (held_after e.fate e.output held) history

-- what a history comes to
pub record IsTallied (start : Tally) (history : List Added) (now : Tally) : Type 0 where
  pub total : now.total ≡ start.total + amounts history
  pub told : (held : ℕ) → Tells start.shelf held → Tells now.shelf (held_replayed held history)
  pub faults : RoseBy (count_by (λ (e : Added). is_lost e.fate) history) start.shelf.faults now.shelf.faults

-- the tally of each place
pub record AreTallied (starts nows : Machines Tally ℕ Fate ℕ Overflow) (histories : Histories Tally ℕ Fate ℕ Overflow) : Type 0 where
  pub each : (p : ℕ) (start : Tally) → machine_at starts p ≡ Some start → (now : Tally) × (machine_at nows p ≡ Some now) × IsTallied start (history_at histories p) now
