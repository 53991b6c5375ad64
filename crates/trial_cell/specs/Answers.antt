-- What a call under a lock tells its session.
use Rattle.std.specs.Prelude.{◌≡◌, ℕ, ◌+◌, ◌<◌, [], ◌∷◌, ◌++◌, take, slice_get, Option, Some, None}
use mathlib.Core.List.{IsPrefix}
use Rattle.thread_machine.specs.Machines.{machine_at}
use Rattle.thread_cell.specs.declared.opening.Opening.{Opening}
use Rattle.thread_cell.specs.declared.receipt.Receipt.{Receipt}
use Rattle.thread_cell.specs.Lists.{at}
use Rattle.thread_cell.specs.Values.{OfClient, OfMachine}
use Rattle.trial_cell.specs.declared.shelf.Fate.{Fate}
use Rattle.trial_cell.specs.declared.tally.Overflow.{Overflow}
use Rattle.trial_cell.specs.declared.tally.Tally.{Tally}
use Rattle.trial_cell.specs.Tallies.{Added, amounts}

abbrev pub Beginning : Type 0
Beginning = Opening Tally ℕ Fate ℕ Overflow

abbrev pub Client : Type 0
Client = OfClient Added Beginning

abbrev pub Place : Type 0
Place = OfMachine Tally Added Beginning

-- the tally of a place began as this
pub record StartsAt (p : ℕ) (began : Option Beginning) (start : Tally) : Type 0 where
  pub opening : Beginning
  pub opening_is : began ≡ Some opening
  pub start_is : machine_at opening.machines p ≡ Some start

-- the session is of the same client and table, and knows all that it knew
pub record GoesOn (old new : Client) : Type 0 where
  pub number : new.number ≡ old.number
  pub table : new.seen.table ≡ old.seen.table
  pub began : new.seen.began ≡ old.seen.began
  pub knows : (p : ℕ) → IsPrefix (at old.seen.known p) (at new.seen.known p)

-- the session knows the entry of its call, which it didn't know, and the answer is the total there
pub record IsAnswered (p amount : ℕ) (old new : Client) (receipt : Receipt Tally ℕ Fate ℕ Overflow) : Type 0 where
  pub entry : Added
  pub place : receipt.place ≡ p
  pub stands : slice_get (at new.seen.known p) receipt.index ≡ Some entry
  pub is_new : slice_get (at old.seen.known p) receipt.index ≡ None
  pub input_is : entry.input ≡ amount
  pub client_is : entry.client ≡ old.number
  pub stamp_is : entry.stamp ≡ receipt.stamp
  pub output_is : entry.output ≡ receipt.output
  pub later : old.seen.stamp < receipt.stamp
  pub calls : new.calls ≡ old.calls ++ (p, receipt.index) ∷ []
  pub start : Tally
  pub starts : StartsAt p old.seen.began start
  pub total : receipt.output ≡ start.total + amounts (take (receipt.index + 1) (at new.seen.known p))
  pub goes_on : GoesOn old new

-- the number is the total after all that the session then knows of the place
pub record IsShown (p : ℕ) (old new : Client) (number : ℕ) : Type 0 where
  pub start : Tally
  pub starts : StartsAt p old.seen.began start
  pub total : number ≡ start.total + amounts (at new.seen.known p)
  pub calls : new.calls ≡ old.calls
  pub goes_on : GoesOn old new
