-- What stands before a session's call in run order.
--     IsCallWithin        a call that was answered, in what became these histories
--     StandsBelow        an entry stands in a list, below a number
--     FollowsAllSeen        a call stands after all that its session had seen
--     CallsFollowAllSeen        so does every call
use Rattle.std.specs.Prelude.{◌≡◌, ℕ, ◌<◌, ◌≤◌, List, Some, slice_get}
use mathlib.Core.List.{IsPrefix}
use Rattle.thread_machine.specs.declared.machine.Machine.{Ghosts}
use Rattle.thread_machine.specs.declared.entry.Entry.{Entry}
use Rattle.thread_cell.specs.declared.receipt.Receipt.{Receipt}
use Rattle.thread_cell.specs.Lists.{at}
use Rattle.thread_cell.specs.Stamps.{IsTimed}
use Rattle.thread_cell.specs.Values.{ClientParts}
use Rattle.thread_cluster.specs.Knowing.{IsAnswered}
use Rattle.thread_run_order.specs.Orders.{AtPlace, IsRunOrder}

module _ {M I F O R : Type 0} where
  -- the call was answered; before it the session's stamp was what a session's always is; and what it knows after it are beginnings of the histories
  pub record IsCallWithin (meaning : Ghosts M I F O R) (histories : ℕ → List (Entry M I F O R)) (p : ℕ) (input : I) (old new : ClientParts M I F O R) (receipt : Receipt M I F O R) : Type 0 where
    pub answered : IsAnswered meaning p input old new receipt
    pub timed : IsTimed old.seen.known old.seen.stamp
    pub begins : (q : ℕ) → IsPrefix (at new.seen.known q) (histories q)

  module _ (xs : List (AtPlace (Entry M I F O R))) where
    -- the entry of this place stands in the list, below this number
    pub record StandsBelow (k p : ℕ) (entry : Entry M I F O R) : Type 0 where
      pub index : ℕ
      pub below : index < k
      pub stands : slice_get xs index ≡ Some (record { place = p; entry = entry })

    -- the call's entry stands in the list; and of each one at or after it, all that the session knew before the call stands earlier
    pub record FollowsAllSeen (old : ClientParts M I F O R) (p : ℕ) (entry : Entry M I F O R) : Type 0 where
      pub call : ℕ
      pub stands : slice_get xs call ≡ Some (record { place = p; entry = entry })
      pub earlier : (k q j : ℕ) (seen : Entry M I F O R) → call ≤ k → slice_get (at old.seen.known q) j ≡ Some seen → StandsBelow k q seen

  -- every call of a session stands after all that the session had seen, in each run order
  abbrev pub CallsFollowAllSeen : Ghosts M I F O R → Type 0
  CallsFollowAllSeen meaning =
      (histories : ℕ → List (Entry M I F O R)) (xs : List (AtPlace (Entry M I F O R))) → IsRunOrder histories xs
      → (p : ℕ) (input : I) (old new : ClientParts M I F O R) (receipt : Receipt M I F O R) → IsCallWithin meaning histories p input old new receipt
      → (entry : Entry M I F O R) → slice_get (histories p) receipt.index ≡ Some entry → FollowsAllSeen xs old p entry
