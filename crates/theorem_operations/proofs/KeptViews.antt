-- Membership by the last view: its number never falls, and rises where a member leaves, joins or restarts.
use Rattle.std.proofs.Common.{◌≡◌, ◌≤◌, List, [], ◌∷◌, ap, arith}
use Rattle.std.specs.List.{AllByRecursion}
use Rattle.model_members.specs.View.{View}
use Rattle.model_members.specs.DataType.{Replication}
use Rattle.model_members.specs.World.{World, Event, happens, run}
use Rattle.model_members.specs.World.Event.{InputAt, Delivery, Loss, Removal, Joining, Restart}
use Rattle.theorem_operations.specs.Quorum.{KeepsMembers}
use Rattle.theorem_operations.proofs.Moments.{view_stays}

module _ {Kind Op Shown : Type 0} (D : Replication Kind Op Shown) where
  same_number : (world : World Kind Op Shown) (event : Event Op) → KeepsMembers event → (happens D world event).view.number ≡ world.view.number
  same_number world event keeps = ap (λ (v : View). v.number) (view_stays D world event keeps)

  rises : (world : World Kind Op Shown) (event : Event Op) → world.view.number ≤ (happens D world event).view.number
  rises world (InputAt i input fate) = let e = same_number world (InputAt i input fate) tt in omega arith
  rises world (Delivery from to index fate) = let e = same_number world (Delivery from to index fate) tt in omega arith
  rises world (Loss from to) = omega arith
  rises world (Removal i) = omega arith
  rises world (Joining place) = omega arith
  rises world (Restart i) = omega arith

  pub rises_along : (world : World Kind Op Shown) (events : List (Event Op)) → world.view.number ≤ (run D world events).view.number
  rises_along world [] = omega arith
  rises_along world (event ∷ events) = let a = rises world event in let b = rises_along (happens D world event) events in omega arith

  kept : (world : World Kind Op Shown) (event : Event Op) → (happens D world event).view.number ≡ world.view.number → KeepsMembers event
  kept world (InputAt i input fate) same = tt
  kept world (Delivery from to index fate) same = tt
  kept world (Loss from to) same = tt
  kept world (Removal i) same = absurd (omega arith)
  kept world (Joining place) same = absurd (omega arith)
  kept world (Restart i) same = absurd (omega arith)

  -- where the number is the same at the end, nobody left, joined or restarted
  pub kept_along : (world : World Kind Op Shown) (events : List (Event Op)) → (run D world events).view.number ≡ world.view.number → AllByRecursion KeepsMembers events
  kept_along world [] same = tt
  kept_along world (event ∷ events) same =
      let a = rises world event in
      let b = rises_along (happens D world event) events in
      let next : (happens D world event).view.number ≡ world.view.number = omega arith in
      let rest : (run D (happens D world event) events).view.number ≡ (happens D world event).view.number = omega arith in
      (kept world event next, kept_along (happens D world event) events rest)
