-- What a cluster is made of, and what it leaves.
use Rattle.std.specs.Prelude.{◌≡◌, ℕ, ◌≤◌, false, List, [], Option, Some, is_some, IfSome}
use Rattle.thread_cell.specs.declared.unnamed.Cells.{Cells}
use Rattle.thread_cell.specs.Lists.{at}
use Rattle.thread_cell.specs.Values.{CellParts}
use Rattle.thread_cluster.specs.declared.places.Identities.{Identities}
use Rattle.thread_cluster.specs.Passing.{Hears}

-- the cell of a place has no entry, and there is one exactly where there is an identity
pub record IsNew {M I F O R : Type 0} (ids : ℕ → Option ℕ) (p : ℕ) (cell : Option (CellParts M I F O R)) (id : Option ℕ) : Type 0 where
  pub id_is : ids p ≡ id
  pub both : is_some cell ≡ is_some id
  pub empty : (c : CellParts M I F O R) → cell ≡ Some c → at c.seen.known p ≡ []

pub record AreNew {M N I F O R : Type 0} (ids : ℕ → Option ℕ) (cells : Cells M N I F O R) (given : Identities) : Type 0 where
  pub p0 : IsNew ids 0 cells.p0 given.p0
  pub p1 : IsNew ids 1 cells.p1 given.p1
  pub p2 : IsNew ids 2 cells.p2 given.p2
  pub p3 : IsNew ids 3 cells.p3 given.p3
  pub p4 : IsNew ids 4 cells.p4 given.p4
  pub p5 : IsNew ids 5 cells.p5 given.p5
  pub p6 : IsNew ids 6 cells.p6 given.p6
  pub p7 : IsNew ids 7 cells.p7 given.p7
  pub within : (p : ℕ) → 8 ≤ p → is_some (ids p) ≡ false

-- each place with an identity has a cell, and no other place has
pub record AreWholeCells {M N I F O R : Type 0} (ids : ℕ → Option ℕ) (cells : Cells M N I F O R) : Type 0 where
  pub p0 : is_some cells.p0 ≡ is_some (ids 0)
  pub p1 : is_some cells.p1 ≡ is_some (ids 1)
  pub p2 : is_some cells.p2 ≡ is_some (ids 2)
  pub p3 : is_some cells.p3 ≡ is_some (ids 3)
  pub p4 : is_some cells.p4 ≡ is_some (ids 4)
  pub p5 : is_some cells.p5 ≡ is_some (ids 5)
  pub p6 : is_some cells.p6 ≡ is_some (ids 6)
  pub p7 : is_some cells.p7 ≡ is_some (ids 7)

-- what the member of each place took of each other one is what the other posted to it first
pub record AllHear {M N I F O R X : Type 0} (posted : ℕ → O → List X) (taken : ℕ → I → List X) (ids : ℕ → Option ℕ) (cells : Cells M N I F O R) : Type 0 where
  pub p0 : IfSome cells.p0 (λ (c : CellParts M I F O R). Hears posted taken ids 0 c.seen.known)
  pub p1 : IfSome cells.p1 (λ (c : CellParts M I F O R). Hears posted taken ids 1 c.seen.known)
  pub p2 : IfSome cells.p2 (λ (c : CellParts M I F O R). Hears posted taken ids 2 c.seen.known)
  pub p3 : IfSome cells.p3 (λ (c : CellParts M I F O R). Hears posted taken ids 3 c.seen.known)
  pub p4 : IfSome cells.p4 (λ (c : CellParts M I F O R). Hears posted taken ids 4 c.seen.known)
  pub p5 : IfSome cells.p5 (λ (c : CellParts M I F O R). Hears posted taken ids 5 c.seen.known)
  pub p6 : IfSome cells.p6 (λ (c : CellParts M I F O R). Hears posted taken ids 6 c.seen.known)
  pub p7 : IfSome cells.p7 (λ (c : CellParts M I F O R). Hears posted taken ids 7 c.seen.known)
