-- Which places have a member.
use Rattle.std.specs.Prelude.{◌≡◌, ℕ, ◌≤◌, Bool, false, Option, is_some}

-- each of the eight places has one exactly where it has an identity, and no other place has
pub record AreWhole (ids : ℕ → Option ℕ) (b0 b1 b2 b3 b4 b5 b6 b7 : Bool) : Type 0 where
  pub p0 : b0 ≡ is_some (ids 0)
  pub p1 : b1 ≡ is_some (ids 1)
  pub p2 : b2 ≡ is_some (ids 2)
  pub p3 : b3 ≡ is_some (ids 3)
  pub p4 : b4 ≡ is_some (ids 4)
  pub p5 : b5 ≡ is_some (ids 5)
  pub p6 : b6 ≡ is_some (ids 6)
  pub p7 : b7 ≡ is_some (ids 7)
  pub within : (p : ℕ) → 8 ≤ p → is_some (ids p) ≡ false
