-- What levels need.
use Rattle.std.proofs.Common.{◌≡◌, ℕ, ◌+◌, ◌<◌, ◌≤◌, min, max, refl, arith, true, Some}
use Rattle.std.proofs.lemmas.Bool.Decides.{nat_tests}
use Rattle.std.specs.Prelude.{◌/◌, nat_le}
use Rattle.model_members.specs.Node.{Level, needed}

pub all_needed : (members : ℕ) → needed Level.All members ≡ Some members
all_needed members = let e : nat_le members members ≡ true = grind (arith, nat_tests) in rw e refl

pub majority_needed : (cap members : ℕ) → (n : ℕ) × (needed (Level.Majority cap) members ≡ Some n) × (n ≤ members) × (0 < members → members < n + n) × (cap ≤ members → cap ≤ n)
majority_needed cap members =
    let e : nat_le (min members (max (members / 2 + 1) cap)) members ≡ true = grind (arith, nat_tests) in
    (min members (max (members / 2 + 1) cap), rw e refl, omega arith, λ some. omega (arith, some), λ few. omega (arith, few))
