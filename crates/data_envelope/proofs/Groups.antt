-- Groups with the same fields are the same, whatever the proofs beside them.
use Rattle.std.proofs.Common.{◌≡◌, ℕ, ◌<◌, ◌≤◌, ◌^◌}
use Rattle.std.proofs.Math.Bridge.{le_prop}
use mathlib.Core.Logic.{∥∥₁_prop}
use mathlib.Core.HLevel.{is_prop→PathP}
use Rattle.data_lattice.specs.declared.replica.Replica.{Ghosts}
use Rattle.data_envelope.specs.declared.group.Group.{Group}

numbers_once : (after upto : ℕ) → IsProp ((after < upto) × (upto ≤ 2 ^ 62))
numbers_once after upto = hlevel (le_prop)

module _ {T Kind Op Delta : Type 0} {ghosts : Ghosts T Kind Op Delta} where
  pub same_group : (a b : Group T Kind Op Delta ghosts) → a.origin ≡ b.origin → a.after ≡ b.after → a.upto ≡ b.upto → a.needs ≡ b.needs → a.delta ≡ b.delta → a ≡ b
  same_group a b origin after upto needs delta = λ i. record {
    origin = origin i;
    after = after i;
    upto = upto i;
    numbers = is_prop→PathP (λ j. (after j < upto j) × (upto j ≤ 2 ^ 62)) (λ j. numbers_once (after j) (upto j)) a.numbers b.numbers i;
    needs = needs i;
    delta = delta i;
    of_origin = is_prop→PathP (λ j. ∥ ghosts.IsOfOrigin (delta j) (origin j) ∥₁) (λ j. ∥∥₁_prop) a.of_origin b.of_origin i;
  }
