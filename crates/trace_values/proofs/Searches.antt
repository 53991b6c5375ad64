-- The first identity that passes a test.
use Rattle.std.proofs.Common.{◌≡◌, ℕ, zero, suc, ◌+◌, ◌<◌, List, refl, sym, ap, ◌∙◌, arith, Bool, true, false, Some, None}
use Rattle.std.specs.Prelude.{find, if◌then◌else◌}
use Rattle.std.specs.List.{range_with_len}
use Rattle.model_history.specs.Table.{identity_limit}
use Rattle.model_history.specs.Vector.{VersionVector}
use Rattle.trace_values.specs.declared.writes.LastWrite.{LastWrite}
use Rattle.trace_values.specs.Writes.{has_newest, first_newest}

find_from : (p : ℕ → Bool) (first len n : ℕ) → n < len → ((j : ℕ) → j < n → p (first + j) ≡ false) → p (first + n) ≡ true → find p (range_with_len first len) ≡ Some (first + n)
find_from p first zero n small before here = absurd (omega (arith, small))
find_from p first (suc len) zero small before here =
    let e : first + 0 ≡ first = omega arith in
    ap (λ b. if b then Some first else find p (range_with_len (first + 1) len)) (ap p (sym e) ∙ here) ∙ ap Some (sym e)
find_from p first (suc len) (suc n) small before here =
    let e : first + 0 ≡ first = omega arith in
    let next : first + suc n ≡ (first + 1) + n = omega arith in
    ap (λ b. if b then Some first else find p (range_with_len (first + 1) len)) (ap p (sym e) ∙ before 0 (omega arith))
    ∙ find_from p (first + 1) len n (omega (arith, small)) (λ j h. let f : (first + 1) + j ≡ first + suc j = omega arith in ap p f ∙ before (suc j) (omega (arith, h))) (ap p (sym next) ∙ here) ∙ ap Some (sym next)

find_none : (p : ℕ → Bool) (first len : ℕ) → ((j : ℕ) → j < len → p (first + j) ≡ false) → find p (range_with_len first len) ≡ None
find_none p first zero none = refl
find_none p first (suc len) none =
    let e : first + 0 ≡ first = omega arith in
    ap (λ b. if b then Some first else find p (range_with_len (first + 1) len)) (ap p (sym e) ∙ none 0 (omega arith))
    ∙ find_none p (first + 1) len (λ j h. let f : (first + 1) + j ≡ first + suc j = omega arith in ap p f ∙ none (suc j) (omega (arith, h)))

from_zero : (j : ℕ) → 0 + j ≡ j
from_zero j = omega arith

module _ (writes : List (List LastWrite)) (known : VersionVector) (newest n : ℕ) (before : (j : ℕ) → j < n → has_newest writes known newest j ≡ false) where
  pub first_found : n < identity_limit → has_newest writes known newest n ≡ true → first_newest writes known newest ≡ Some n
  unfolding first_newest
  first_found small here =
      find_from (has_newest writes known newest) 0 identity_limit n small (λ j h. ap (has_newest writes known newest) (from_zero j) ∙ before j h) (ap (has_newest writes known newest) (from_zero n) ∙ here)
      ∙ ap Some (from_zero n)

  pub none_found : n ≡ identity_limit → first_newest writes known newest ≡ None
  unfolding first_newest
  none_found all = find_none (has_newest writes known newest) 0 identity_limit (λ j h. ap (has_newest writes known newest) (from_zero j) ∙ before j (omega (arith, all, h)))
