-- Counts of faults, as the causes of refusals.
use Rattle.std.specs.Prelude.{◌≡◌, ℕ, ◌+◌, ◌-◌, ◌^◌, ◌≤◌, min, Result, OnErr, MatchResult}

-- A count of 64 bits, one higher. It stands at its last value.
abbrev pub raised : ℕ → ℕ
raised n = min (n + 1) (2 ^ 64 - 1)

-- The count rose. One that stands at its last value counts as risen.
abbrev pub Rose : ℕ → ℕ → Type 0
Rose before now = raised before ≤ now

-- The count did not fall, and a refusal comes only where it rose.
pub record HasCause {T E : Type 0} (before now : ℕ) (result : Result T E) : Type 0 where
  pub later : before ≤ now
  pub failed : OnErr result (Rose before now)

-- The count rises by one at a refusal, and at nothing else.
abbrev pub CountsRefusals : {T E : Type 0} → ℕ → ℕ → Result T E → Type 0
CountsRefusals before now result = MatchResult result (λ _. now ≡ before) (λ _. now ≡ raised before)
