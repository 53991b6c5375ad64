-- Why an operation or a prune is refused.
use Rattle.std.specs.Prelude.{ℕ, ◌+◌, ◌-◌, ◌^◌, List, length, ◌&&◌, not, nat_lt, nat_le, if◌then◌else◌, Option, None, Some}
use Rattle.model_history.specs.Texts.{Text, contains_text}

pub data Refusal : Type 0 where
  Overflow : (share amount : ℕ) → Refusal
  ClockSpent : Refusal
  SetFull : Refusal

-- two shares that add to more than one identity may hold
pub record Shares : Type 0 where
  pub owner : ℕ
  pub removed : ℕ

-- the most that one identity may hold, and the greatest timestamp
abbrev pub greatest_share : ℕ
greatest_share = 2 ^ 63 - 1

-- the most elements of a set
abbrev pub greatest_set : ℕ
greatest_set = 256

abbrev pub overflow : ℕ → ℕ → Option Refusal
overflow share amount = if nat_lt greatest_share (share + amount) then Some (Refusal.Overflow share amount) else None

abbrev pub full : Text → List Text → Option Refusal
full e elements = if nat_le greatest_set (length elements) && not (contains_text elements e) then Some Refusal.SetFull else None

-- the shares, if they are too much, and else what another test says
abbrev pub too_much : ℕ → ℕ → Option Shares → Option Shares
too_much owner removed otherwise = if nat_lt greatest_share (owner + removed) then Some (record { owner = owner; removed = removed }) else otherwise
