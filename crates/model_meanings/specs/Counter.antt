-- The meaning of counters. `amount` says how much an operation adds.
use Rattle.std.specs.Prelude.{ℕ, sum_by}
use Rattle.model_history.specs.History.{Action, Record, History, cut, by_past, all_records}
use Rattle.model_history.specs.History.Action.{Operation, Prune}

module _ {Op : Type 0} where
  -- what a record adds. A prune adds nothing
  abbrev pub amount_of : (Op → ℕ) → Action Op → ℕ
  amount_of amount (Operation op) = amount op
  amount_of amount (Prune r) = 0

  -- the sum of all amounts
  abbrev pub total : (Op → ℕ) → History Op → ℕ
  total amount H = sum_by (λ x. amount_of amount x.action) (all_records H)

  -- what a record brings to its origin's share: its amount, and by a prune the share of the pruned identity in the prune's past
  abbrev pub brought : (Op → ℕ) → (History Op → ℕ → ℕ) → History Op → Record Op → ℕ
  brought amount share_before H r = brought_by r.action
    where
      brought_by : Action Op → ℕ
      brought_by (Operation op) = amount op
      brought_by (Prune removed) = share_before (cut H r.past) removed

  -- the share of an identity: what its records bring
  abbrev pub share : (Op → ℕ) → History Op → ℕ → ℕ
  share amount = by_past 0 (λ share_before H i. sum_by (brought amount share_before H) (H i))
