-- The share of an identity's first records, as a relation over a log: it doesn't depend on what else is held.
use Rattle.std.specs.Prelude.{◌≡◌, ℕ, ◌+◌}
use Rattle.model_history.specs.History.{History}
use Rattle.model_history.specs.History.Action.{Operation, Prune}
use Rattle.model_history.specs.Cuts.{action_of, past_of}

-- its own amounts, and for each of its prunes the share of the removed identity in the past of that prune
pub data HasShare {Op : Type 0} (amount : Op → ℕ) (log : History Op) : ℕ → ℕ → ℕ → Type 0 where
  nothing : (origin number share : ℕ) → number ≡ 0 → share ≡ 0 → HasShare amount log origin number share
  counted : (origin number share index before : ℕ) (op : Op) → number ≡ index + 1 → share ≡ before + amount op → action_of log origin index ≡ Operation op
      → HasShare amount log origin index before → HasShare amount log origin number share
  taken : (origin number share index before removed over : ℕ) → number ≡ index + 1 → share ≡ before + over → action_of log origin index ≡ Prune removed
      → HasShare amount log origin index before → HasShare amount log removed (past_of log origin index removed) over → HasShare amount log origin number share
