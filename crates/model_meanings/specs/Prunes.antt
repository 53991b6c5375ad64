-- A history at the moment after a prune.
use Rattle.std.specs.Prelude.{◌≡◌, ℕ, ◌<◌}
use Rattle.model_history.specs.Table.{identity_limit}
use Rattle.model_history.specs.History.{History, versions, with_record, IsHistory}
use Rattle.model_history.specs.History.Action.{Prune}

-- the history after its owner pruned an identity: one record more, whose past is the whole history
abbrev pub after_prune : {Op : Type 0} → History Op → (owner removed : ℕ) → History Op
after_prune H owner removed = with_record H owner (record { action = Prune removed; past = versions H })

-- whichever identity prunes whichever, the history means what it meant before
abbrev pub IsKeptByPrunes : {Op X : Type 0} → (History Op → X) → History Op → Type 0
IsKeptByPrunes meaning H = (owner removed : ℕ) → owner < identity_limit → IsHistory H → meaning (after_prune H owner removed) ≡ meaning H
