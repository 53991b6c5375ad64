-- Which adding records are live, record by record of a log. Nothing here knows data.
use Rattle.std.specs.Prelude.{◌≡◌, ℕ, ◌<◌, ◌||◌, Bool, true}
use Rattle.model_history.specs.Texts.{Text}
use Rattle.model_history.specs.Vector.{VersionVector}
use Rattle.model_history.specs.History.{Action, History}
use Rattle.model_history.specs.History.Action.{Operation, Prune}
use Rattle.model_history.specs.Cuts.{action_of, past_of}
use Rattle.model_meanings.specs.ObservedRemove.{touches_by, touches}
use Rattle.model_kinds.specs.SixKinds.{set_operations, adds, removes}
use Rattle.model_kinds.specs.declared.operation.Op.{Op}

-- whether a record touches the element, which its past tells
unfoldable pub is_touching : History Op → Text → ℕ → ℕ → Bool
is_touching log e origin index = touches_by set_operations (touches set_operations e) e log (past_of log origin index) (action_of log origin index)

abbrev pub Touches : History Op → Text → ℕ → ℕ → Type 0
Touches log e origin index = is_touching log e origin index ≡ true

-- the record is an add of the element, or a prune that touches it
abbrev pub Adds : History Op → Text → ℕ → ℕ → Action Op → Type 0
Adds log e origin index (Operation op) = adds op e ≡ true
Adds log e origin index (Prune removed) = Touches log e origin index

-- an adding record of the history that no touching record of the history has in its past
pub record IsLive (log : History Op) (e : Text) (held : VersionVector) (origin index : ℕ) : Type 0 where
  pub within : index < held origin
  pub adds : Adds log e origin index (action_of log origin index)
  pub untouched : (other later : ℕ) → later < held other → Touches log e other later → index < past_of log other later origin → ⊥

-- an operation touches what it adds or removes, and a prune what is live of the pruned identity in its past
abbrev pub TouchesBy : History Op → Text → VersionVector → Action Op → Type 0
TouchesBy log e past (Operation op) = (adds op e || removes op e) ≡ true
TouchesBy log e past (Prune removed) = (index : ℕ) × IsLive log e past removed index
