-- The records of histories that are taken from a log.
use Rattle.std.specs.Prelude.{◌≡◌, ℕ, Some, slice_get}
use Rattle.model_history.specs.History.{History, Stamped, all_records, IsHistory}
use Rattle.model_history.specs.Log.{IsTakenFrom}

-- it holds of every record of a history that is taken from a log
abbrev pub OfTakenRecords : {Op : Type 0} → (History Op → History Op → Stamped Op → Type 0) → Type 0
OfTakenRecords {Op} Holds = (log H : History Op) → IsHistory log → IsTakenFrom log H → (k : ℕ) (x : Stamped Op) → slice_get (all_records H) k ≡ Some x → Holds log H x
