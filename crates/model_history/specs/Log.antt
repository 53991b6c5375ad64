-- A log: all records that a run made of a key. Histories are parts of it.
use Rattle.std.specs.Prelude.{ℕ}
use Rattle.model_history.specs.Vector.{Covers}
use Rattle.model_history.specs.History.{Record, History, versions, HasRecord, IsPartOf}

-- H is a part of the log that holds the pasts of its records
pub record IsTakenFrom {Op : Type 0} (log H : History Op) : Type 0 where
  pub part : IsPartOf H log
  pub closed : (i k : ℕ) (r : Record Op) → HasRecord H i k r → Covers (versions H) r.past
