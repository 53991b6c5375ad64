-- The timestamps of a log's records. That of a record depends on its past alone, whatever else is held.
use Rattle.std.specs.Prelude.{ℕ, Option}
use Rattle.model_history.specs.History.{History, cut}
use Rattle.model_history.specs.Cuts.{action_of, past_of}
use Rattle.model_meanings.specs.Growing.{Assignment, found, timestamp_after, newest}

module _ {Op : Type 0} (assigned : Op → Option Assignment) (log : History Op) where
  -- what a record writes, if it is a write
  abbrev pub assignment_at : ℕ → ℕ → Option Assignment
  assignment_at origin index = found assigned (action_of log origin index)

  -- 0 where it is none
  abbrev pub timestamp_at : ℕ → ℕ → ℕ
  timestamp_at origin index = timestamp_after (newest assigned (cut log (past_of log origin index))) (assignment_at origin index)
