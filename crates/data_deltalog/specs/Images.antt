-- What a log stands for: the last own records of an entry, whose history is a part of a log.
use Rattle.std.specs.Prelude.{◌≡◌, ℕ, ◌+◌, ◌-◌, ◌<◌, length, min, slice_get, Option, Some}
use Rattle.model_history.specs.History.{History, IsHistory, at}
use Rattle.model_history.specs.Log.{IsTakenFrom}
use Rattle.model_history.specs.Cuts.{action_of, past_of}
use Rattle.model_members.specs.Entry.{Entry, is_prune}
use Rattle.base_vectors.specs.Vectors.{number_at}
use Rattle.data_deltalog.specs.Answers.{most_kept}
use Rattle.data_deltalog.specs.Contents.{LogParts, AgreeBut, lacks_delta}

-- what is kept of the record at an index: its delta, which a prune has not. Index 0 is the record with number 1
pub record IsKeptOf {Delta Op : Type 0} (IsDeltaOf : Delta → History Op → ℕ → ℕ → ℕ → Type 0) (own : Option Delta) (log : History Op) (origin index : ℕ) : Type 0 where
  pub placeholder : lacks_delta own ≡ is_prune (action_of log origin index)
  pub delta : (delta : Delta) → own ≡ Some delta → IsDeltaOf delta log origin index (index + 1)

-- the log keeps the last of its origin's records of the entry, at most so many, and what the past of the last has of the others
pub record StandsForLog {Kind Delta Op : Type 0} (IsDeltaOf : Delta → History Op → ℕ → ℕ → ℕ → Type 0) (parts : LogParts Kind Delta) (log : History Op) (entry : Entry Op) : Type 0 where
  pub histories : IsHistory log
  pub taken : IsTakenFrom log entry.history
  pub last : parts.last ≡ at entry.history parts.origin
  pub count : length parts.records ≡ min parts.last most_kept
  pub before : 0 < parts.last → AgreeBut parts.origin (number_at parts.before) (past_of log parts.origin (parts.last - 1))
  pub kept : (k : ℕ) (own : Option Delta) → slice_get parts.records k ≡ Some own → IsKeptOf IsDeltaOf own log parts.origin (parts.last - length parts.records + k)
