-- What a log answers of the own records after a number, by the model's rule of what a flush sends.
use Rattle.std.specs.Prelude.{ℕ, length, drop, nat_le, nat_lt, if◌then◌else◌}
use Rattle.std.specs.List.{list_any}
use Rattle.model_history.specs.History.{Record, at}
use Rattle.model_members.specs.Entry.{Entry, is_prune}

-- a member keeps so many of its last own records of a key
abbrev pub most_kept : ℕ
most_kept = 50

pub data Answer : Type 0 where
  Nothing : Answer
  TooOld : Answer
  NoDelta : Answer
  AsGroup : Answer

-- a group exactly where records follow, no more than are kept, and none of them is a prune
abbrev pub answer_for : {Op : Type 0} → Entry Op → ℕ → ℕ → Answer
answer_for {Op} entry origin after =
    if nat_le (at entry.history origin) after then Nothing
    else (if nat_lt most_kept (length (drop after (entry.history origin))) then TooOld
    else (if list_any (λ (r : Record Op). is_prune r.action) (drop after (entry.history origin)) then NoDelta else AsGroup))
