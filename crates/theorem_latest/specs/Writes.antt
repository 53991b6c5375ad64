-- The last write of each identity.
use Rattle.std.specs.Prelude.{ℕ, zero, suc, ◌-◌, ◌==◌, Bool, ◌&&◌, not, if◌then◌else◌, Option, is_some, map, find, option_map}
use Rattle.model_history.specs.Table.{identities}
use Rattle.model_history.specs.History.{History, Stamped, at}
use Rattle.model_history.specs.Cuts.{record_at}
use Rattle.model_meanings.specs.Growing.{Assignment, greatest, found, timestamp}

module _ {Op : Type 0} (assigned : Op → Option Assignment) (H : History Op) where
  -- the record of an origin at an index, with its number
  abbrev pub record_of : ℕ → ℕ → Stamped Op
  record_of i k = let r = record_at H i k in record { origin = i; number = suc k; action = r.action; past = r.past }

  abbrev pub writes_at : ℕ → ℕ → Bool
  writes_at i k = is_some (found assigned (record_of i k).action)

  -- the number of the last write of the first so many records of an identity; 0 where none is
  abbrev pub last_write : ℕ → ℕ → ℕ
  last_write i zero = 0
  last_write i (suc k) = if writes_at i k then suc k else last_write i k

  abbrev pub last_write_of : ℕ → Stamped Op
  last_write_of i = record_of i (last_write i (at H i) - 1)

  -- its timestamp
  abbrev pub last_timestamp : ℕ → ℕ
  last_timestamp i = if last_write i (at H i) == 0 then 0 else timestamp assigned H (last_write_of i)

  abbrev pub last_newest : ℕ
  last_newest = greatest (map last_timestamp identities)

  -- of the last writes the one with the greatest timestamp, and among these of the least origin
  abbrev pub last_winner : Option (Stamped Op)
  last_winner = option_map last_write_of (find (λ i. not (last_newest == 0) && (last_timestamp i == last_newest)) identities)
