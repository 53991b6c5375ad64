-- What the calls of a flag compute, and what its data are.
use Rattle.std.specs.Prelude.{ℕ, Bool, true, false, ◌||◌}
use Rattle.model_history.specs.Vector.{VersionVector}
use Rattle.model_history.specs.History.{History}
use Rattle.data_growing.specs.Recorded.{Tells, IsRecordedBetween}
use Rattle.data_growing.specs.declared.flag.Flag.{Flag}

abbrev pub flag_off : Flag
flag_off = record { on = false }

abbrev pub flag_on : Flag
flag_on = record { on = true }

abbrev pub flag_joined : Flag → Flag → Flag
flag_joined state other = record { on = state.on || other.on }

-- on exactly where a held record switches on
abbrev pub IsFlagOf : {Op : Type 0} → (Op → Bool) → Flag → History Op → VersionVector → Type 0
IsFlagOf on state log held = Tells on log state.on held

-- one of an origin's records switches on
abbrev pub IsSwitchedOn : {Op : Type 0} → (Op → Bool) → History Op → ℕ → ℕ → ℕ → Type 0
IsSwitchedOn on log origin after to = IsRecordedBetween on log origin after to
