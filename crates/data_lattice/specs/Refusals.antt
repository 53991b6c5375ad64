-- When a call may be refused: for want of memory, or by the refusal that the type means.
use Rattle.std.specs.Prelude.{◌≡◌, ◌⊎◌, Option, Some, option_map}
use Rattle.model_meanings.specs.Refusal.{Refusal, Shares}
use Rattle.model_meanings.specs.Refusal.Refusal.{Overflow, ClockSpent, SetFull}
use Rattle.data_lattice.specs.declared.answers.ApplyError.{ApplyError}
use Rattle.data_lattice.specs.declared.answers.ApplyError.TheVariants as apply
use Rattle.data_lattice.specs.declared.answers.PruneError.{PruneError}
use Rattle.data_lattice.specs.declared.answers.PruneError.TheVariants as prune

abbrev pub error_of : Refusal → ApplyError
error_of (Overflow share amount) = apply.Overflow share amount
error_of ClockSpent = apply.ClockSpent
error_of SetFull = apply.SetFull

abbrev pub IsApplyRefusal : Option Refusal → ApplyError → Type 0
IsApplyRefusal meant error = (error ≡ apply.Memory) ⊎ (option_map error_of meant ≡ Some error)

abbrev pub blocked_by : Shares → PruneError
blocked_by shares = prune.Blocked shares.owner shares.removed

abbrev pub IsPruneRefusal : Option Shares → PruneError → Type 0
IsPruneRefusal meant error = (error ≡ prune.Memory) ⊎ (option_map blocked_by meant ≡ Some error)
