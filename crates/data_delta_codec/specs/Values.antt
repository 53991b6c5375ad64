-- Changes of values of any kind as bytes: those of their kind, whose byte is told beside them.
use Rattle.std.specs.Prelude.{ℕ, List, Result}
use Rattle.base_bytes.specs.declared.fault.Fault.{Fault}
use Rattle.model_kinds.specs.declared.kind.Kind.{Kind}
use Rattle.model_kinds.specs.declared.kind.Kind.TheVariants as kinds
use Rattle.data_value.specs.Spelled.{byte_of, kind_at, told_as}
use Rattle.data_value.specs.Values.{kind_of_delta}
use Rattle.data_value.specs.declared.value.Change.{Change}
use Rattle.data_value.specs.declared.value.Change.TheVariants.{GCounter, PnCounter, GSet, OrSet, Flag, LwwRegister}
use Rattle.data_delta_codec.specs.contracts.counters.GCounterSpelledDelta.TheImpl.{ghosts as gcounter}
use Rattle.data_delta_codec.specs.contracts.counters.PnCounterSpelledDelta.TheImpl.{ghosts as pncounter}
use Rattle.data_delta_codec.specs.contracts.growing.GSetSpelledDelta.TheImpl.{ghosts as gset}
use Rattle.data_delta_codec.specs.contracts.sets.OrSetSpelledDelta.TheImpl.{ghosts as orset}
use Rattle.data_delta_codec.specs.contracts.growing.FlagSpelledDelta.TheImpl.{ghosts as flag}
use Rattle.data_delta_codec.specs.contracts.growing.LwwRegisterSpelledDelta.TheImpl.{ghosts as register}

abbrev pub delta_byte : Change → ℕ
delta_byte x = byte_of (kind_of_delta x)

abbrev pub IsSoundDelta : Change → Type 0
IsSoundDelta (GCounter x) = gcounter.IsSoundDelta x
IsSoundDelta (PnCounter x) = pncounter.IsSoundDelta x
IsSoundDelta (GSet x) = gset.IsSoundDelta x
IsSoundDelta (OrSet x) = orset.IsSoundDelta x
IsSoundDelta (Flag x) = flag.IsSoundDelta x
IsSoundDelta (LwwRegister x) = register.IsSoundDelta x

abbrev pub delta_spelled : Change → List ℕ
delta_spelled (GCounter x) = gcounter.delta_spelled x
delta_spelled (PnCounter x) = pncounter.delta_spelled x
delta_spelled (GSet x) = gset.delta_spelled x
delta_spelled (OrSet x) = orset.delta_spelled x
delta_spelled (Flag x) = flag.delta_spelled x
delta_spelled (LwwRegister x) = register.delta_spelled x

abbrev pub delta_of : Kind → ℕ → List ℕ → Result (Change × List ℕ) Fault
delta_of kinds.GCounter origin bytes = told_as GCounter (gcounter.delta_in 1 origin bytes)
delta_of kinds.PnCounter origin bytes = told_as PnCounter (pncounter.delta_in 2 origin bytes)
delta_of kinds.GSet origin bytes = told_as GSet (gset.delta_in 3 origin bytes)
delta_of kinds.OrSet origin bytes = told_as OrSet (orset.delta_in 4 origin bytes)
delta_of kinds.Flag origin bytes = told_as Flag (flag.delta_in 5 origin bytes)
delta_of kinds.LwwRegister origin bytes = told_as LwwRegister (register.delta_in 6 origin bytes)

abbrev pub delta_in : ℕ → ℕ → List ℕ → Result (Change × List ℕ) Fault
delta_in byte origin bytes = delta_of (kind_at byte) origin bytes
