-- Values of any kind as bytes: those of their kind, whose byte is told beside them.
use Rattle.std.specs.Prelude.{ℕ, List, ◌&&◌, ◌==◌, Bool, nat_le, if◌then◌else◌, Result, Ok}
use Rattle.model_history.specs.Vector.{IdentitySet}
use Rattle.model_history.specs.History.{History}
use Rattle.base_bytes.specs.declared.fault.Fault.{Fault}
use Rattle.base_bytes.specs.Fields.{◌>>=◌}
use Rattle.model_kinds.specs.declared.kind.Kind.{Kind}
use Rattle.model_kinds.specs.declared.kind.Kind.TheVariants as kinds
use Rattle.model_kinds.specs.declared.operation.Op.{Op}
use Rattle.data_counters.specs.contracts.spelled.GCounterSpelledData.TheImpl.{ghosts as gcounter}
use Rattle.data_counters.specs.contracts.spelled.PnCounterSpelledData.TheImpl.{ghosts as pncounter}
use Rattle.data_growing.specs.contracts.set.GSetSpelledData.TheImpl.{ghosts as gset}
use Rattle.data_orset.specs.contracts.spelled.OrSetSpelledData.TheImpl.{ghosts as orset}
use Rattle.data_growing.specs.contracts.flag.FlagSpelledData.TheImpl.{ghosts as flag}
use Rattle.data_growing.specs.contracts.register.LwwRegisterSpelledData.TheImpl.{ghosts as register}
use Rattle.data_value.specs.declared.value.Value.{Value}
use Rattle.data_value.specs.declared.value.Value.TheVariants.{GCounter, PnCounter, GSet, OrSet, Flag, LwwRegister}

-- the bytes of the kinds are 1 to 6
abbrev pub byte_of : Kind → ℕ
byte_of kinds.GCounter = 1
byte_of kinds.PnCounter = 2
byte_of kinds.GSet = 3
byte_of kinds.OrSet = 4
byte_of kinds.Flag = 5
byte_of kinds.LwwRegister = 6

abbrev pub is_known : ℕ → Bool
is_known byte = nat_le 1 byte && nat_le byte 6

-- the kind of a byte
abbrev pub kind_at : ℕ → Kind
kind_at byte =
    if byte == 1 then kinds.GCounter else (if byte == 2 then kinds.PnCounter else (if byte == 3 then kinds.GSet else (if byte == 4 then kinds.OrSet else (if byte == 5 then kinds.Flag else kinds.LwwRegister))))

abbrev pub IsSound : Value → Type 0
IsSound (GCounter state) = gcounter.IsSound state
IsSound (PnCounter state) = pncounter.IsSound state
IsSound (GSet state) = gset.IsSound state
IsSound (OrSet state) = orset.IsSound state
IsSound (Flag state) = flag.IsSound state
IsSound (LwwRegister state) = register.IsSound state

abbrev pub spelled : Value → List ℕ
spelled (GCounter state) = gcounter.spelled state
spelled (PnCounter state) = pncounter.spelled state
spelled (GSet state) = gset.spelled state
spelled (OrSet state) = orset.spelled state
spelled (Flag state) = flag.spelled state
spelled (LwwRegister state) = register.spelled state

-- what was read, as something else
abbrev pub told_as : {X Y : Type 0} → (X → Y) → Result (X × List ℕ) Fault → Result (Y × List ℕ) Fault
told_as make read = read >>= λ found. Ok (make found.0, found.1)

abbrev pub read_of : Kind → IdentitySet → List ℕ → Result (Value × List ℕ) Fault
read_of kinds.GCounter barred bytes = told_as GCounter (gcounter.read_in 1 barred bytes)
read_of kinds.PnCounter barred bytes = told_as PnCounter (pncounter.read_in 2 barred bytes)
read_of kinds.GSet barred bytes = told_as GSet (gset.read_in 3 barred bytes)
read_of kinds.OrSet barred bytes = told_as OrSet (orset.read_in 4 barred bytes)
read_of kinds.Flag barred bytes = told_as Flag (flag.read_in 5 barred bytes)
read_of kinds.LwwRegister barred bytes = told_as LwwRegister (register.read_in 6 barred bytes)

abbrev pub read_in : ℕ → IdentitySet → List ℕ → Result (Value × List ℕ) Fault
read_in byte barred bytes = read_of (kind_at byte) barred bytes

abbrev pub history_spelled : Kind → History Op → List ℕ
history_spelled kinds.GCounter H = gcounter.history_spelled tt H
history_spelled kinds.PnCounter H = pncounter.history_spelled tt H
history_spelled kinds.GSet H = gset.history_spelled tt H
history_spelled kinds.OrSet H = orset.history_spelled tt H
history_spelled kinds.Flag H = flag.history_spelled tt H
history_spelled kinds.LwwRegister H = register.history_spelled tt H
