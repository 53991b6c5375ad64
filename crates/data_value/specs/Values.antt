-- What the calls of a value of any kind compute, and what its data are: those of its kind.
use Rattle.std.specs.Prelude.{ℕ, Bool, true, false, Option}
use Rattle.model_history.specs.Vector.{VersionVector, IdentitySet}
use Rattle.model_history.specs.History.{History}
use Rattle.model_meanings.specs.Refusal.{Refusal, Shares}
use Rattle.base_vectors.specs.declared.id.Dot.{Dot}
use Rattle.model_kinds.specs.declared.kind.Kind.{Kind}
use Rattle.model_kinds.specs.declared.kind.Kind.TheVariants as kinds
use Rattle.model_kinds.specs.declared.operation.Op.{Op}
use Rattle.model_kinds.specs.declared.shown.Shown.{Shown}
use Rattle.data_counters.specs.contracts.replica.GCounterReplica.TheImpl.{ghosts as gcounter}
use Rattle.data_counters.specs.contracts.signed.PnCounterReplica.TheImpl.{ghosts as pncounter}
use Rattle.data_growing.specs.contracts.set.GSetReplica.TheImpl.{ghosts as gset}
use Rattle.data_orset.specs.contracts.replica.OrSetReplica.TheImpl.{ghosts as orset}
use Rattle.data_growing.specs.contracts.flag.FlagReplica.TheImpl.{ghosts as flag}
use Rattle.data_growing.specs.contracts.register.LwwRegisterReplica.TheImpl.{ghosts as register}
use Rattle.data_value.specs.declared.value.Value.{Value}
use Rattle.data_value.specs.declared.value.Value.TheVariants.{GCounter, PnCounter, GSet, OrSet, Flag, LwwRegister}
use Rattle.data_value.specs.declared.value.Change.{Change}
use Rattle.data_value.specs.declared.value.Change.TheVariants as changes

abbrev pub kind_of : Value → Kind
kind_of (GCounter state) = kinds.GCounter
kind_of (PnCounter state) = kinds.PnCounter
kind_of (GSet state) = kinds.GSet
kind_of (OrSet state) = kinds.OrSet
kind_of (Flag state) = kinds.Flag
kind_of (LwwRegister state) = kinds.LwwRegister

abbrev pub kind_of_delta : Change → Kind
kind_of_delta (changes.GCounter change) = kinds.GCounter
kind_of_delta (changes.PnCounter change) = kinds.PnCounter
kind_of_delta (changes.GSet change) = kinds.GSet
kind_of_delta (changes.OrSet change) = kinds.OrSet
kind_of_delta (changes.Flag change) = kinds.Flag
kind_of_delta (changes.LwwRegister change) = kinds.LwwRegister

abbrev pub are_same : Kind → Kind → Bool
are_same kinds.GCounter kinds.GCounter = true
are_same kinds.PnCounter kinds.PnCounter = true
are_same kinds.GSet kinds.GSet = true
are_same kinds.OrSet kinds.OrSet = true
are_same kinds.Flag kinds.Flag = true
are_same kinds.LwwRegister kinds.LwwRegister = true
are_same _ _ = false

-- the delta is of this kind
abbrev pub fits_kind : Kind → Change → Bool
fits_kind kind delta = are_same kind (kind_of_delta delta)

abbrev pub IsOfOrigin : Change → ℕ → Type 0
IsOfOrigin (changes.GCounter change) origin = gcounter.IsOfOrigin change origin
IsOfOrigin (changes.PnCounter change) origin = pncounter.IsOfOrigin change origin
IsOfOrigin (changes.GSet change) origin = gset.IsOfOrigin change origin
IsOfOrigin (changes.OrSet change) origin = orset.IsOfOrigin change origin
IsOfOrigin (changes.Flag change) origin = flag.IsOfOrigin change origin
IsOfOrigin (changes.LwwRegister change) origin = register.IsOfOrigin change origin

abbrev pub AreApart : Change → Change → Type 0
AreApart (changes.GCounter first) (changes.GCounter later) = gcounter.AreApart first later
AreApart (changes.PnCounter first) (changes.PnCounter later) = pncounter.AreApart first later
AreApart (changes.GSet first) (changes.GSet later) = gset.AreApart first later
AreApart (changes.OrSet first) (changes.OrSet later) = orset.AreApart first later
AreApart (changes.Flag first) (changes.Flag later) = flag.AreApart first later
AreApart (changes.LwwRegister first) (changes.LwwRegister later) = register.AreApart first later
AreApart _ _ = Unit {0}

abbrev pub empty_of : Kind → Value
empty_of kinds.GCounter = GCounter (gcounter.empty_of tt)
empty_of kinds.PnCounter = PnCounter (pncounter.empty_of tt)
empty_of kinds.GSet = GSet (gset.empty_of tt)
empty_of kinds.OrSet = OrSet (orset.empty_of tt)
empty_of kinds.Flag = Flag (flag.empty_of tt)
empty_of kinds.LwwRegister = LwwRegister (register.empty_of tt)

abbrev pub applied : Value → Op → Dot → Value
applied (GCounter state) op dot = GCounter (gcounter.applied state op dot)
applied (PnCounter state) op dot = PnCounter (pncounter.applied state op dot)
applied (GSet state) op dot = GSet (gset.applied state op dot)
applied (OrSet state) op dot = OrSet (orset.applied state op dot)
applied (Flag state) op dot = Flag (flag.applied state op dot)
applied (LwwRegister state) op dot = LwwRegister (register.applied state op dot)

abbrev pub delta_of : Value → Op → Dot → Change
delta_of (GCounter state) op dot = changes.GCounter (gcounter.delta_of state op dot)
delta_of (PnCounter state) op dot = changes.PnCounter (pncounter.delta_of state op dot)
delta_of (GSet state) op dot = changes.GSet (gset.delta_of state op dot)
delta_of (OrSet state) op dot = changes.OrSet (orset.delta_of state op dot)
delta_of (Flag state) op dot = changes.Flag (flag.delta_of state op dot)
delta_of (LwwRegister state) op dot = changes.LwwRegister (register.delta_of state op dot)

abbrev pub apply_refusal : Value → Op → ℕ → Option Refusal
apply_refusal (GCounter state) op origin = gcounter.apply_refusal state op origin
apply_refusal (PnCounter state) op origin = pncounter.apply_refusal state op origin
apply_refusal (GSet state) op origin = gset.apply_refusal state op origin
apply_refusal (OrSet state) op origin = orset.apply_refusal state op origin
apply_refusal (Flag state) op origin = flag.apply_refusal state op origin
apply_refusal (LwwRegister state) op origin = register.apply_refusal state op origin

-- of two kinds: the first
abbrev pub joined : Value → VersionVector → Value → VersionVector → Value
joined (GCounter state) mine (GCounter other) theirs = GCounter (gcounter.joined state mine other theirs)
joined (PnCounter state) mine (PnCounter other) theirs = PnCounter (pncounter.joined state mine other theirs)
joined (GSet state) mine (GSet other) theirs = GSet (gset.joined state mine other theirs)
joined (OrSet state) mine (OrSet other) theirs = OrSet (orset.joined state mine other theirs)
joined (Flag state) mine (Flag other) theirs = Flag (flag.joined state mine other theirs)
joined (LwwRegister state) mine (LwwRegister other) theirs = LwwRegister (register.joined state mine other theirs)
joined state mine other theirs = state

abbrev pub absorbed : Value → VersionVector → Change → Value
absorbed (GCounter state) mine (changes.GCounter change) = GCounter (gcounter.absorbed state mine change)
absorbed (PnCounter state) mine (changes.PnCounter change) = PnCounter (pncounter.absorbed state mine change)
absorbed (GSet state) mine (changes.GSet change) = GSet (gset.absorbed state mine change)
absorbed (OrSet state) mine (changes.OrSet change) = OrSet (orset.absorbed state mine change)
absorbed (Flag state) mine (changes.Flag change) = Flag (flag.absorbed state mine change)
absorbed (LwwRegister state) mine (changes.LwwRegister change) = LwwRegister (register.absorbed state mine change)
absorbed state mine change = state

abbrev pub combined : Change → Change → Change
combined (changes.GCounter first) (changes.GCounter later) = changes.GCounter (gcounter.combined first later)
combined (changes.PnCounter first) (changes.PnCounter later) = changes.PnCounter (pncounter.combined first later)
combined (changes.GSet first) (changes.GSet later) = changes.GSet (gset.combined first later)
combined (changes.OrSet first) (changes.OrSet later) = changes.OrSet (orset.combined first later)
combined (changes.Flag first) (changes.Flag later) = changes.Flag (flag.combined first later)
combined (changes.LwwRegister first) (changes.LwwRegister later) = changes.LwwRegister (register.combined first later)
combined first later = first

abbrev pub cleaned : Value → ℕ → Value
cleaned (GCounter state) id = GCounter (gcounter.cleaned state id)
cleaned (PnCounter state) id = PnCounter (pncounter.cleaned state id)
cleaned (GSet state) id = GSet (gset.cleaned state id)
cleaned (OrSet state) id = OrSet (orset.cleaned state id)
cleaned (Flag state) id = Flag (flag.cleaned state id)
cleaned (LwwRegister state) id = LwwRegister (register.cleaned state id)

abbrev pub pruned : Value → ℕ → Dot → Value
pruned (GCounter state) removed dot = GCounter (gcounter.pruned state removed dot)
pruned (PnCounter state) removed dot = PnCounter (pncounter.pruned state removed dot)
pruned (GSet state) removed dot = GSet (gset.pruned state removed dot)
pruned (OrSet state) removed dot = OrSet (orset.pruned state removed dot)
pruned (Flag state) removed dot = Flag (flag.pruned state removed dot)
pruned (LwwRegister state) removed dot = LwwRegister (register.pruned state removed dot)

abbrev pub prune_refusal : Value → ℕ → ℕ → Option Shares
prune_refusal (GCounter state) removed owner = gcounter.prune_refusal state removed owner
prune_refusal (PnCounter state) removed owner = pncounter.prune_refusal state removed owner
prune_refusal (GSet state) removed owner = gset.prune_refusal state removed owner
prune_refusal (OrSet state) removed owner = orset.prune_refusal state removed owner
prune_refusal (Flag state) removed owner = flag.prune_refusal state removed owner
prune_refusal (LwwRegister state) removed owner = register.prune_refusal state removed owner

abbrev pub mentioned : Value → ℕ → Bool
mentioned (GCounter state) id = gcounter.mentioned state id
mentioned (PnCounter state) id = pncounter.mentioned state id
mentioned (GSet state) id = gset.mentioned state id
mentioned (OrSet state) id = orset.mentioned state id
mentioned (Flag state) id = flag.mentioned state id
mentioned (LwwRegister state) id = register.mentioned state id

abbrev pub shown : Value → Shown
shown (GCounter state) = gcounter.shown state
shown (PnCounter state) = pncounter.shown state
shown (GSet state) = gset.shown state
shown (OrSet state) = orset.shown state
shown (Flag state) = flag.shown state
shown (LwwRegister state) = register.shown state

abbrev pub IsDataOf : Value → History Op → VersionVector → IdentitySet → Type 0
IsDataOf (GCounter state) log held gone = gcounter.IsDataOf state log held gone
IsDataOf (PnCounter state) log held gone = pncounter.IsDataOf state log held gone
IsDataOf (GSet state) log held gone = gset.IsDataOf state log held gone
IsDataOf (OrSet state) log held gone = orset.IsDataOf state log held gone
IsDataOf (Flag state) log held gone = flag.IsDataOf state log held gone
IsDataOf (LwwRegister state) log held gone = register.IsDataOf state log held gone

abbrev pub IsDeltaOf : Change → History Op → ℕ → ℕ → ℕ → Type 0
IsDeltaOf (changes.GCounter change) log origin after to = gcounter.IsDeltaOf change log origin after to
IsDeltaOf (changes.PnCounter change) log origin after to = pncounter.IsDeltaOf change log origin after to
IsDeltaOf (changes.GSet change) log origin after to = gset.IsDeltaOf change log origin after to
IsDeltaOf (changes.OrSet change) log origin after to = orset.IsDeltaOf change log origin after to
IsDeltaOf (changes.Flag change) log origin after to = flag.IsDeltaOf change log origin after to
IsDeltaOf (changes.LwwRegister change) log origin after to = register.IsDeltaOf change log origin after to

abbrev pub IsWithin : Value → VersionVector → Type 0
IsWithin (GCounter state) context = gcounter.IsWithin state context
IsWithin (PnCounter state) context = pncounter.IsWithin state context
IsWithin (GSet state) context = gset.IsWithin state context
IsWithin (OrSet state) context = orset.IsWithin state context
IsWithin (Flag state) context = flag.IsWithin state context
IsWithin (LwwRegister state) context = register.IsWithin state context
