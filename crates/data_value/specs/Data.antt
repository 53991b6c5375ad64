-- What the calls of a key's data compute: what those of its value do, until a delete. A delete wins over every value, and leaves the kind alone.
use Rattle.std.specs.Prelude.{ℕ, ◌≤◌, Bool, true, false, if◌then◌else◌, Option, None}
use Rattle.model_history.specs.Vector.{VersionVector, IdentitySet}
use Rattle.model_history.specs.History.{History}
use Rattle.model_meanings.specs.Refusal.{Refusal, Shares}
use Rattle.base_vectors.specs.declared.id.Dot.{Dot}
use Rattle.model_kinds.specs.SixKinds.{is_delete}
use Rattle.model_kinds.specs.declared.kind.Kind.{Kind}
use Rattle.model_kinds.specs.declared.operation.Op.{Op}
use Rattle.model_kinds.specs.declared.shown.Shown.{Shown}
use Rattle.model_kinds.specs.declared.shown.Shown.TheVariants as shown_as
use Rattle.data_growing.specs.Recorded.{Tells, TellsBetween}
use Rattle.data_value.specs.Values as values
use Rattle.data_value.specs.declared.data.Data.{Data}
use Rattle.data_value.specs.declared.data.Data.TheVariants.{Open, Deleted}
use Rattle.data_value.specs.declared.data.Delta.{Delta}
use Rattle.data_value.specs.declared.data.Delta.TheVariants as deltas

abbrev pub kind_of : Data → Kind
kind_of (Open value) = values.kind_of value
kind_of (Deleted kind) = kind

abbrev pub is_closed : Data → Bool
is_closed (Open value) = false
is_closed (Deleted kind) = true

-- a delete is of every kind
abbrev pub fits_kind : Kind → Delta → Bool
fits_kind kind (deltas.Open change) = values.fits_kind kind change
fits_kind kind deltas.Delete = true

abbrev pub IsOfOrigin : Delta → ℕ → Type 0
IsOfOrigin (deltas.Open change) origin = values.IsOfOrigin change origin
IsOfOrigin deltas.Delete origin = Unit {0}

abbrev pub AreApart : Delta → Delta → Type 0
AreApart (deltas.Open first) (deltas.Open later) = values.AreApart first later
AreApart _ _ = Unit {0}

abbrev pub empty_of : Kind → Data
empty_of kind = Open (values.empty_of kind)

abbrev pub applied : Data → Op → Dot → Data
applied (Open value) op dot = if is_delete op then Deleted (values.kind_of value) else Open (values.applied value op dot)
applied (Deleted kind) op dot = Deleted kind

abbrev pub delta_of : Data → Op → Dot → Delta
delta_of (Open value) op dot = if is_delete op then deltas.Delete else deltas.Open (values.delta_of value op dot)
delta_of (Deleted kind) op dot = deltas.Delete

abbrev pub apply_refusal : Data → Op → ℕ → Option Refusal
apply_refusal (Open value) op origin = if is_delete op then None else values.apply_refusal value op origin
apply_refusal (Deleted kind) op origin = None

abbrev pub joined : Data → VersionVector → Data → VersionVector → Data
joined (Open value) mine (Open other) theirs = Open (values.joined value mine other theirs)
joined (Open value) mine (Deleted kind) theirs = Deleted (values.kind_of value)
joined (Deleted kind) mine other theirs = Deleted kind

abbrev pub absorbed : Data → VersionVector → Delta → Data
absorbed (Open value) mine (deltas.Open change) = Open (values.absorbed value mine change)
absorbed (Open value) mine deltas.Delete = Deleted (values.kind_of value)
absorbed (Deleted kind) mine delta = Deleted kind

abbrev pub combined : Delta → Delta → Delta
combined (deltas.Open first) (deltas.Open later) = deltas.Open (values.combined first later)
combined _ _ = deltas.Delete

abbrev pub cleaned : Data → ℕ → Data
cleaned (Open value) id = Open (values.cleaned value id)
cleaned (Deleted kind) id = Deleted kind

abbrev pub pruned : Data → ℕ → Dot → Data
pruned (Open value) removed dot = Open (values.pruned value removed dot)
pruned (Deleted kind) removed dot = Deleted kind

abbrev pub prune_refusal : Data → ℕ → ℕ → Option Shares
prune_refusal (Open value) removed owner = values.prune_refusal value removed owner
prune_refusal (Deleted kind) removed owner = None

abbrev pub mentioned : Data → ℕ → Bool
mentioned (Open value) id = values.mentioned value id
mentioned (Deleted kind) id = false

abbrev pub shown : Data → Shown
shown (Open value) = values.shown value
shown (Deleted kind) = shown_as.Deleted

-- a value where no held record deletes, and else the kind alone
abbrev pub IsDataOf : Data → History Op → VersionVector → IdentitySet → Type 0
IsDataOf (Open value) log held gone = Tells is_delete log false held × values.IsDataOf value log held gone
IsDataOf (Deleted kind) log held gone = Tells is_delete log true held

-- what changed a value where none of an origin's records deletes, and else a delete
abbrev pub IsDeltaOf : Delta → History Op → ℕ → ℕ → ℕ → Type 0
IsDeltaOf (deltas.Open change) log origin after to = (after ≤ to) × TellsBetween is_delete log false origin after to × values.IsDeltaOf change log origin after to
IsDeltaOf deltas.Delete log origin after to = (after ≤ to) × TellsBetween is_delete log true origin after to

abbrev pub IsWithin : Data → VersionVector → Type 0
IsWithin (Open value) context = values.IsWithin value context
IsWithin (Deleted kind) context = Unit {0}
