-- Groups as bytes: their one spelling, and how they are read.
use Rattle.std.specs.Prelude.{ℕ, ◌^◌, List, ◌∷◌, ◌++◌, length, Bool, Result, Ok}
use Rattle.base_bytes.specs.declared.fault.Fault.{Fault}
use Rattle.base_bytes.specs.Fields.{◌>>=◌, kept, byte_in}
use Rattle.base_vectors.specs.Fields.{identity_in}
use Rattle.base_vectors.specs.FieldLaws.{IsAllowed}
use Rattle.base_vectors.specs.Vectors.{Numbers}
use Rattle.base_vectors.specs.Spelling.{nobody, numbers_in, AreSpellable}
use Rattle.data_envelope.specs.Images.{GroupParts}
use Rattle.base_places.specs.Lists.{pair_spelled, pair_in}
use Rattle.member_codec.specs.Identities.{identity_spelled, versions_spelled}
use Rattle.member_codec.specs.Numbers.{span_spelled, span_in, IsSpan}

-- what stands before the delta: the origin, the numbers, and what is needed
abbrev pub Before : Type 0
Before = ℕ × ((ℕ × ℕ) × Numbers)

abbrev pub before_spelled : Before → List ℕ
before_spelled = pair_spelled identity_spelled (pair_spelled span_spelled versions_spelled)

abbrev pub before_in : List ℕ → Result (Before × List ℕ) Fault
before_in = pair_in (identity_in 0 nobody) (pair_in span_in (numbers_in (2 ^ 62) nobody))

module _ {Delta : Type 0} where
  abbrev pub before_of : GroupParts Delta → Before
  before_of group = (group.origin, ((group.after, group.upto), group.needed))

  abbrev pub with_change : Before → Delta → GroupParts Delta
  with_change before delta = record { origin = before.0; after = before.1.0.0; upto = before.1.0.1; needed = before.1.1; changes = delta }

  -- the byte that tells what the delta is, and the delta
  abbrev pub change_spelled : (Delta → ℕ) → (Delta → List ℕ) → Delta → List ℕ
  change_spelled byte spelled delta = byte delta ∷ spelled delta

  abbrev pub group_spelled : (Delta → ℕ) → (Delta → List ℕ) → GroupParts Delta → List ℕ
  group_spelled byte spelled group = before_spelled (before_of group) ++ change_spelled byte spelled group.changes

  unfoldable pub change_in : (ℕ → Bool) → (ℕ → ℕ → List ℕ → Result (Delta × List ℕ) Fault) → ℕ → List ℕ → Result (Delta × List ℕ) Fault
  change_in is_delta delta_in origin bytes = do
    kind ← byte_in bytes
    _ ← kept (is_delta kind.0) (length bytes)
    delta_in kind.0 origin kind.1

  unfoldable pub group_in : (ℕ → Bool) → (ℕ → ℕ → List ℕ → Result (Delta × List ℕ) Fault) → List ℕ → Result (GroupParts Delta × List ℕ) Fault
  group_in is_delta delta_in bytes = do
    before ← before_in bytes
    delta ← change_in is_delta delta_in before.0.0 before.1
    Ok (with_change before.0 delta.0, delta.1)

-- the numbers rise, and the delta is of the origin
pub record IsSoundGroup {Delta : Type 0} (IsSoundDelta : Delta → Type 0) (IsOfOrigin : Delta → ℕ → Type 0) (group : GroupParts Delta) : Type 0 where
  pub origin : IsAllowed 0 nobody group.origin
  pub numbers : IsSpan (group.after, group.upto)
  pub needed : AreSpellable (2 ^ 62) group.needed
  pub changes : IsSoundDelta group.changes
  pub of_origin : ∥ IsOfOrigin group.changes group.origin ∥₁
