-- What there may be, as bytes: its one spelling, and how it is read.
use Rattle.std.specs.Prelude.{ℕ, List, [], ◌∷◌, length, Option, None, Some, nat_le, ◌==◌, if◌then◌else◌, Result, Ok}
use Rattle.base_bytes.specs.declared.fault.Fault.{Fault}
use Rattle.base_bytes.specs.Fields.{◌>>=◌, kept, byte_in}
use Rattle.base_places.specs.Lists.{made_in}

module _ {X : Type 0} where
  -- 0 for nothing, or 1 and what there is
  abbrev pub IsSoundOption : (X → Type 0) → Option X → Type 0
  IsSoundOption One None = Unit {0}
  IsSoundOption One (Some x) = One x

  abbrev pub option_spelled : (X → List ℕ) → Option X → List ℕ
  option_spelled one None = 0 ∷ []
  option_spelled one (Some x) = 1 ∷ one x

  unfoldable pub option_in : (List ℕ → Result (X × List ℕ) Fault) → List ℕ → Result (Option X × List ℕ) Fault
  option_in one bytes = do
    has ← byte_in bytes
    _ ← kept (nat_le has.0 1) (length bytes)
    if has.0 == 0 then Ok (None, has.1) else made_in Some one has.1
