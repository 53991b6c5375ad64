-- What is said of a key, as bytes: its one spelling, and how it is read.
use Rattle.std.specs.Prelude.{ℕ, List, None, Result}
use Rattle.model_history.specs.Texts.{Text}
use Rattle.base_bytes.specs.declared.fault.Fault.{Fault}
use Rattle.base_bytes.specs.Fields.{text_in}
use Rattle.base_bytes.specs.Spelling.{IsText, text_spelled}
use Rattle.member_messages.specs.declared.message.Keyed.{Keyed}
use Rattle.base_places.specs.Lists.{IsSoundPair, pair_spelled, pair_in, made_in}

module _ {X : Type 0} where
  abbrev pub keyed_pair : Keyed X → Text × X
  keyed_pair keyed = (keyed.key, keyed.item)

  abbrev pub pair_keyed : Text × X → Keyed X
  pair_keyed pair = record { key = pair.0; item = pair.1 }

  abbrev pub IsSoundKeyed : (X → Type 0) → Keyed X → Type 0
  IsSoundKeyed One keyed = IsSoundPair IsText One (keyed_pair keyed)

  -- the key, and what is said of it
  abbrev pub keyed_spelled : (X → List ℕ) → Keyed X → List ℕ
  keyed_spelled one keyed = pair_spelled text_spelled one (keyed_pair keyed)

  abbrev pub keyed_in : (List ℕ → Result (X × List ℕ) Fault) → List ℕ → Result (Keyed X × List ℕ) Fault
  keyed_in one = made_in pair_keyed (pair_in (text_in None) one)

-- the same of each key, seen otherwise
abbrev pub keyed_as : {X Y : Type 0} → (X → Y) → Keyed X → Keyed Y
keyed_as f keyed = record { key = keyed.key; item = f keyed.item }
