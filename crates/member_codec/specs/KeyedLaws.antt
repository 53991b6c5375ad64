-- What is said of a key: what is read is spelled so, and what is spelled so is read again.
use Rattle.std.proofs.Common.{ℕ, List, None, Result, refl}
use Rattle.base_bytes.specs.declared.fault.Fault.{Fault}
use Rattle.base_bytes.specs.Fields.{text_in}
use Rattle.base_bytes.specs.Spelling.{IsText, text_spelled}
use Rattle.base_places.specs.Spells.{Spells, text_spells}
use Rattle.base_places.specs.Lists.{IsSoundPair, pair_spelled, pair_in}
use Rattle.base_places.specs.ListLaws.{pair_spells, made_spells}
use Rattle.member_codec.specs.Keyed.{keyed_pair, pair_keyed, IsSoundKeyed, keyed_spelled, keyed_in}

module _ {X : Type 0} (One : X → Type 0) (one : X → List ℕ) (one_in : List ℕ → Result (X × List ℕ) Fault) (p : Spells One one one_in) where
  pub keyed_spells : Spells (IsSoundKeyed One) (keyed_spelled one) (keyed_in one_in)
  keyed_spells =
      made_spells (IsSoundPair IsText One) (pair_spelled text_spelled one) (pair_in (text_in None) one_in) (pair_spells IsText text_spelled (text_in None) One one one_in text_spells p) pair_keyed keyed_pair (λ x. refl) (λ y. refl)
