-- Envelopes: what is read is spelled so, and what is spelled so is read again.
use Rattle.std.proofs.Common.{◌≡◌, ℕ, Bool, true, false, List, ◌++◌, Result, Ok}
use Rattle.model_history.specs.Vector.{IdentitySet}
use Rattle.base_bytes.specs.declared.fault.Fault.{Fault}
use Rattle.base_bytes.specs.Spelling.{AreBytes, Takes}
use Rattle.data_codec.specs.Envelopes.{envelope_spelled, parts_in, IsEnvelope}
use Rattle.data_codec.proofs.Envelopes.{AreLaws, parts_take, parts_again}
use Rattle.base_places.specs.Spells.{Spells}

module _ {T : Type 0} (is_known : ℕ → Bool) (data_in : ℕ → IdentitySet → List ℕ → Result (T × List ℕ) Fault) (byte : T → ℕ) (spelled : T → List ℕ) (IsSound : T → Type 0) (mentioned : T → ℕ → Bool)
    (takes : (kind : ℕ) (barred : IdentitySet) (bytes : List ℕ) (x : T) (rest : List ℕ) → is_known kind ≡ true → AreBytes bytes → data_in kind barred bytes ≡ Ok (x, rest)
    → Takes bytes (spelled x) rest × IsSound x × (byte x ≡ kind) × ((i : ℕ) → barred i ≡ true → mentioned x i ≡ false))
    (again : (x : T) (barred : IdentitySet) (rest : List ℕ) → IsSound x → ((i : ℕ) → barred i ≡ true → mentioned x i ≡ false) → data_in (byte x) barred (spelled x ++ rest) ≡ Ok (x, rest))
    (known : (x : T) → is_known (byte x) ≡ true) where
  are_laws : AreLaws is_known data_in byte spelled IsSound mentioned
  are_laws = record { takes = takes; again = again; known = known }

  pub envelope_spells : Spells (IsEnvelope IsSound mentioned) (envelope_spelled byte spelled) (parts_in is_known data_in 1)
  envelope_spells = record {
    takes = λ bytes x rest fits e. parts_take is_known data_in byte spelled IsSound mentioned are_laws 1 bytes (x, rest) fits e;
    again = λ x rest sound. parts_again is_known data_in byte spelled IsSound mentioned are_laws 1 x rest sound;
  }
