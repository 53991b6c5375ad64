-- The laws of deltas of a key's data as bytes: those of its value, and those of no bytes at all.
use Rattle.std.proofs.Common.{◌≡◌, ℕ, Bool, true, false, List, ◌++◌, Result, Ok, refl, sym, ap, subst, ◌∙◌}
use Rattle.std.specs.Prelude.{◌||◌, ◌==◌, if◌then◌else◌}
use Rattle.std.proofs.lemmas.Bool.{eqb-true}
use Rattle.base_bytes.specs.declared.fault.Fault.{Fault}
use Rattle.base_bytes.specs.Spelling.{AreBytes, Takes}
use Rattle.base_bytes.specs.FieldLaws.{bind_ok, ok_is, takes_nothing}
use Rattle.model_kinds.specs.declared.kind.Kind.{Kind}
use Rattle.model_kinds.specs.declared.kind.Kind.TheVariants as kinds
use Rattle.data_value.specs.Spelled.{byte_of, is_known, told_as}
use Rattle.data_value.specs.Values.{kind_of_delta}
use Rattle.data_value.specs.Data.{IsOfOrigin}
use Rattle.data_value.specs.declared.data.Delta.{Delta}
use Rattle.data_value.specs.declared.data.Delta.TheVariants.{Open, Delete}
use Rattle.data_delta_codec.specs.Values as values
use Rattle.data_delta_codec.specs.ValueLaws as laws
use Rattle.data_delta_codec.specs.Data.{delete_byte, delta_byte, is_delta_byte, IsSoundDelta, delta_spelled, delta_in}

-- the bytes of the kinds are not that of a delete
kind_known : (kind : Kind) → is_delta_byte (byte_of kind) ≡ true
kind_known kinds.GCounter = refl
kind_known kinds.PnCounter = refl
kind_known kinds.GSet = refl
kind_known kinds.OrSet = refl
kind_known kinds.Flag = refl
kind_known kinds.LwwRegister = refl

kind_deletes : (kind : Kind) → (byte_of kind == delete_byte) ≡ false
kind_deletes kinds.GCounter = refl
kind_deletes kinds.PnCounter = refl
kind_deletes kinds.GSet = refl
kind_deletes kinds.OrSet = refl
kind_deletes kinds.Flag = refl
kind_deletes kinds.LwwRegister = refl

pub delta_is_known : (x : Delta) → is_delta_byte (delta_byte x) ≡ true
delta_is_known (Open change) = kind_known (kind_of_delta change)
delta_is_known Delete = refl

pub delete_read : (byte origin : ℕ) (bytes : List ℕ) → byte ≡ delete_byte → delta_in byte origin bytes ≡ Ok (Delete, bytes)
delete_read byte origin bytes is = ap (λ (b : ℕ). delta_in b origin bytes) is

abbrev read_of : ℕ → ℕ → List ℕ → Bool → Result (Delta × List ℕ) Fault
read_of byte origin bytes deletes = if deletes then Ok (Delete, bytes) else told_as Open (values.delta_in byte origin bytes)

-- what holds of a delta that was read
abbrev IsRead : ℕ → ℕ → List ℕ → Delta × List ℕ → Type 0
IsRead byte origin bytes x = Takes bytes (delta_spelled x.0) x.1 × IsSoundDelta x.0 × (delta_byte x.0 ≡ byte) × IsOfOrigin x.0 origin

pub delta_read_is_spelled : (byte origin : ℕ) (bytes : List ℕ) (x : Delta) (rest : List ℕ) → is_delta_byte byte ≡ true → AreBytes bytes → delta_in byte origin bytes ≡ Ok (x, rest)
    → Takes bytes (delta_spelled x) rest × IsSoundDelta x × (delta_byte x ≡ byte) × IsOfOrigin x origin
delta_read_is_spelled byte origin bytes x rest known fits e = either (byte == delete_byte) refl known e
  where
    either : (deletes : Bool) → (byte == delete_byte) ≡ deletes → (deletes || is_known byte) ≡ true → read_of byte origin bytes deletes ≡ Ok (x, rest) → IsRead byte origin bytes (x, rest)
    either true is known e = subst (IsRead byte origin bytes) (ok_is (Delete, bytes) (x, rest) e) (takes_nothing bytes fits, tt, sym (eqb-true byte delete_byte is), tt)
    either false is known e =
        let a = bind_ok (values.delta_in byte origin bytes) (λ found. Ok (Open found.0, found.1)) (x, rest) e in
        subst (IsRead byte origin bytes) (ok_is (Open a.0.0, a.0.1) (x, rest) a.2) (laws.delta_read_is_spelled byte origin bytes a.0.0 a.0.1 known fits a.1)

pub delta_spelled_is_read : (x : Delta) (origin : ℕ) (rest : List ℕ) → IsSoundDelta x → ∥ IsOfOrigin x origin ∥₁ → delta_in (delta_byte x) origin (delta_spelled x ++ rest) ≡ Ok (x, rest)
delta_spelled_is_read (Open change) origin rest sound own =
    ap (read_of (values.delta_byte change) origin (values.delta_spelled change ++ rest)) (kind_deletes (kind_of_delta change))
    ∙ ap (told_as Open) (laws.delta_spelled_is_read change origin rest sound own)
delta_spelled_is_read Delete origin rest sound own = refl
