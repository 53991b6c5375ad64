-- The laws of changes of any kind as bytes: each is the law of the change's kind.
use Rattle.std.proofs.Common.{◌≡◌, ℕ, true, List, ◌++◌, Ok, refl, ap, subst, ◌∙◌}
use Rattle.base_bytes.specs.Spelling.{AreBytes, Takes}
use Rattle.base_bytes.specs.FieldLaws.{bind_ok, ok_is}
use Rattle.model_kinds.specs.declared.kind.Kind.{Kind}
use Rattle.model_kinds.specs.declared.kind.Kind.TheVariants as kinds
use Rattle.data_value.specs.Spelled.{byte_of, is_known, kind_at, told_as}
use Rattle.data_value.specs.SpelledLaws.{kind_is_known, byte_back}
use Rattle.data_value.specs.Values.{kind_of_delta, IsOfOrigin}
use Rattle.data_value.specs.declared.value.Change.{Change}
use Rattle.data_value.specs.declared.value.Change.TheVariants.{GCounter, PnCounter, GSet, OrSet, Flag, LwwRegister}
use Rattle.data_delta_codec.specs.contracts.counters.GCounterSpelledDelta.TheImpl.Laws as gcounter
use Rattle.data_delta_codec.specs.contracts.counters.PnCounterSpelledDelta.TheImpl.Laws as pncounter
use Rattle.data_delta_codec.specs.contracts.growing.GSetSpelledDelta.TheImpl.Laws as gset
use Rattle.data_delta_codec.specs.contracts.sets.OrSetSpelledDelta.TheImpl.Laws as orset
use Rattle.data_delta_codec.specs.contracts.growing.FlagSpelledDelta.TheImpl.Laws as flag
use Rattle.data_delta_codec.specs.contracts.growing.LwwRegisterSpelledDelta.TheImpl.Laws as register
use Rattle.data_delta_codec.specs.contracts.counters.GCounterSpelledDelta.TheImpl.{ghosts as of_gcounter}
use Rattle.data_delta_codec.specs.contracts.counters.PnCounterSpelledDelta.TheImpl.{ghosts as of_pncounter}
use Rattle.data_delta_codec.specs.contracts.growing.GSetSpelledDelta.TheImpl.{ghosts as of_gset}
use Rattle.data_delta_codec.specs.contracts.sets.OrSetSpelledDelta.TheImpl.{ghosts as of_orset}
use Rattle.data_delta_codec.specs.contracts.growing.FlagSpelledDelta.TheImpl.{ghosts as of_flag}
use Rattle.data_delta_codec.specs.contracts.growing.LwwRegisterSpelledDelta.TheImpl.{ghosts as of_register}
use Rattle.data_delta_codec.specs.Values.{delta_byte, IsSoundDelta, delta_spelled, delta_of, delta_in}

pub delta_is_known : (x : Change) → is_known (delta_byte x) ≡ true
delta_is_known x = kind_is_known (kind_of_delta x)

-- what holds of a change that was read
abbrev IsRead : ℕ → ℕ → List ℕ → Change × List ℕ → Type 0
IsRead byte origin bytes x = Takes bytes (delta_spelled x.0) x.1 × IsSoundDelta x.0 × (delta_byte x.0 ≡ byte) × IsOfOrigin x.0 origin

delta_of_kind : (kind : Kind) (origin : ℕ) (bytes : List ℕ) (x : Change × List ℕ) → AreBytes bytes → delta_of kind origin bytes ≡ Ok x → IsRead (byte_of kind) origin bytes x
delta_of_kind kinds.GCounter origin bytes x fits e =
    let a = bind_ok (of_gcounter.delta_in 1 origin bytes) (λ found. Ok (GCounter found.0, found.1)) x e in
    let t = gcounter.delta_read_is_spelled-law 1 origin bytes a.0.0 a.0.1 refl fits a.1 in
    subst (IsRead 1 origin bytes) (ok_is (GCounter a.0.0, a.0.1) x a.2) (t.0, t.1, refl, t.3)
delta_of_kind kinds.PnCounter origin bytes x fits e =
    let a = bind_ok (of_pncounter.delta_in 2 origin bytes) (λ found. Ok (PnCounter found.0, found.1)) x e in
    let t = pncounter.delta_read_is_spelled-law 2 origin bytes a.0.0 a.0.1 refl fits a.1 in
    subst (IsRead 2 origin bytes) (ok_is (PnCounter a.0.0, a.0.1) x a.2) (t.0, t.1, refl, t.3)
delta_of_kind kinds.GSet origin bytes x fits e =
    let a = bind_ok (of_gset.delta_in 3 origin bytes) (λ found. Ok (GSet found.0, found.1)) x e in
    let t = gset.delta_read_is_spelled-law 3 origin bytes a.0.0 a.0.1 refl fits a.1 in
    subst (IsRead 3 origin bytes) (ok_is (GSet a.0.0, a.0.1) x a.2) (t.0, t.1, refl, t.3)
delta_of_kind kinds.OrSet origin bytes x fits e =
    let a = bind_ok (of_orset.delta_in 4 origin bytes) (λ found. Ok (OrSet found.0, found.1)) x e in
    let t = orset.delta_read_is_spelled-law 4 origin bytes a.0.0 a.0.1 refl fits a.1 in
    subst (IsRead 4 origin bytes) (ok_is (OrSet a.0.0, a.0.1) x a.2) (t.0, t.1, refl, t.3)
delta_of_kind kinds.Flag origin bytes x fits e =
    let a = bind_ok (of_flag.delta_in 5 origin bytes) (λ found. Ok (Flag found.0, found.1)) x e in
    let t = flag.delta_read_is_spelled-law 5 origin bytes a.0.0 a.0.1 refl fits a.1 in
    subst (IsRead 5 origin bytes) (ok_is (Flag a.0.0, a.0.1) x a.2) (t.0, t.1, refl, t.3)
delta_of_kind kinds.LwwRegister origin bytes x fits e =
    let a = bind_ok (of_register.delta_in 6 origin bytes) (λ found. Ok (LwwRegister found.0, found.1)) x e in
    let t = register.delta_read_is_spelled-law 6 origin bytes a.0.0 a.0.1 refl fits a.1 in
    subst (IsRead 6 origin bytes) (ok_is (LwwRegister a.0.0, a.0.1) x a.2) (t.0, t.1, refl, t.3)

pub delta_read_is_spelled : (byte origin : ℕ) (bytes : List ℕ) (x : Change) (rest : List ℕ) → is_known byte ≡ true → AreBytes bytes → delta_in byte origin bytes ≡ Ok (x, rest)
    → Takes bytes (delta_spelled x) rest × IsSoundDelta x × (delta_byte x ≡ byte) × IsOfOrigin x origin
delta_read_is_spelled byte origin bytes x rest known fits e =
    let t = delta_of_kind (kind_at byte) origin bytes (x, rest) fits e in
    (t.0, t.1, t.2 ∙ byte_back byte known, t.3)

pub delta_spelled_is_read : (x : Change) (origin : ℕ) (rest : List ℕ) → IsSoundDelta x → ∥ IsOfOrigin x origin ∥₁ → delta_in (delta_byte x) origin (delta_spelled x ++ rest) ≡ Ok (x, rest)
delta_spelled_is_read (GCounter x) origin rest sound own = ap (told_as GCounter) (gcounter.delta_spelled_is_read-law x origin rest sound own)
delta_spelled_is_read (PnCounter x) origin rest sound own = ap (told_as PnCounter) (pncounter.delta_spelled_is_read-law x origin rest sound own)
delta_spelled_is_read (GSet x) origin rest sound own = ap (told_as GSet) (gset.delta_spelled_is_read-law x origin rest sound own)
delta_spelled_is_read (OrSet x) origin rest sound own = ap (told_as OrSet) (orset.delta_spelled_is_read-law x origin rest sound own)
delta_spelled_is_read (Flag x) origin rest sound own = ap (told_as Flag) (flag.delta_spelled_is_read-law x origin rest sound own)
delta_spelled_is_read (LwwRegister x) origin rest sound own = ap (told_as LwwRegister) (register.delta_spelled_is_read-law x origin rest sound own)
