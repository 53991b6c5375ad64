-- The laws of values as bytes: each is the law of the value's kind.
use Rattle.std.proofs.Common.{◌≡◌, ℕ, ◌≤◌, true, false, List, ◌++◌, Ok, refl, ap, sym, subst, ◌∙◌, arith, ⊎_elim}
use Rattle.std.specs.Prelude.{nat_le}
use Rattle.std.proofs.lemmas.Bool.{cases_eq, leb-true, and_parts}
use Rattle.model_history.specs.Table.{identity_limit}
use Rattle.model_history.specs.Vector.{VersionVector, IdentitySet}
use Rattle.model_history.specs.History.{History, cut}
use Rattle.model_history.specs.Cuts.{IsPrunedCut}
use Rattle.base_bytes.specs.Spelling.{AreBytes, Takes}
use Rattle.base_bytes.specs.FieldLaws.{bind_ok, ok_is}
use Rattle.model_kinds.specs.declared.operation.Op.{Op}
use Rattle.model_kinds.specs.declared.kind.Kind.{Kind}
use Rattle.model_kinds.specs.declared.kind.Kind.TheVariants as kinds
use Rattle.data_counters.specs.contracts.spelled.GCounterSpelledData.TheImpl.Laws as gcounter
use Rattle.data_counters.specs.contracts.spelled.PnCounterSpelledData.TheImpl.Laws as pncounter
use Rattle.data_growing.specs.contracts.set.GSetSpelledData.TheImpl.Laws as gset
use Rattle.data_orset.specs.contracts.spelled.OrSetSpelledData.TheImpl.Laws as orset
use Rattle.data_growing.specs.contracts.flag.FlagSpelledData.TheImpl.Laws as flag
use Rattle.data_growing.specs.contracts.register.LwwRegisterSpelledData.TheImpl.Laws as register
use Rattle.data_counters.specs.contracts.spelled.GCounterSpelledData.TheImpl.{ghosts as of_gcounter}
use Rattle.data_counters.specs.contracts.spelled.PnCounterSpelledData.TheImpl.{ghosts as of_pncounter}
use Rattle.data_growing.specs.contracts.set.GSetSpelledData.TheImpl.{ghosts as of_gset}
use Rattle.data_orset.specs.contracts.spelled.OrSetSpelledData.TheImpl.{ghosts as of_orset}
use Rattle.data_growing.specs.contracts.flag.FlagSpelledData.TheImpl.{ghosts as of_flag}
use Rattle.data_growing.specs.contracts.register.LwwRegisterSpelledData.TheImpl.{ghosts as of_register}
use Rattle.data_value.specs.declared.value.Value.{Value}
use Rattle.data_value.specs.declared.value.Value.TheVariants.{GCounter, PnCounter, GSet, OrSet, Flag, LwwRegister}
use Rattle.data_value.specs.Values.{kind_of, mentioned, IsDataOf}
use Rattle.data_value.specs.Spelled.{byte_of, is_known, kind_at, IsSound, spelled, told_as, read_of, read_in, history_spelled}

pub kind_is_known : (kind : Kind) → is_known (byte_of kind) ≡ true
kind_is_known kinds.GCounter = refl
kind_is_known kinds.PnCounter = refl
kind_is_known kinds.GSet = refl
kind_is_known kinds.OrSet = refl
kind_is_known kinds.Flag = refl
kind_is_known kinds.LwwRegister = refl

kind_back : (kind : Kind) → kind_at (byte_of kind) ≡ kind
kind_back kinds.GCounter = refl
kind_back kinds.PnCounter = refl
kind_back kinds.GSet = refl
kind_back kinds.OrSet = refl
kind_back kinds.Flag = refl
kind_back kinds.LwwRegister = refl

pub byte_back : (byte : ℕ) → is_known byte ≡ true → byte_of (kind_at byte) ≡ byte
byte_back byte known =
    let both = and_parts (nat_le 1 byte) (nat_le byte 6) known in
    let low : 1 ≤ byte = leb-true 1 byte both.0 in
    let high : byte ≤ 6 = leb-true byte 6 both.1 in
    ⊎_elim (λ (e : byte ≡ 1). subst (λ (b : ℕ). byte_of (kind_at b) ≡ b) (sym e) refl) (λ n1.
    ⊎_elim (λ (e : byte ≡ 2). subst (λ (b : ℕ). byte_of (kind_at b) ≡ b) (sym e) refl) (λ n2.
    ⊎_elim (λ (e : byte ≡ 3). subst (λ (b : ℕ). byte_of (kind_at b) ≡ b) (sym e) refl) (λ n3.
    ⊎_elim (λ (e : byte ≡ 4). subst (λ (b : ℕ). byte_of (kind_at b) ≡ b) (sym e) refl) (λ n4.
    ⊎_elim (λ (e : byte ≡ 5). subst (λ (b : ℕ). byte_of (kind_at b) ≡ b) (sym e) refl) (λ n5.
    (let e : byte ≡ 6 = omega arith in subst (λ (b : ℕ). byte_of (kind_at b) ≡ b) (sym e) refl))
    (cases_eq byte 5)) (cases_eq byte 4)) (cases_eq byte 3)) (cases_eq byte 2)) (cases_eq byte 1)

-- what holds of data that were read
abbrev IsRead : ℕ → IdentitySet → List ℕ → Value × List ℕ → Type 0
IsRead byte barred bytes x = Takes bytes (spelled x.0) x.1 × IsSound x.0 × (byte_of (kind_of x.0) ≡ byte) × ((i : ℕ) → barred i ≡ true → mentioned x.0 i ≡ false)

read_of_kind : (kind : Kind) (barred : IdentitySet) (bytes : List ℕ) (x : Value × List ℕ) → AreBytes bytes → read_of kind barred bytes ≡ Ok x → IsRead (byte_of kind) barred bytes x
read_of_kind kinds.GCounter barred bytes x fits e =
    let a = bind_ok (of_gcounter.read_in 1 barred bytes) (λ found. Ok (GCounter found.0, found.1)) x e in
    let t = gcounter.read_is_spelled-law 1 barred bytes a.0.0 a.0.1 refl fits a.1 in
    subst (IsRead 1 barred bytes) (ok_is (GCounter a.0.0, a.0.1) x a.2) (t.0, t.1, refl, t.3)
read_of_kind kinds.PnCounter barred bytes x fits e =
    let a = bind_ok (of_pncounter.read_in 2 barred bytes) (λ found. Ok (PnCounter found.0, found.1)) x e in
    let t = pncounter.read_is_spelled-law 2 barred bytes a.0.0 a.0.1 refl fits a.1 in
    subst (IsRead 2 barred bytes) (ok_is (PnCounter a.0.0, a.0.1) x a.2) (t.0, t.1, refl, t.3)
read_of_kind kinds.GSet barred bytes x fits e =
    let a = bind_ok (of_gset.read_in 3 barred bytes) (λ found. Ok (GSet found.0, found.1)) x e in
    let t = gset.read_is_spelled-law 3 barred bytes a.0.0 a.0.1 refl fits a.1 in
    subst (IsRead 3 barred bytes) (ok_is (GSet a.0.0, a.0.1) x a.2) (t.0, t.1, refl, t.3)
read_of_kind kinds.OrSet barred bytes x fits e =
    let a = bind_ok (of_orset.read_in 4 barred bytes) (λ found. Ok (OrSet found.0, found.1)) x e in
    let t = orset.read_is_spelled-law 4 barred bytes a.0.0 a.0.1 refl fits a.1 in
    subst (IsRead 4 barred bytes) (ok_is (OrSet a.0.0, a.0.1) x a.2) (t.0, t.1, refl, t.3)
read_of_kind kinds.Flag barred bytes x fits e =
    let a = bind_ok (of_flag.read_in 5 barred bytes) (λ found. Ok (Flag found.0, found.1)) x e in
    let t = flag.read_is_spelled-law 5 barred bytes a.0.0 a.0.1 refl fits a.1 in
    subst (IsRead 5 barred bytes) (ok_is (Flag a.0.0, a.0.1) x a.2) (t.0, t.1, refl, t.3)
read_of_kind kinds.LwwRegister barred bytes x fits e =
    let a = bind_ok (of_register.read_in 6 barred bytes) (λ found. Ok (LwwRegister found.0, found.1)) x e in
    let t = register.read_is_spelled-law 6 barred bytes a.0.0 a.0.1 refl fits a.1 in
    subst (IsRead 6 barred bytes) (ok_is (LwwRegister a.0.0, a.0.1) x a.2) (t.0, t.1, refl, t.3)

pub read_is_spelled : (byte : ℕ) (barred : IdentitySet) (bytes : List ℕ) (x : Value) (rest : List ℕ) → is_known byte ≡ true → AreBytes bytes → read_in byte barred bytes ≡ Ok (x, rest)
    → Takes bytes (spelled x) rest × IsSound x × (byte_of (kind_of x) ≡ byte) × ((i : ℕ) → barred i ≡ true → mentioned x i ≡ false)
read_is_spelled byte barred bytes x rest known fits e =
    let t = read_of_kind (kind_at byte) barred bytes (x, rest) fits e in
    (t.0, t.1, t.2 ∙ byte_back byte known, t.3)

again_of : (x : Value) (barred : IdentitySet) (rest : List ℕ) → IsSound x → ((i : ℕ) → barred i ≡ true → mentioned x i ≡ false) → read_of (kind_of x) barred (spelled x ++ rest) ≡ Ok (x, rest)
again_of (GCounter state) barred rest sound free = ap (told_as GCounter) (gcounter.spelled_is_read-law state barred rest sound free)
again_of (PnCounter state) barred rest sound free = ap (told_as PnCounter) (pncounter.spelled_is_read-law state barred rest sound free)
again_of (GSet state) barred rest sound free = ap (told_as GSet) (gset.spelled_is_read-law state barred rest sound free)
again_of (OrSet state) barred rest sound free = ap (told_as OrSet) (orset.spelled_is_read-law state barred rest sound free)
again_of (Flag state) barred rest sound free = ap (told_as Flag) (flag.spelled_is_read-law state barred rest sound free)
again_of (LwwRegister state) barred rest sound free = ap (told_as LwwRegister) (register.spelled_is_read-law state barred rest sound free)

pub spelled_is_read : (x : Value) (barred : IdentitySet) (rest : List ℕ) → IsSound x → ((i : ℕ) → barred i ≡ true → mentioned x i ≡ false) → read_in (byte_of (kind_of x)) barred (spelled x ++ rest) ≡ Ok (x, rest)
spelled_is_read x barred rest sound free = ap (λ (kind : Kind). read_of kind barred (spelled x ++ rest)) (kind_back (kind_of x)) ∙ again_of x barred rest sound free

pub mentioned_few : (x : Value) (id : ℕ) → IsSound x → identity_limit ≤ id → mentioned x id ≡ false
mentioned_few (GCounter state) id sound many = gcounter.mentioned_few-law state id sound many
mentioned_few (PnCounter state) id sound many = pncounter.mentioned_few-law state id sound many
mentioned_few (GSet state) id sound many = gset.mentioned_few-law state id sound many
mentioned_few (OrSet state) id sound many = orset.mentioned_few-law state id sound many
mentioned_few (Flag state) id sound many = flag.mentioned_few-law state id sound many
mentioned_few (LwwRegister state) id sound many = register.mentioned_few-law state id sound many

pub spelling_means : (state : Value) (log : History Op) (held : VersionVector) (gone : IdentitySet) → IsPrunedCut log held gone → IsDataOf state log held gone → spelled state ≡ history_spelled (kind_of state) (cut log held)
spelling_means (GCounter state) log held gone pruned is = gcounter.spelling_means-law state log held gone pruned is
spelling_means (PnCounter state) log held gone pruned is = pncounter.spelling_means-law state log held gone pruned is
spelling_means (GSet state) log held gone pruned is = gset.spelling_means-law state log held gone pruned is
spelling_means (OrSet state) log held gone pruned is = orset.spelling_means-law state log held gone pruned is
spelling_means (Flag state) log held gone pruned is = flag.spelling_means-law state log held gone pruned is
spelling_means (LwwRegister state) log held gone pruned is = register.spelling_means-law state log held gone pruned is
