-- The laws of a key's data as bytes: those of its value, and those of no bytes at all.
use Rattle.std.proofs.Common.{◌≡◌, ℕ, ◌+◌, ◌-◌, ◌<◌, ◌≤◌, Bool, true, false, List, [], ◌++◌, Result, Ok, refl, ap, subst, ◌∙◌, arith}
use Rattle.std.specs.Prelude.{nat_lt, if◌then◌else◌}
use Rattle.std.proofs.lemmas.Bool.{ltb-true, lt-ltb}
use Rattle.model_history.specs.Table.{identity_limit}
use Rattle.model_history.specs.Vector.{VersionVector, IdentitySet}
use Rattle.model_history.specs.History.{History, cut}
use Rattle.model_history.specs.Cuts.{IsPrunedCut}
use Rattle.base_bytes.specs.declared.fault.Fault.{Fault}
use Rattle.base_bytes.specs.Spelling.{AreBytes, Takes}
use Rattle.base_bytes.specs.FieldLaws.{bind_ok, ok_is, takes_nothing}
use Rattle.model_kinds.specs.declared.kind.Kind.{Kind}
use Rattle.model_kinds.specs.declared.kind.Kind.TheVariants as kinds
use Rattle.model_kinds.specs.declared.operation.Op.{Op}
use Rattle.data_value.specs.declared.data.Data.{Data}
use Rattle.data_value.specs.declared.data.Data.TheVariants.{Open, Deleted}
use Rattle.data_value.specs.Values as values
use Rattle.data_value.specs.Spelled as of_value
use Rattle.data_value.specs.Spelled.{told_as, kind_at}
use Rattle.data_value.specs.SpelledLaws as laws
use Rattle.data_value.specs.Data.{kind_of, mentioned, IsDataOf}
use Rattle.data_value.specs.DataLaws.{closed_means}
use Rattle.data_value.specs.DataSpelled.{deleted_byte, byte_of, is_known, IsSound, spelled, read_in, history_byte, history_spelled}

-- no bytes
abbrev nothing : List ℕ
nothing = []

-- THE BYTES

-- those of values are low, those of deleted keys high
value_known : (kind : Kind) → is_known (of_value.byte_of kind) ≡ true
value_known kinds.GCounter = refl
value_known kinds.PnCounter = refl
value_known kinds.GSet = refl
value_known kinds.OrSet = refl
value_known kinds.Flag = refl
value_known kinds.LwwRegister = refl

value_low : (kind : Kind) → nat_lt 128 (of_value.byte_of kind) ≡ false
value_low kinds.GCounter = refl
value_low kinds.PnCounter = refl
value_low kinds.GSet = refl
value_low kinds.OrSet = refl
value_low kinds.Flag = refl
value_low kinds.LwwRegister = refl

deleted_known : (kind : Kind) → is_known (deleted_byte kind) ≡ true
deleted_known kinds.GCounter = refl
deleted_known kinds.PnCounter = refl
deleted_known kinds.GSet = refl
deleted_known kinds.OrSet = refl
deleted_known kinds.Flag = refl
deleted_known kinds.LwwRegister = refl

-- a deleted key of the kind, and all bytes after it
abbrev pub found_deleted : Kind → List ℕ → Result (Data × List ℕ) Fault
found_deleted kind bytes = Ok (Deleted kind, bytes)

abbrev read_of : ℕ → IdentitySet → List ℕ → Bool → Result (Data × List ℕ) Fault
read_of byte barred bytes high = if high then found_deleted (kind_at (byte - 128)) bytes else told_as Open (of_value.read_in byte barred bytes)

deleted_read : (kind : Kind) (barred : IdentitySet) (bytes : List ℕ) → read_in (deleted_byte kind) barred bytes ≡ found_deleted kind bytes
deleted_read kinds.GCounter barred bytes = refl
deleted_read kinds.PnCounter barred bytes = refl
deleted_read kinds.GSet barred bytes = refl
deleted_read kinds.OrSet barred bytes = refl
deleted_read kinds.Flag barred bytes = refl
deleted_read kinds.LwwRegister barred bytes = refl

pub high_read : (byte : ℕ) (barred : IdentitySet) (bytes : List ℕ) → 128 < byte → read_in byte barred bytes ≡ found_deleted (kind_at (byte - 128)) bytes
high_read byte barred bytes high = ap (read_of byte barred bytes) (lt-ltb 128 byte high)

pub byte_is_known : (x : Data) → is_known (byte_of x) ≡ true
byte_is_known (Open value) = value_known (values.kind_of value)
byte_is_known (Deleted kind) = deleted_known kind

-- READING

-- what holds of data that were read
abbrev IsRead : ℕ → IdentitySet → List ℕ → Data × List ℕ → Type 0
IsRead byte barred bytes x = Takes bytes (spelled x.0) x.1 × IsSound x.0 × (byte_of x.0 ≡ byte) × ((i : ℕ) → barred i ≡ true → mentioned x.0 i ≡ false)

pub read_is_spelled : (byte : ℕ) (barred : IdentitySet) (bytes : List ℕ) (x : Data) (rest : List ℕ) → is_known byte ≡ true → AreBytes bytes → read_in byte barred bytes ≡ Ok (x, rest)
    → Takes bytes (spelled x) rest × IsSound x × (byte_of x ≡ byte) × ((i : ℕ) → barred i ≡ true → mentioned x i ≡ false)
read_is_spelled byte barred bytes x rest known fits e = either (nat_lt 128 byte) refl known e
  where
    either : (high : Bool) → nat_lt 128 byte ≡ high → (if high then of_value.is_known (byte - 128) else of_value.is_known byte) ≡ true → read_of byte barred bytes high ≡ Ok (x, rest) → IsRead byte barred bytes (x, rest)
    either true is known e =
        let high : 128 < byte = ltb-true 128 byte is in
        let whole : byte - 128 + 128 ≡ byte = omega arith in
        let back : byte_of (Deleted (kind_at (byte - 128))) ≡ byte = ap (λ (n : ℕ). n + 128) (laws.byte_back (byte - 128) known) ∙ whole in
        subst (IsRead byte barred bytes) (ok_is (Deleted (kind_at (byte - 128)), bytes) (x, rest) e) (takes_nothing bytes fits, tt, back, λ i b. refl)
    either false is known e =
        let a = bind_ok (of_value.read_in byte barred bytes) (λ found. Ok (Open found.0, found.1)) (x, rest) e in
        subst (IsRead byte barred bytes) (ok_is (Open a.0.0, a.0.1) (x, rest) a.2) (laws.read_is_spelled byte barred bytes a.0.0 a.0.1 known fits a.1)

pub spelled_is_read : (x : Data) (barred : IdentitySet) (rest : List ℕ) → IsSound x → ((i : ℕ) → barred i ≡ true → mentioned x i ≡ false) → read_in (byte_of x) barred (spelled x ++ rest) ≡ Ok (x, rest)
spelled_is_read (Open value) barred rest sound free =
    ap (read_of (of_value.byte_of (values.kind_of value)) barred (of_value.spelled value ++ rest)) (value_low (values.kind_of value))
    ∙ ap (told_as Open) (laws.spelled_is_read value barred rest sound free)
spelled_is_read (Deleted kind) barred rest sound free = deleted_read kind barred rest

pub mentioned_few : (x : Data) (id : ℕ) → IsSound x → identity_limit ≤ id → mentioned x id ≡ false
mentioned_few (Open value) id sound many = laws.mentioned_few value id sound many
mentioned_few (Deleted kind) id sound many = refl

-- WHAT THE HISTORY SAYS

pub byte_means : (state : Data) (log : History Op) (held : VersionVector) (gone : IdentitySet) → IsPrunedCut log held gone → IsDataOf state log held gone → byte_of state ≡ history_byte (kind_of state) (cut log held)
byte_means (Open value) log held gone pruned is =
    ap (λ (deleted : Bool). if deleted then deleted_byte (values.kind_of value) else of_value.byte_of (values.kind_of value)) (closed_means (Open value) log held gone pruned is)
byte_means (Deleted kind) log held gone pruned is = ap (λ (deleted : Bool). if deleted then deleted_byte kind else of_value.byte_of kind) (closed_means (Deleted kind) log held gone pruned is)

pub spelling_means : (state : Data) (log : History Op) (held : VersionVector) (gone : IdentitySet) → IsPrunedCut log held gone → IsDataOf state log held gone → spelled state ≡ history_spelled (kind_of state) (cut log held)
spelling_means (Open value) log held gone pruned is =
    laws.spelling_means value log held gone pruned is.1
    ∙ ap (λ (deleted : Bool). if deleted then nothing else of_value.history_spelled (values.kind_of value) (cut log held)) (closed_means (Open value) log held gone pruned is)
spelling_means (Deleted kind) log held gone pruned is = ap (λ (deleted : Bool). if deleted then nothing else of_value.history_spelled kind (cut log held)) (closed_means (Deleted kind) log held gone pruned is)
