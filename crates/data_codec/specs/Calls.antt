-- What spelling an envelope answers, by the entries that it stands for.
--     SpellsEntry, DigestsEntry        the bytes of the entry, and its digest
--     IsPrefixFree        no spelling is a proper prefix of another's
use Rattle.std.specs.Prelude.{◌≡◌, ℕ, List, ◌++◌, Result, IfOk}
use Rattle.std.specs.declared.vec.Vec.{Vec}
use Rattle.model_history.specs.Vector.{VersionVector, IdentitySet}
use Rattle.model_history.specs.History.{History}
use Rattle.model_members.specs.Entry.{Entry}
use Rattle.data_envelope.specs.Images.{Parts, StandsFor}

-- whatever follows them, two spellings that begin alike are one, and so is what they spell
abbrev pub IsPrefixFree : {X : Type 0} → (X → Type 0) → (X → List ℕ) → Type 0
IsPrefixFree {X} IsSound spelled = (a b : X) (x y : List ℕ) → IsSound a → IsSound b → spelled a ++ x ≡ spelled b ++ y → (a ≡ b) × (x ≡ y)

module _ {State Op : Type 0} (IsDataOf : State → History Op → VersionVector → IdentitySet → Type 0) where
  -- the bytes are those of the entry
  abbrev pub SpellsEntry : {Z E : Type 0} → Parts State → (Entry Op → List ℕ) → Result (Vec ℕ Z) E → Type 0
  SpellsEntry parts spelled result = (log : History Op) (entry : Entry Op) → StandsFor IsDataOf parts log entry → IfOk result (λ bytes. bytes.items ≡ spelled entry)

  -- the digest is that of the entry
  abbrev pub DigestsEntry : {E : Type 0} → Parts State → (Entry Op → List ℕ) → Result (List ℕ) E → Type 0
  DigestsEntry parts digested result = (log : History Op) (entry : Entry Op) → StandsFor IsDataOf parts log entry → IfOk result (λ digest. digest ≡ digested entry)
