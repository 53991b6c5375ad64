-- Values of SQL that are not the one that is looked for.
use Rattle.std.proofs.Common.{◌≡◌, false, IsTrue}
use Rattle.sqlite_value.specs.declared.value.Value.{Value}

pub neither : (found wanted : Value) → (found ≡ wanted → ⊥) → (IsTrue false → found ≡ wanted) × (found ≡ wanted → IsTrue false)
neither found wanted other = (λ never. absurd (let e = never in cc), λ same. absurd (other same))
