-- What stands in a step under the names that its forms share.
use Rattle.std.specs.Prelude.{◌≡◌, ℕ, List, codes, Option, Some, option_map, is_some, if◌then◌else◌}
use Rattle.std.specs.Borrow.{Bor}
use Rattle.std.specs.Str.{bytes_eq}
use Rattle.serde_json.specs.Data.{Data}
use Rattle.serde_json.specs.Find.{get}
use Rattle.serde_json.specs.View.{view}
use Rattle.serde_json.specs.declared.value.Value.{Value}
use Rattle.script_reading.specs.declared.named.Named.{Named}
use Rattle.script_reading.specs.Fields.{is_given}

-- what was found, if anything was
abbrev pub stands : Option (Bor Value) → Option Data
stands = option_map (λ v. view v.now)

-- what was found under a name is what stands there
abbrev pub IsFound : Option (Bor Value) → List ℕ → Data → Type 0
IsFound field name d = (stands field ≡ get name d) × (is_some field ≡ is_given d name)

abbrev pub AreFoundIn : Data → Named → Type 0
AreFoundIn d named =
    IsFound named.form (codes "do") d
    × IsFound named.at (codes "at") d
    × IsFound named.key (codes "key") d
    × IsFound named.op (codes "op") d
    × IsFound named.level (codes "level") d
    × IsFound named.by (codes "by") d
    × IsFound named.element (codes "element") d
    × IsFound named.now (codes "now") d
    × IsFound named.text (codes "text") d

-- what was found in a value is what stands there
abbrev pub AreFound : Named → Type 0
AreFound named = AreFoundIn (view named.value.now) named

-- what stands under a name when one more member was passed
abbrev pub passed : List ℕ → List ℕ → Data → Option Data → Option Data
passed name key d field = if bytes_eq key name then Some d else field

-- every name, when one more member was passed
abbrev pub ArePassed : List ℕ → Data → Named → Named → Type 0
ArePassed key d before after =
    (after.value ≡ before.value)
    × (stands after.form ≡ passed (codes "do") key d (stands before.form))
    × (stands after.at ≡ passed (codes "at") key d (stands before.at))
    × (stands after.key ≡ passed (codes "key") key d (stands before.key))
    × (stands after.op ≡ passed (codes "op") key d (stands before.op))
    × (stands after.level ≡ passed (codes "level") key d (stands before.level))
    × (stands after.by ≡ passed (codes "by") key d (stands before.by))
    × (stands after.element ≡ passed (codes "element") key d (stands before.element))
    × (stands after.now ≡ passed (codes "now") key d (stands before.now))
    × (stands after.text ≡ passed (codes "text") key d (stands before.text))
