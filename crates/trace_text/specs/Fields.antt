-- Reading the fields of a JSON value: what stands there, or nothing where it has not its form.
use Rattle.std.specs.Prelude.{◌≡◌, ℕ, ◌-◌, List, length, Bool, true, false, ◌&&◌, nat_le, if◌then◌else◌, Option, Some, None, Result, Ok, Err, ⊤}
use Rattle.model_history.specs.Table.{identity_limit}
use Rattle.serde_json.specs.Data.{Data, Items}
use Rattle.serde_json.specs.Find.{get, as_number, as_u64, as_bool, as_str, as_array}
use Rattle.serde_json.specs.Events.{items_len}
use Rattle.script_reading.specs.Fields.{is_key_name}
use Rattle.trace_text.specs.declared.fault.Fault.{Fault}
use Rattle.trace_text.specs.declared.fault.Fault.TheVariants.{Broken, Memory}

infixl 10 ◌>>=◌
abbrev pub ◌>>=◌ : {A B : Type 0} → Option A → (A → Option B) → Option B
None >>= f = None
(Some x) >>= f = f x

abbrev pub guard : Bool → Option ⊤
guard true = Some tt
guard false = None

-- the number, if it is within the bounds
abbrev pub within : ℕ → ℕ → ℕ → Option ℕ
within low high n = if nat_le low n && nat_le n high then Some n else None

-- the value as a whole number within bounds
abbrev pub whole_of : ℕ → ℕ → Data → Option ℕ
whole_of low high d = as_number d >>= as_u64 >>= within low high

abbrev pub identity_of : Data → Option ℕ
identity_of = whole_of 0 (identity_limit - 1)

-- what stands under a name
abbrev pub whole_in : List ℕ → ℕ → ℕ → Data → Option ℕ
whole_in name low high d = get name d >>= whole_of low high

abbrev pub identity_in : List ℕ → Data → Option ℕ
identity_in name d = get name d >>= identity_of

abbrev pub text_in : List ℕ → Data → Option (List ℕ)
text_in name d = get name d >>= as_str

-- a flag that may be left out, and is then off
abbrev pub flag_of : Option Data → Option Bool
flag_of None = Some false
flag_of (Some d) = as_bool d

-- an element of a set, or the text of a register
abbrev pub if_short : List ℕ → Option (List ℕ)
if_short text = if nat_le (length text) 64 then Some text else None

abbrev pub short_in : List ℕ → Data → Option (List ℕ)
short_in name d = text_in name d >>= if_short

abbrev pub if_key_name : List ℕ → Option (List ℕ)
if_key_name text = if is_key_name text then Some text else None

-- the name of a key
abbrev pub key_in : List ℕ → Data → Option (List ℕ)
key_in name d = text_in name d >>= if_key_name

abbrev pub array_in : List ℕ → Data → Option Items
array_in name d = get name d >>= as_array

abbrev pub if_count : ℕ → ℕ → Items → Option Items
if_count low high items = if nat_le low (items_len items) && nat_le (items_len items) high then Some items else None

-- ---- what a reader returns

-- What was returned is what reading gives.
abbrev pub Finds : {X Y : Type 0} → (Y → X) → Option Y → Option X → Type 0
Finds view (Some y) read = read ≡ Some (view y)
Finds view None read = read ≡ None

abbrev pub Fails : {X : Type 0} → Fault → Option X → Type 0
Fails Memory read = ⊤
Fails Broken read = read ≡ None

-- What was returned is what reading gives, unless memory ran out.
abbrev pub Gives : {X Y : Type 0} → (Y → X) → Result Y Fault → Option X → Type 0
Gives view (Ok y) read = read ≡ Some (view y)
Gives view (Err fault) read = Fails fault read
