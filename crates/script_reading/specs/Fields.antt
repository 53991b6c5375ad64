-- Reading the fields of a JSON value: what stands there, or the rule that is broken.
use Rattle.std.specs.Prelude.{◌≡◌, ℕ, ◌+◌, ◌-◌, ◌^◌, ◌==◌, List, length, Bool, true, false, ◌&&◌, ◌||◌, nat_le, if◌then◌else◌, Option, Some, None, option_and_then, is_some, Result, Ok, Err, ⊤}
use Rattle.std.specs.List.{list_all, count_by}
use Rattle.model_history.specs.Table.{identity_limit}
use Rattle.serde_json.specs.Data.{Data, Items, no_items, item, Members}
use Rattle.serde_json.specs.Find.{get, as_number, as_u64, as_bool, as_str, as_array, as_object}
use Rattle.serde_json.specs.Events.{items_len, members_len}
use Rattle.script_reading.specs.declared.fault.Rule.{Rule}
use Rattle.script_reading.specs.declared.fault.Fault.{Fault}
use Rattle.script_reading.specs.declared.fault.Fault.TheVariants.{Breaks, Memory}

abbrev pub rule : ℕ → ℕ → Rule
rule step number = record { step = step; number = number }

infixl 10 ◌>>=◌
abbrev pub ◌>>=◌ : {A B : Type 0} → Result A Rule → (A → Result B Rule) → Result B Rule
(Ok x) >>= f = f x
(Err rule) >>= f = Err rule

abbrev pub required : {X : Type 0} → Rule → Option X → Result X Rule
required rule None = Err rule
required rule (Some x) = Ok x

abbrev pub guard : Rule → Bool → Result ⊤ Rule
guard rule true = Ok tt
guard rule false = Err rule

-- ---- numbers

abbrev pub within : Rule → ℕ → ℕ → Option ℕ → Result ℕ Rule
within rule low high None = Err rule
within rule low high (Some n) = if nat_le low n && nat_le n high then Ok n else Err rule

-- a whole number within bounds
abbrev pub whole_of : Rule → ℕ → ℕ → Option Data → Result ℕ Rule
whole_of rule low high field = within rule low high (option_and_then as_u64 (option_and_then as_number field))

-- the identity of a member
abbrev pub identity_of : ℕ → Option Data → Result ℕ Rule
identity_of step = whole_of (rule step 7) 0 (identity_limit - 1)

-- the place of a member
abbrev pub place_of : ℕ → Option Data → Result ℕ Rule
place_of step = whole_of (rule step 7) 0 7

-- the number of a view, of a message on a link, or of an operation
abbrev pub number_of : ℕ → Option Data → Result ℕ Rule
number_of step = whole_of (rule step 7) 0 (2 ^ 32 - 1)

-- what is read of a field that may be left out
abbrev pub if_given : {X : Type 0} → (Option Data → Result X Rule) → Option Data → Result (Option X) Rule
if_given reader None = Ok None
if_given reader (Some d) = reader (Some d) >>= (λ x. Ok (Some x))

-- an amount that is added or taken
abbrev pub amount_of : ℕ → Option Data → Result ℕ Rule
amount_of step = whole_of (rule step 10) 1 (2 ^ 63 - 1)

-- where a writer's clock stands
abbrev pub moment_of : ℕ → Option Data → Result ℕ Rule
moment_of step = whole_of (rule step 10) 0 (2 ^ 63 - 1)

-- ---- flags

-- a flag that may be left out, and is then off
abbrev pub flag_of : Rule → Option Data → Result Bool Rule
flag_of rule None = Ok false
flag_of rule (Some d) = required rule (as_bool d)

-- ---- texts

abbrev pub text_of : Rule → Option Data → Result (List ℕ) Rule
text_of rule field = required rule (option_and_then as_str field)

-- an element of a set, or the text of a register
abbrev pub if_short : Rule → List ℕ → Result (List ℕ) Rule
if_short rule text = if nat_le (length text) 64 then Ok text else Err rule

-- a to z, 0 to 9, _ and -
abbrev pub is_key_byte : ℕ → Bool
is_key_byte b = (nat_le 97 b && nat_le b 122) || ((nat_le 48 b && nat_le b 57) || ((b == 95) || (b == 45)))

abbrev pub is_key_name : List ℕ → Bool
is_key_name bytes = nat_le 1 (length bytes) && (nat_le (length bytes) 32 && list_all is_key_byte bytes)

abbrev pub if_key_name : Rule → List ℕ → Result (List ℕ) Rule
if_key_name rule text = if is_key_name text then Ok text else Err rule

-- a name of a key
abbrev pub key_of : Rule → Option Data → Result (List ℕ) Rule
key_of rule field = text_of rule field >>= if_key_name rule

-- ---- lists

abbrev pub array_of : Rule → Option Data → Result Items Rule
array_of rule field = required rule (option_and_then as_array field)

abbrev pub if_count : Rule → ℕ → ℕ → Items → Result Items Rule
if_count rule low high items = if nat_le low (items_len items) && nat_le (items_len items) high then Ok items else Err rule

-- a list with so many items
abbrev pub list_of : Rule → ℕ → ℕ → Option Data → Result Items Rule
list_of rule low high field = array_of rule field >>= if_count rule low high

-- ---- objects

abbrev pub are_objects : Items → Bool
are_objects no_items = true
are_objects (item d ds) = is_some (as_object d) && are_objects ds

abbrev pub name_count : Option Members → ℕ
name_count None = 0
name_count (Some ms) = members_len ms

abbrev pub is_given : Data → List ℕ → Bool
is_given d name = is_some (get name d)

-- An object with all of the first names, and no others but the second ones. Each name of an object stands once in it.
abbrev pub has_names : List (List ℕ) → List (List ℕ) → Data → Bool
has_names names optional d = (name_count (as_object d) == length names + count_by (is_given d) optional) && list_all (is_given d) names

-- the names of a step
abbrev pub names_of : ℕ → List (List ℕ) → List (List ℕ) → Data → Result ⊤ Rule
names_of step names optional d = guard (rule step 6) (has_names names optional d)

-- the same, where of the names so many were looked up
abbrev pub given_names : ℕ → Bool → ℕ → List (List ℕ) → Data → Result ⊤ Rule
given_names step are_given count more d = guard (rule step 6) ((name_count (as_object d) == count + count_by (is_given d) more) && are_given)

-- ---- what a reader returns

-- What was returned is what reading gives.
abbrev pub Finds : {X Y : Type 0} → (Y → X) → Result Y Rule → Result X Rule → Type 0
Finds view (Ok y) read = read ≡ Ok (view y)
Finds view (Err rule) read = read ≡ Err rule

abbrev pub Fails : {X : Type 0} → Fault → Result X Rule → Type 0
Fails Memory read = ⊤
Fails (Breaks rule) read = read ≡ Err rule

-- What was returned is what reading gives, unless memory ran out.
abbrev pub Gives : {X Y : Type 0} → (Y → X) → Result Y Fault → Result X Rule → Type 0
Gives view (Ok y) read = read ≡ Ok (view y)
Gives view (Err fault) read = Fails fault read
