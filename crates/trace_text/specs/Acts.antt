-- What a line says that a member does with a key: it records an operation or a prune, it holds, or it shows.
use Rattle.std.specs.Prelude.{ℕ, ◌+◌, ◌-◌, ◌^◌, List, [], ◌∷◌, codes, Bool, if◌then◌else◌, Option, Some, None}
use Rattle.std.specs.Str.{bytes_eq}
use Rattle.std.specs.FinMap as map
use Rattle.model_history.specs.Texts.{Text}
use Rattle.model_kinds.specs.declared.operation.Op.{Op}
use Rattle.model_kinds.specs.declared.operation.Op.TheVariants as op
use Rattle.serde_json.specs.Data.{Data, Items, no_items, item}
use Rattle.serde_json.specs.Find.{as_array}
use Rattle.base_vectors.specs.Vectors.{Numbers, raised}
use Rattle.script_reading.specs.Fields.{has_names}
use Rattle.trace_text.specs.Fields.{◌>>=◌, guard, whole_of, whole_in, identity_in, text_in, short_in, array_in}
use Rattle.trace_lines.specs.declared.trace.TraceAct.{TraceAct}
use Rattle.trace_lines.specs.declared.trace.TraceAct.TheVariants.{Record, Prune, Hold, Show}

-- ---- records. Each object has the names of its form and no others

abbrev pub are_record_names : List (List ℕ) → Data → Bool
are_record_names more d = has_names (codes "at" ∷ codes "do" ∷ codes "key" ∷ codes "op" ∷ more) [] d

-- an amount that is added or taken
unfoldable pub amount_of : Data → Option ℕ
amount_of d = do
  names ← guard (are_record_names (codes "by" ∷ []) d)
  whole_in (codes "by") 1 (2 ^ 63 - 1) d

unfoldable pub element_of : Data → Option Text
element_of d = do
  names ← guard (are_record_names (codes "element" ∷ []) d)
  short_in (codes "element") d

unfoldable pub assign_of : Data → Option Op
assign_of d = do
  names ← guard (are_record_names (codes "now" ∷ codes "text" ∷ []) d)
  now ← whole_in (codes "now") 0 (2 ^ 63 - 1) d
  text ← short_in (codes "text") d
  Some (op.Assign text now)

-- an operation that its name says all of
unfoldable pub plain_of : Op → Data → Option Op
plain_of op d = do
  names ← guard (are_record_names [] d)
  Some op

abbrev pub increment_of : Data → Option Op
increment_of d = amount_of d >>= (λ by. Some (op.Increment by))

abbrev pub decrement_of : Data → Option Op
decrement_of d = amount_of d >>= (λ by. Some (op.Decrement by))

abbrev pub add_of : Data → Option Op
add_of d = element_of d >>= (λ element. Some (op.Add element))

abbrev pub remove_of : Data → Option Op
remove_of d = element_of d >>= (λ element. Some (op.Remove element))

-- the operation of a name
abbrev pub operation_by : List ℕ → Data → Option Op
operation_by name d =
    if bytes_eq name (codes "increment") then increment_of d else (
    if bytes_eq name (codes "decrement") then decrement_of d else (
    if bytes_eq name (codes "add") then add_of d else (
    if bytes_eq name (codes "remove") then remove_of d else (
    if bytes_eq name (codes "enable") then plain_of op.Enable d else (
    if bytes_eq name (codes "assign") then assign_of d else (
    if bytes_eq name (codes "delete") then plain_of op.Delete d else
    None))))))

unfoldable pub prune_of : Data → Option ℕ
prune_of d = do
  names ← guard (are_record_names (codes "id" ∷ []) d)
  identity_in (codes "id") d

-- a record is an operation or a prune
abbrev pub record_by : List ℕ → Data → Option TraceAct
record_by name d =
    if bytes_eq name (codes "prune") then prune_of d >>= (λ id. Some (Prune id)) else
    operation_by name d >>= (λ op. Some (Record op))

unfoldable pub record_of : Data → Option TraceAct
record_of d = text_in (codes "op") d >>= (λ name. record_by name d)

-- ---- what is known: pairs of an identity and a number, identities rising

abbrev pub both_of : ℕ → Data → Data → Option (ℕ × ℕ)
both_of least i n = whole_of least 254 i >>= (λ identity. whole_of 1 (2 ^ 62) n >>= (λ number. Some (identity, number)))

abbrev pub pair_in : ℕ → Items → Option (ℕ × ℕ)
pair_in least (item i (item n no_items)) = both_of least i n
pair_in least _ = None

unfoldable pub pair_of : ℕ → Data → Option (ℕ × ℕ)
pair_of least d = as_array d >>= pair_in least

-- the numbers, after those before them. The next identity is no less than so much
unfoldable pub known_after : ℕ → Numbers → Items → Option Numbers
known_after least before no_items = Some before
known_after least before (item d ds) = do
  pair ← pair_of least d
  known_after (pair.0 + 1) (raised before pair.0 pair.1) ds

unfoldable pub hold_of : Data → Option TraceAct
hold_of d = do
  names ← guard (has_names (codes "at" ∷ codes "do" ∷ codes "key" ∷ codes "known" ∷ []) [] d)
  pairs ← array_in (codes "known") d
  known ← known_after 0 map.empty pairs
  Some (Hold known)

-- ---- what is shown

unfoldable pub show_of : Data → Option TraceAct
show_of d = do
  names ← guard (has_names (codes "at" ∷ codes "do" ∷ codes "key" ∷ codes "value" ∷ []) [] d)
  text ← text_in (codes "value") d
  Some (Show text)

-- ---- an act

abbrev pub act_by : List ℕ → Data → Option TraceAct
act_by form d =
    if bytes_eq form (codes "record") then record_of d else (
    if bytes_eq form (codes "hold") then hold_of d else (
    if bytes_eq form (codes "show") then show_of d else
    None))
