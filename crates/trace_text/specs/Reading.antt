-- The trace that a JSON value says, or the first line that has not its form.
use Rattle.std.specs.Prelude.{◌≡◌, ℕ, ◌+◌, List, [], ◌∷◌, ◌++◌, length, not, codes, Option, Some, None, Result, Ok, Err, ⊤}
use Rattle.std.specs.List.{list_any}
use Rattle.std.specs.Str.{IsUtf8, bytes_eq}
use Rattle.serde_json.specs.Data.{Data, Items, no_items, item}
use Rattle.serde_json.specs.Find.{get}
use Rattle.serde_json.specs.Read.{read}
use Rattle.model_kinds.specs.declared.kind.Kind.{Kind}
use Rattle.script_reading.specs.declared.script.ScriptKey.{ScriptKey}
use Rattle.script_reading.specs.Fields.{has_names}
use Rattle.script_reading.specs.Reading.{kind_named}
use Rattle.trace_text.specs.Fields.{◌>>=◌, guard, identity_in, text_in, flag_of, key_in, array_in, if_count}
use Rattle.trace_text.specs.Acts.{act_by}
use Rattle.trace_text.specs.declared.read.TraceError.{TraceError}
use Rattle.trace_text.specs.declared.read.TraceError.TheVariants as error
use Rattle.trace_lines.specs.declared.trace.TraceLine.{TraceLine}
use Rattle.trace_lines.specs.declared.trace.Trace.{Trace}

-- ---- keys, as in a script

abbrev pub kind_in : Data → Option Kind
kind_in d = text_in (codes "kind") d >>= kind_named

-- a declared key, whose name is not among those before it
unfoldable pub key_decl : List ScriptKey → Data → Option ScriptKey
key_decl before d = do
  names ← guard (has_names (codes "key" ∷ codes "kind" ∷ []) (codes "durable" ∷ []) d)
  key ← key_in (codes "key") d
  new ← guard (not (list_any (λ other. bytes_eq other.key key) before))
  kind ← kind_in d
  durable ← flag_of (get (codes "durable") d)
  Some (record { key = key; kind = kind; durable = durable })

-- the keys, after those before them
unfoldable pub keys_after : List ScriptKey → Items → Option (List ScriptKey)
keys_after before no_items = Some before
keys_after before (item d ds) = do
  key ← key_decl before d
  keys_after (before ++ key ∷ []) ds

unfoldable pub keys_of : Data → Option (List ScriptKey)
keys_of d = do
  names ← guard (has_names (codes "keys" ∷ codes "lines" ∷ []) [] d)
  list ← array_in (codes "keys") d
  few ← if_count 1 16 list
  keys_after [] few

-- ---- lines

unfoldable pub line_of : Data → Option TraceLine
line_of d = do
  form ← text_in (codes "do") d
  act ← act_by form d
  at ← identity_in (codes "at") d
  key ← key_in (codes "key") d
  Some (record { at = at; key = key; act = act })

-- the lines, after those before them, or the number of the first that is none
unfoldable pub lines_after : List TraceLine → Items → Result (List TraceLine) ℕ
lines_after before no_items = Ok before
lines_after before (item d ds) = elim (line_of d) [
  | None ↦ Err (length before + 1)
  | Some line ↦ lines_after (before ++ line ∷ []) ds
]

-- ---- the trace

abbrev pub with_lines : List ScriptKey → Result (List TraceLine) ℕ → Result Trace ℕ
with_lines keys (Ok lines) = Ok (record { keys = keys; lines = lines })
with_lines keys (Err line) = Err line

abbrev pub trace_with : Option (List ScriptKey) → Option Items → Result Trace ℕ
trace_with (Some keys) (Some items) = with_lines keys (lines_after [] items)
trace_with (Some keys) None = Err 0
trace_with None _ = Err 0

-- line 0 is the object, its keys, or that it has a list of lines
unfoldable pub trace_of : Data → Result Trace ℕ
trace_of d = trace_with (keys_of d) (array_in (codes "lines") d)

-- ---- bytes

-- what serde_json reads in the bytes of a text
abbrev pub Reads : List ℕ → Data → Type 0
Reads bytes d = IsUtf8 bytes × (read bytes ≡ Some d)

-- no JSON text
abbrev pub HasNoReading : List ℕ → Type 0
HasNoReading bytes = IsUtf8 bytes → read bytes ≡ None

-- these bytes spell this trace
abbrev pub Spells : List ℕ → Trace → Type 0
Spells bytes trace = (d : Data) × Reads bytes d × (trace_of d ≡ Ok trace)

-- these bytes are a JSON text, and this is the first line that has not its form
abbrev pub Breaks : List ℕ → ℕ → Type 0
Breaks bytes line = (d : Data) × Reads bytes d × (trace_of d ≡ Err line)

-- what each refusal says. Want of memory says nothing
abbrev pub MatchError : Type 0 → (ℕ → Type 0) → TraceError → Type 0
MatchError no_reading breaks error.NotJson = no_reading
MatchError no_reading breaks (error.NotATrace line) = breaks line
MatchError no_reading breaks error.Memory = ⊤

-- What was returned is what reading gives, unless memory ran out.
abbrev pub ReadsAs : {X : Type 0} → Result X TraceError → Result X ℕ → Type 0
ReadsAs (Ok x) read = read ≡ Ok x
ReadsAs (Err (error.NotATrace line)) read = read ≡ Err line
ReadsAs (Err error.Memory) read = ⊤
ReadsAs (Err error.NotJson) read = ⊥
