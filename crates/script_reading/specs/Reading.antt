-- The script that a JSON value says, or the first rule that it breaks.
use Rattle.std.specs.Prelude.{◌≡◌, ℕ, ◌+◌, List, [], ◌∷◌, ◌++◌, length, not, codes, if◌then◌else◌, Option, Some, None, Result, Ok, Err}
use Rattle.std.specs.List.{list_any}
use Rattle.std.specs.Str.{IsUtf8, bytes_eq}
use Rattle.serde_json.specs.Data.{Data, Items, no_items, item}
use Rattle.serde_json.specs.Find.{get}
use Rattle.serde_json.specs.Read.{read}
use Rattle.model_kinds.specs.declared.kind.Kind.{Kind}
use Rattle.model_kinds.specs.declared.kind.Kind.TheVariants.{GCounter, PnCounter, GSet, Flag, LwwRegister, OrSet}
use Rattle.script_reading.specs.declared.fault.Rule.{Rule}
use Rattle.script_reading.specs.declared.clients.Clients.{Clients}
use Rattle.script_reading.specs.declared.clients.RunStep.{RunStep}
use Rattle.script_reading.specs.declared.clients.RunStep.TheVariants.{Plain, Threads}
use Rattle.script_reading.specs.declared.script.Script.{Script}
use Rattle.script_reading.specs.declared.script.ScriptKey.{ScriptKey}
use Rattle.script_reading.specs.Fields.{rule, ◌>>=◌, guard, required, are_objects, has_names, flag_of, whole_of, text_of, list_of, key_of}
pub use Rattle.script_reading.specs.Forms.{update_of, get_of, flush_of, gossip_of, deliver_of, lose_of, round_of, tick_of, timeout_of, remove_of, join_of, restart_of, install_of, settle_of, plain_of}
use Rattle.script_reading.specs.Allowances.{may_have}
use Rattle.script_reading.specs.Clients.{threads_of}
use Rattle.script_reading.specs.Followers.{subscribe_of, unsubscribe_of}

-- ---- steps

abbrev pub threads_step_of : ℕ → Data → Result RunStep Rule
threads_step_of step d = threads_of step d >>= (λ clients. Ok (Threads clients))

abbrev pub plain_step_of : ℕ → Data → Result RunStep Rule
plain_step_of step d = plain_of [] step d >>= (λ plain. Ok (Plain plain))

-- a step, with clients or without
abbrev pub form_by : Clients → ℕ → Data → List ℕ → Result RunStep Rule
form_by clients step d name =
    if bytes_eq name (codes "threads") then threads_step_of step d else (
    if bytes_eq name (codes "subscribe") then subscribe_of clients step d else (
    if bytes_eq name (codes "unsubscribe") then unsubscribe_of clients step d else
    plain_step_of step d))

unfoldable pub form_of : Clients → ℕ → Data → Result RunStep Rule
form_of clients step d = text_of (rule step 5) (get (codes "do") d) >>= form_by clients step d

-- a step with clients stands in no script that may have none such
abbrev pub if_allowed : Clients → Rule → RunStep → Result RunStep Rule
if_allowed clients rule step = if may_have clients step then Ok step else Err rule

unfoldable pub step_of : Clients → ℕ → Data → Result RunStep Rule
step_of clients step d = form_of clients step d >>= if_allowed clients (rule step 14)

-- the steps, after those before them
unfoldable pub steps_after : Clients → List RunStep → Items → Result (List RunStep) Rule
steps_after clients before no_items = Ok before
steps_after clients before (item d ds) = do
  step ← step_of clients (length before + 1) d
  steps_after clients (before ++ step ∷ []) ds

-- ---- keys

-- the kind of a name
abbrev pub kind_named : List ℕ → Option Kind
kind_named name =
    if bytes_eq name (codes "gcounter") then Some GCounter else (
    if bytes_eq name (codes "pncounter") then Some PnCounter else (
    if bytes_eq name (codes "gset") then Some GSet else (
    if bytes_eq name (codes "flag") then Some Flag else (
    if bytes_eq name (codes "lwwregister") then Some LwwRegister else (
    if bytes_eq name (codes "orset") then Some OrSet else
    None)))))

abbrev pub kind_of : Option Data → Result Kind Rule
kind_of field = text_of (rule 0 3) field >>= (λ name. required (rule 0 3) (kind_named name))

-- a declared key, whose name is not among those before it
unfoldable pub key_decl : List ScriptKey → Data → Result ScriptKey Rule
key_decl before d = do
  names ← guard (rule 0 3) (has_names (codes "key" ∷ codes "kind" ∷ []) (codes "durable" ∷ []) d)
  key ← key_of (rule 0 3) (get (codes "key") d)
  new ← guard (rule 0 3) (not (list_any (λ other. bytes_eq other.key key) before))
  kind ← kind_of (get (codes "kind") d)
  durable ← flag_of (rule 0 3) (get (codes "durable") d)
  Ok (record { key = key; kind = kind; durable = durable })

-- the keys, after those before them
unfoldable pub keys_after : List ScriptKey → Items → Result (List ScriptKey) Rule
keys_after before no_items = Ok before
keys_after before (item d ds) = do
  key ← key_decl before d
  keys_after (before ++ key ∷ []) ds

-- ---- the script

abbrev pub if_objects : Items → Result Items Rule
if_objects items = if are_objects items then Ok items else Err (rule 0 4)

-- the list of steps: a list of at most 4,096 objects
abbrev pub step_list_of : Data → Result Items Rule
step_list_of d = list_of (rule 0 4) 0 4096 (get (codes "steps") d) >>= if_objects

-- how many members there are, and the keys
unfoldable pub opening_of : Data → Result (ℕ × List ScriptKey) Rule
opening_of d = do
  names ← guard (rule 0 1) (has_names (codes "keys" ∷ codes "members" ∷ codes "steps" ∷ []) [] d)
  members ← whole_of (rule 0 2) 1 8 (get (codes "members") d)
  keys_in ← list_of (rule 0 3) 1 16 (get (codes "keys") d)
  keys ← keys_after [] keys_in
  Ok (members, keys)

-- the rules of a script, in their order, and then those of its steps
unfoldable pub script_of : Clients → Data → Result Script Rule
script_of clients d = do
  names ← guard (rule 0 1) (has_names (codes "keys" ∷ codes "members" ∷ codes "steps" ∷ []) [] d)
  members ← whole_of (rule 0 2) 1 8 (get (codes "members") d)
  keys_in ← list_of (rule 0 3) 1 16 (get (codes "keys") d)
  keys ← keys_after [] keys_in
  steps_in ← step_list_of d
  steps ← steps_after clients [] steps_in
  Ok (record { members = members; keys = keys; steps = steps })

-- ---- bytes

-- what serde_json reads in the bytes of a text
abbrev pub Reads : List ℕ → Data → Type 0
Reads bytes d = IsUtf8 bytes × (read bytes ≡ Some d)

-- no JSON text
abbrev pub HasNoReading : List ℕ → Type 0
HasNoReading bytes = IsUtf8 bytes → read bytes ≡ None

-- these bytes spell this script
abbrev pub Spells : Clients → List ℕ → Script → Type 0
Spells clients bytes script = (d : Data) × Reads bytes d × (script_of clients d ≡ Ok script)

-- these bytes are a JSON text, and this is the first rule of scripts that it breaks
abbrev pub Breaks : Clients → List ℕ → Rule → Type 0
Breaks clients bytes broken = (d : Data) × Reads bytes d × (script_of clients d ≡ Err broken)
