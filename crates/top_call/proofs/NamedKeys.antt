-- The keys of a script that bytes spell have names of keys.
use Rattle.std.proofs.Common.{◌≡◌, ℕ, zero, suc, List, [], ◌∷◌, ◌++◌, refl, sym, ap, subst, ◌∙◌, arith, Bool, true, false, Ok, Err}
use Rattle.std.specs.Prelude.{⊤, All, Result, not, codes, if◌then◌else◌}
use Rattle.std.specs.List.{list_any}
use Rattle.std.specs.Str.{bytes_eq}
use Rattle.serde_json.specs.Data.{Data, Items, no_items, item}
use Rattle.serde_json.specs.Find.{get}
use Rattle.script_reading.specs.declared.clients.Clients.{Clients}
use Rattle.script_reading.specs.declared.fault.Rule.{Rule}
use Rattle.script_reading.specs.declared.script.Script.{Script}
use Rattle.script_reading.specs.declared.script.ScriptKey.{ScriptKey}
use Rattle.model_kinds.specs.declared.kind.Kind.{Kind}
use Rattle.script_reading.specs.declared.clients.RunStep.{RunStep}
use Rattle.script_reading.specs.Fields.{rule, ◌>>=◌, guard, has_names, whole_of, text_of, list_of, key_of, if_key_name, flag_of, is_key_name}
use Rattle.script_reading.specs.Reading.{kind_of, key_decl, keys_after, step_list_of, steps_after, script_of, Spells}

abbrev pub AreNamed : List ScriptKey → Type 0
AreNamed keys = All (λ key. is_key_name key.key ≡ true) keys

-- what comes of a step that went well
record WentOn {A B : Type 0} (r : Result A Rule) (f : A → Result B Rule) (y : B) : Type 0 where
  pub value : A
  pub went : r ≡ Ok value
  pub on : f value ≡ Ok y

went_on : {A B : Type 0} (r : Result A Rule) (f : A → Result B Rule) (y : B) → (r >>= f) ≡ Ok y → WentOn r f y
went_on (Ok x) f y e = record { value = x; went = refl; on = e }
went_on (Err broken) f y e = absurd (cc e)

if_named : (b : Bool) (broken : Rule) (text name : List ℕ) → (if b then Ok text else Err broken) ≡ Ok name → (b ≡ true) × (text ≡ name)
if_named true broken text name e = (refl, (let same : text ≡ name = cc e in same))
if_named false broken text name e = absurd (cc e)

-- a key as it is read, step by step
module _ (before : List ScriptKey) (d : Data) where
  abbrev has_durable : List ℕ → Kind → Bool → Result ScriptKey Rule
  has_durable key kind durable = Ok (record { key = key; kind = kind; durable = durable })

  abbrev has_kind : List ℕ → Kind → Result ScriptKey Rule
  has_kind key kind = flag_of (rule 0 3) (get (codes "durable") d) >>= (λ durable. has_durable key kind durable)

  abbrev is_new : List ℕ → ⊤ → Result ScriptKey Rule
  is_new key new = kind_of (get (codes "kind") d) >>= (λ kind. has_kind key kind)

  abbrev has_key : List ℕ → Result ScriptKey Rule
  has_key key = guard (rule 0 3) (not (list_any (λ (other : ScriptKey). bytes_eq other.key key) before)) >>= (λ new. is_new key new)

  abbrev has_all : ⊤ → Result ScriptKey Rule
  has_all names = key_of (rule 0 3) (get (codes "key") d) >>= (λ key. has_key key)

  key_named : (key : ScriptKey) → key_decl before d ≡ Ok key → is_key_name key.key ≡ true
  unfolding key_decl
  key_named key e =
      let names = went_on (guard (rule 0 3) (has_names (codes "key" ∷ codes "kind" ∷ []) (codes "durable" ∷ []) d)) has_all key e in
      let name = went_on (key_of (rule 0 3) (get (codes "key") d)) has_key key names.on in
      let text = went_on (text_of (rule 0 3) (get (codes "key") d)) (if_key_name (rule 0 3)) name.value name.went in
      let named = if_named (is_key_name text.value) (rule 0 3) text.value name.value text.on in
      let new = went_on (guard (rule 0 3) (not (list_any (λ (other : ScriptKey). bytes_eq other.key name.value) before))) (is_new name.value) key name.on in
      let kind = went_on (kind_of (get (codes "kind") d)) (has_kind name.value) key new.on in
      let durable = went_on (flag_of (rule 0 3) (get (codes "durable") d)) (has_durable name.value kind.value) key kind.on in
      let same : record { key = name.value; kind = kind.value; durable = durable.value } ≡ key = (let o = durable.on in cc o) in
      ap is_key_name (sym (named.1 ∙ ap (λ (k : ScriptKey). k.key) same)) ∙ named.0

pushed : (keys : List ScriptKey) (key : ScriptKey) → AreNamed keys → is_key_name key.key ≡ true → AreNamed (keys ++ key ∷ [])
pushed [] key all now zero d less = now
pushed [] key all now (suc k) d less = absurd (omega (arith, less))
pushed (x ∷ keys) key all now zero d less = all zero d (omega arith)
pushed (x ∷ keys) key all now (suc k) d less = pushed keys key (λ k d less. all (suc k) d (omega (arith, less))) now k d (omega (arith, less))

keys_named : (before : List ScriptKey) (items : Items) (keys : List ScriptKey) → keys_after before items ≡ Ok keys → AreNamed before → AreNamed keys
unfolding keys_after
keys_named before no_items keys e all = subst AreNamed (let same : before ≡ keys = cc e in same) all
keys_named before (item d ds) keys e all =
    let key = went_on (key_decl before d) (λ key. keys_after (before ++ key ∷ []) ds) keys e in
    keys_named (before ++ key.value ∷ []) ds keys key.on (pushed before key.value all (key_named before d key.value key.went))

-- a script as it is read, step by step
module _ (clients : Clients) (d : Data) where
  abbrev has_steps : ℕ → List ScriptKey → List RunStep → Result Script Rule
  has_steps members keys steps = Ok (record { members = members; keys = keys; steps = steps })

  abbrev has_list : ℕ → List ScriptKey → Items → Result Script Rule
  has_list members keys steps_in = steps_after clients [] steps_in >>= (λ steps. has_steps members keys steps)

  abbrev has_keys : ℕ → List ScriptKey → Result Script Rule
  has_keys members keys = step_list_of d >>= (λ steps_in. has_list members keys steps_in)

  abbrev has_key_list : ℕ → Items → Result Script Rule
  has_key_list members keys_in = keys_after [] keys_in >>= (λ keys. has_keys members keys)

  abbrev has_members : ℕ → Result Script Rule
  has_members members = list_of (rule 0 3) 1 16 (get (codes "keys") d) >>= (λ keys_in. has_key_list members keys_in)

  abbrev has_its_names : ⊤ → Result Script Rule
  has_its_names names = whole_of (rule 0 2) 1 8 (get (codes "members") d) >>= (λ members. has_members members)

  script_named : (script : Script) → script_of clients d ≡ Ok script → AreNamed script.keys
  unfolding script_of
  script_named script e =
      let names = went_on (guard (rule 0 1) (has_names (codes "keys" ∷ codes "members" ∷ codes "steps" ∷ []) [] d)) has_its_names script e in
      let members = went_on (whole_of (rule 0 2) 1 8 (get (codes "members") d)) has_members script names.on in
      let list = went_on (list_of (rule 0 3) 1 16 (get (codes "keys") d)) (has_key_list members.value) script members.on in
      let keys = went_on (keys_after [] list.value) (has_keys members.value) script list.on in
      let steps_in = went_on (step_list_of d) (has_list members.value keys.value) script keys.on in
      let steps = went_on (steps_after clients [] steps_in.value) (has_steps members.value keys.value) script steps_in.on in
      let same : record { members = members.value; keys = keys.value; steps = steps.value } ≡ script = (let o = steps.on in cc o) in
      subst AreNamed (ap (λ (s : Script). s.keys) same) (keys_named [] list.value keys.value keys.went (λ k e less. absurd (omega (arith, less))))

pub keys_are_named : (clients : Clients) (bytes : List ℕ) (script : Script) → Spells clients bytes script → AreNamed script.keys
keys_are_named clients bytes script spells = script_named clients spells.0 script spells.2
