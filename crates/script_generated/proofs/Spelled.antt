-- A generated script keeps its bounds, and is what its text spells.
use Rattle.std.proofs.Common.{◌≡◌, ℕ, ◌+◌, ◌<◌, ◌≤◌, Bool, true, false, nat_le, List, [], ◌∷◌, ◌++◌, length, map, get_or, drop, All, AllPairs, codes, Ok, refl, sym, ap, ◌∙◌, arith, append_assoc, append-nil, length-append, le-leb}
use Rattle.std.specs.Str.{IsUtf8}
use Rattle.std.specs.List.{range_with_len}
use Rattle.std.proofs.lemmas.List.Elements.{All-nil, All-cons}
use Rattle.std.proofs.lemmas.List.Kept.{AllPairs-cons}
use Rattle.std.proofs.lemmas.List.FromFn.{length-map-range_with_len}
use Rattle.std.proofs.lemmas.Str.{IsUtf8-append}
use Rattle.json.proofs.Printed.Utf8.{are_ascii, IsUtf8-are_ascii}
use Rattle.serde_json.specs.View.{items_of}
use Rattle.serde_json.specs.Events.{items_len}
use Rattle.model_kinds.specs.declared.kind.Kind.{Kind}
use Rattle.model_kinds.specs.declared.kind.Kind.TheVariants.{GCounter, PnCounter, GSet, Flag, LwwRegister, OrSet}
use Rattle.script_reading.specs.declared.script.Script.{Script}
use Rattle.script_reading.specs.declared.script.ScriptKey.{ScriptKey}
use Rattle.script_reading.specs.declared.clients.Clients.{Clients}
use Rattle.script_reading.specs.declared.clients.Clients.TheVariants.{Refused}
use Rattle.script_reading.specs.declared.clients.RunStep.{RunStep}
use Rattle.script_reading.specs.declared.clients.RunStep.TheVariants.{Plain}
use Rattle.script_reading.specs.declared.script.Step.TheVariants.{Remove, Settle}
use Rattle.script_reading.specs.Fields.{◌>>=◌, are_objects}
use Rattle.script_reading.specs.Reading.{key_decl, keys_after, step_list_of, steps_after, script_of, Spells}
use Rattle.script_reading.specs.WellFormed.{IsRunStep, IsAllowed, HasNoClients, IsWellFormed}
use Rattle.script_generated.specs.Generated.{generated_keys, generated_step, generated_steps, generated_script}
use Rattle.script_generated.specs.Texts.{kind_name, key_members, key_data, step_data, script_members, script_data, generated_text}
use Rattle.script_generated.proofs.Newline.{read_back}
use Rattle.script_generated.proofs.Written.{Each, IsWritten, whole_written, ascii_written, switch_written, list_written, fields_written}
use Rattle.script_generated.proofs.Steps.{IsSaid, steps_said}

abbrev with_steps : List RunStep → Script
with_steps steps = record { members = 5; keys = generated_keys; steps = steps }

-- ---- what is read

objects : (steps : List RunStep) → are_objects (items_of (map step_data steps)) ≡ true
objects [] = refl
objects (s ∷ ss) = objects ss

counted : (steps : List RunStep) → items_len (items_of (map step_data steps)) ≡ length steps
counted [] = refl
counted (s ∷ ss) = omega (arith, counted ss)

steps_read : (clients : Clients) (before steps : List RunStep) → Each IsSaid steps → steps_after clients before (items_of (map step_data steps)) ≡ Ok (before ++ steps)
unfolding steps_after
steps_read clients before [] h = ap Ok (sym (append-nil before))
steps_read clients before (s ∷ ss) h =
    ap (λ r. r >>= (λ step. steps_after clients (before ++ step ∷ []) (items_of (map step_data ss)))) (h.0.reads clients (length before + 1))
    ∙ steps_read clients (before ++ s ∷ []) ss h.1 ∙ ap Ok (append_assoc before (s ∷ []) ss)

step_list_read : (steps : List RunStep) → length steps ≤ 4096 → step_list_of (script_data (with_steps steps)) ≡ Ok (items_of (map step_data steps))
step_list_read steps few =
    let low : nat_le 0 (items_len (items_of (map step_data steps))) ≡ true = le-leb _ _ (omega arith) in
    let high : nat_le (items_len (items_of (map step_data steps))) 4096 ≡ true = le-leb _ _ (omega (arith, counted steps)) in
    simp (low, high, objects steps)

script_read : (clients : Clients) (steps : List RunStep) → Each IsSaid steps → length steps ≤ 4096 → script_of clients (script_data (with_steps steps)) ≡ Ok (with_steps steps)
unfolding script_of keys_after key_decl
script_read clients steps h few =
    ap (λ r. r >>= (λ items. steps_after clients [] items >>= (λ read. Ok (with_steps read)))) (step_list_read steps few)
    ∙ ap (λ r. r >>= (λ read. Ok (with_steps read))) (steps_read clients [] steps h)

-- ---- what is written

kind_ascii : (kind : Kind) → are_ascii (kind_name kind) ≡ true
kind_ascii GCounter = refl
kind_ascii PnCounter = refl
kind_ascii GSet = refl
kind_ascii Flag = refl
kind_ascii LwwRegister = refl
kind_ascii OrSet = refl

key_written : (key : List ℕ) (kind : Kind) (durable : Bool) → are_ascii key ≡ true → IsWritten 1 (key_data (record { key = key; kind = kind; durable = durable }))
key_written key kind true ascii =
    fields_written 0 (key_members (record { key = key; kind = kind; durable = true })) (switch_written 0 true, (ascii_written 0 key ascii, (ascii_written 0 (kind_name kind) (kind_ascii kind), tt))) refl refl
key_written key kind false ascii =
    fields_written 0 (key_members (record { key = key; kind = kind; durable = false })) (ascii_written 0 key ascii, (ascii_written 0 (kind_name kind) (kind_ascii kind), tt)) refl refl

keys_written : Each (IsWritten 1) (map key_data generated_keys)
keys_written = (
  key_written (codes "bal") PnCounter false refl,
  (key_written (codes "cart") OrSet true refl, (key_written (codes "hits") GCounter false refl, (key_written (codes "note") LwwRegister false refl, tt))),
)

steps_written : (steps : List RunStep) → Each IsSaid steps → Each (IsWritten 1) (map step_data steps)
steps_written [] h = tt
steps_written (s ∷ ss) h = (h.0.written, steps_written ss h.1)

script_written : (steps : List RunStep) → Each IsSaid steps → IsWritten 3 (script_data (with_steps steps))
script_written steps h =
    fields_written 2 (script_members (with_steps steps)) (list_written 1 (map key_data generated_keys) keys_written, (whole_written 2 5 (omega arith), (list_written 1 (map step_data steps) (steps_written steps h), tt))) refl refl

-- ---- the generated script

steps_count : (n : ℕ) → length (generated_steps n) ≡ n + 2
steps_count n = omega (arith, length-append (map generated_step (range_with_len 1 n)) (Plain (Remove 4) ∷ Plain Settle ∷ []), length-map-range_with_len generated_step 1 n)

pub spelled : (clients : Clients) (n : ℕ) → 1 ≤ n → n ≤ 4094 → Spells clients (generated_text n) (generated_script n)
unfolding generated_text
spelled clients n low high =
    let said = steps_said 1 n (omega arith) (omega arith) in
    let written = script_written (generated_steps n) said in
    let text : IsUtf8 (generated_text n) = IsUtf8-append _ (10 ∷ []) written.text (IsUtf8-are_ascii _ refl) in (
      script_data (generated_script n),
      (text, read_back (script_data (generated_script n)) written.reads written.numbers (omega (arith, written.flat))),
      script_read clients (generated_steps n) said (omega (arith, steps_count n)),
    )

steps_bounded : (steps : List RunStep) → Each IsSaid steps → All IsRunStep steps
steps_bounded [] h = All-nil IsRunStep
steps_bounded (s ∷ ss) h = All-cons IsRunStep s ss h.0.bounds (steps_bounded ss h.1)

steps_plain : (steps : List RunStep) → Each IsSaid steps → All (IsAllowed Refused) steps
steps_plain [] h = All-nil (IsAllowed Refused)
steps_plain (s ∷ ss) h = All-cons (IsAllowed Refused) s ss h.0.plain (steps_plain ss h.1)

-- the first bytes of the names rise
abbrev Rises : ScriptKey → ScriptKey → Type 0
Rises a b = get_or a.key 0 0 < get_or b.key 0 0

abbrev key_at : ℕ → ScriptKey
key_at n = get_or generated_keys n (record { key = []; kind = Flag; durable = false })

all_rise : (key : ScriptKey) (later : List ScriptKey) → Each (Rises key) later → All (Rises key) later
all_rise key [] h = All-nil (Rises key)
all_rise key (k ∷ ks) h = All-cons (Rises key) k ks h.0 (all_rise key ks h.1)

rise_from : (key : ScriptKey) (later : List ScriptKey) → Each (Rises key) later → AllPairs Rises later → AllPairs Rises (key ∷ later)
rise_from key later h pairs = AllPairs-cons Rises key later (all_rise key later h) pairs

none_rise : AllPairs Rises []
none_rise i j d before within = absurd (omega arith)

keys_rise : AllPairs Rises generated_keys
keys_rise =
    let third : Each (Rises (key_at 2)) (drop 3 generated_keys) = (omega arith, tt) in
    let second : Each (Rises (key_at 1)) (drop 2 generated_keys) = (omega arith, (omega arith, tt)) in
    let first : Each (Rises (key_at 0)) (drop 1 generated_keys) = (omega arith, (omega arith, (omega arith, tt))) in
    rise_from (key_at 0) (drop 1 generated_keys) first
    (rise_from (key_at 1) (drop 2 generated_keys) second (rise_from (key_at 2) (drop 3 generated_keys) third (rise_from (key_at 3) [] tt none_rise)))

pub well_formed : (n : ℕ) → 1 ≤ n → n ≤ 4094 → IsWellFormed (generated_script n)
well_formed n low high = record {
  members = (omega arith, omega arith);
  key_count = (omega arith, omega arith);
  key_names = λ i j d before within same. omega (arith, keys_rise i j d before within, ap (λ name. get_or name 0 0) same);
  step_count = omega (arith, steps_count n);
  steps = steps_bounded (generated_steps n) (steps_said 1 n (omega arith) (omega arith));
}

pub has_no_clients : (n : ℕ) → 1 ≤ n → n ≤ 4094 → HasNoClients (generated_script n)
has_no_clients n low high = steps_plain (generated_steps n) (steps_said 1 n (omega arith) (omega arith))
