-- The text of a trace is read as that trace.
use Rattle.std.proofs.Common.{◌≡◌, ◌≢◌, ℕ, ◌+◌, Bool, true, false, nat_le, List, [], ◌∷◌, ◌++◌, length, map, Some, None, Result, Ok, Err, All, AllPairs, refl, sym, ap, subst, ◌∙◌, arith, append_assoc, append-nil, le-leb}
use Rattle.std.specs.Str.{IsUtf8, bytes_eq}
use Rattle.std.specs.List.{list_any}
use Rattle.std.proofs.lemmas.Str.{IsUtf8-append}
use Rattle.std.proofs.lemmas.List.Elements.{All-head, All-tail}
use Rattle.json.proofs.Printed.Utf8.{are_ascii, IsUtf8-are_ascii}
use Rattle.serde_json.specs.Data.{Data}
use Rattle.serde_json.specs.View.{items_of}
use Rattle.serde_json.specs.Events.{items_len}
use Rattle.model_kinds.specs.declared.kind.Kind.{Kind}
use Rattle.model_kinds.specs.declared.kind.Kind.TheVariants.{GCounter, PnCounter, GSet, Flag, LwwRegister, OrSet}
use Rattle.script_reading.specs.declared.script.ScriptKey.{ScriptKey}
use Rattle.script_reading.specs.Fields.{is_key_name}
use Rattle.script_reading.specs.Reading.{kind_named}
use Rattle.script_generated.specs.Texts.{kind_name}
use Rattle.script_generated.proofs.Newline.{read_back}
use Rattle.script_generated.proofs.Written.{Each, IsWritten, text_written, ascii_written, switch_written, list_written, fields_written}
use Rattle.trace_lines.specs.declared.trace.Trace.{Trace}
use Rattle.trace_lines.specs.declared.trace.TraceLine.{TraceLine}
use Rattle.trace_lines.specs.Meant.{key_meant, line_meant, trace_meant}
use Rattle.trace_lines.specs.WellFormed.{IsLine, IsWellFormed}
use Rattle.trace_text.specs.Fields.{◌>>=◌}
use Rattle.trace_text.specs.Reading.{key_decl, keys_after, keys_of, lines_after, with_lines, trace_with, trace_of, Spells}
use Rattle.trace_text.specs.Said.{SaysTexts, AreSayable}
use Rattle.trace_text.specs.Texts.{key_members, key_data, line_data, trace_members, trace_data, trace_text}
use Rattle.trace_text.proofs.LineTexts.{key_utf8, line_read, line_written}
use Rattle.trace_text.proofs.Lists.{names_before}

-- KEYS

kind_read : (kind : Kind) → kind_named (kind_name kind) ≡ Some kind
kind_read GCounter = refl
kind_read PnCounter = refl
kind_read GSet = refl
kind_read Flag = refl
kind_read LwwRegister = refl
kind_read OrSet = refl

key_read : (before : List ScriptKey) (name : List ℕ) (kind : Kind) (durable : Bool) → is_key_name name ≡ true → list_any (λ other. bytes_eq other.key name) before ≡ false
    → key_decl before (key_data (record { name = name; kind = kind; durable = durable })) ≡ Some (record { key = name; kind = kind; durable = durable })
unfolding key_decl
key_read before name kind true named new = simp (named, new, kind_read kind)
key_read before name kind false named new = simp (named, new, kind_read kind)

abbrev IsNamed : ScriptKey → Type 0
IsNamed key = is_key_name key.key ≡ true

abbrev SaysLine : TraceLine → Type 0
SaysLine line = SaysTexts line.act

abbrev keys_said : List ScriptKey → List Data
keys_said keys = map key_data (map key_meant keys)

keys_read : (before keys : List ScriptKey) → AllPairs (λ a b. a.key ≢ b.key) (before ++ keys) → All (λ key. is_key_name key.key ≡ true) keys
    → keys_after before (items_of (keys_said keys)) ≡ Some (before ++ keys)
unfolding keys_after
keys_read before [] distinct named = ap Some (sym (append-nil before))
keys_read before (key ∷ keys) distinct named =
    let first = key_read before key.key key.kind key.durable (All-head IsNamed key keys named) (names_before before key keys distinct) in
    ap (λ o. o >>= (λ read. keys_after (before ++ read ∷ []) (items_of (keys_said keys)))) first
    ∙ keys_read (before ++ key ∷ []) keys (subst (AllPairs (λ a b. a.key ≢ b.key)) (sym (append_assoc before (key ∷ []) keys)) distinct) (All-tail IsNamed key keys named)
    ∙ ap Some (append_assoc before (key ∷ []) keys)

keys_counted : (keys : List ScriptKey) → items_len (items_of (keys_said keys)) ≡ length keys
keys_counted [] = refl
keys_counted (key ∷ keys) = omega (arith, keys_counted keys)

-- LINES

abbrev lines_said : List TraceLine → List Data
lines_said lines = map line_data (map line_meant lines)

lines_read : (before lines : List TraceLine) → All IsLine lines → lines_after before (items_of (lines_said lines)) ≡ Ok (before ++ lines)
unfolding lines_after
lines_read before [] are = ap Ok (sym (append-nil before))
lines_read before (line ∷ lines) are =
    ap (λ o. elim o as (λ o. Result (List TraceLine) ℕ) [ None ↦ Err (length before + 1) | Some read ↦ lines_after (before ++ read ∷ []) (items_of (lines_said lines)) ]) (line_read line (All-head IsLine line lines are))
    ∙ lines_read (before ++ line ∷ []) lines (All-tail IsLine line lines are) ∙ ap Ok (append_assoc before (line ∷ []) lines)

-- THE TRACE

keys_found : (trace : Trace) → IsWellFormed trace → keys_of (trace_data (trace_meant trace)) ≡ Some trace.keys
unfolding keys_of
keys_found trace is =
    let some = is.key_count.0 in
    let few = is.key_count.1 in
    let low : nat_le 1 (items_len (items_of (keys_said trace.keys))) ≡ true = le-leb _ _ (omega (arith, keys_counted trace.keys)) in
    let high : nat_le (items_len (items_of (keys_said trace.keys))) 16 ≡ true = le-leb _ _ (omega (arith, keys_counted trace.keys)) in
    simp (low, high, keys_read [] trace.keys is.key_names is.keys)

trace_read : (trace : Trace) → IsWellFormed trace → trace_of (trace_data (trace_meant trace)) ≡ Ok trace
unfolding trace_of
trace_read trace is =
    ap (λ keys. trace_with keys (Some (items_of (lines_said trace.lines)))) (keys_found trace is)
    ∙ ap (with_lines trace.keys) (lines_read [] trace.lines is.lines)

-- WHAT IS WRITTEN

kind_ascii : (kind : Kind) → are_ascii (kind_name kind) ≡ true
kind_ascii GCounter = refl
kind_ascii PnCounter = refl
kind_ascii GSet = refl
kind_ascii Flag = refl
kind_ascii LwwRegister = refl
kind_ascii OrSet = refl

key_written : (name : List ℕ) (kind : Kind) (durable : Bool) → is_key_name name ≡ true → IsWritten 3 (key_data (record { name = name; kind = kind; durable = durable }))
key_written name kind true named =
    fields_written 2 (key_members (record { name = name; kind = kind; durable = true })) (switch_written 2 true, (text_written 2 name (key_utf8 name named), (ascii_written 2 (kind_name kind) (kind_ascii kind), tt))) refl refl
key_written name kind false named =
    fields_written 2 (key_members (record { name = name; kind = kind; durable = false })) (text_written 2 name (key_utf8 name named), (ascii_written 2 (kind_name kind) (kind_ascii kind), tt)) refl refl

keys_written : (keys : List ScriptKey) → All (λ key. is_key_name key.key ≡ true) keys → Each (IsWritten 3) (keys_said keys)
keys_written [] named = tt
keys_written (key ∷ keys) named = (key_written key.key key.kind key.durable (All-head IsNamed key keys named), keys_written keys (All-tail IsNamed key keys named))

lines_written : (lines : List TraceLine) → All IsLine lines → AreSayable lines → Each (IsWritten 3) (lines_said lines)
lines_written [] are says = tt
lines_written (line ∷ lines) are says = (line_written line (All-head IsLine line lines are) (All-head SaysLine line lines says), lines_written lines (All-tail IsLine line lines are) (All-tail SaysLine line lines says))

trace_written : (trace : Trace) → IsWellFormed trace → AreSayable trace.lines → IsWritten 5 (trace_data (trace_meant trace))
trace_written trace is says =
    fields_written 4 (trace_members (trace_meant trace))
    (list_written 3 (keys_said trace.keys) (keys_written trace.keys is.keys), (list_written 3 (lines_said trace.lines) (lines_written trace.lines is.lines says), tt)) refl refl

pub spelled : (trace : Trace) → IsWellFormed trace → AreSayable trace.lines → Spells (trace_text (trace_meant trace)) trace
unfolding trace_text
spelled trace is says =
    let written = trace_written trace is says in
    let text : IsUtf8 (trace_text (trace_meant trace)) = IsUtf8-append _ (10 ∷ []) written.text (IsUtf8-are_ascii _ refl) in
    (trace_data (trace_meant trace), (text, read_back (trace_data (trace_meant trace)) written.reads written.numbers (omega (arith, written.flat))), trace_read trace is)
