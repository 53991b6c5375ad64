-- A trace has no float.
use Rattle.std.proofs.Common.{◌≡◌, ℕ, List, [], ◌∷◌, Bool, true, false, ◌||◌, map, refl, ap, ap₂}
use Rattle.serde_json.specs.View.{items_of}
use Rattle.serde_json.specs.Written.{has_float, items_have_float}
use Rattle.model_history.specs.Texts.{Text}
use Rattle.model_history.specs.History.Action.{Operation, Prune}
use Rattle.model_kinds.specs.declared.kind.Kind.{Kind}
use Rattle.model_kinds.specs.declared.operation.Op.{Op}
use Rattle.model_kinds.specs.declared.operation.Op.TheVariants as op
use Rattle.model_members.specs.Node.{KeyDecl}
use Rattle.base_vectors.specs.Spelling.{pairs_of}
use Rattle.model_traces.specs.Traces.{Act, TraceLine, Trace}
use Rattle.model_traces.specs.Traces.Act.{Records, Holds, Shows}
use Rattle.script_generated.specs.Texts.{fields}
use Rattle.trace_text.specs.Texts.{pair_data, key_data, line_members, line_data, trace_data}

pairs_plain : (pairs : List (ℕ × ℕ)) → items_have_float (items_of (map pair_data pairs)) ≡ false
pairs_plain [] = refl
pairs_plain (pair ∷ pairs) = pairs_plain pairs

key_plain : (name : Text) (kind : Kind) (durable : Bool) → has_float (key_data (record { name = name; kind = kind; durable = durable })) ≡ false
key_plain name kind true = refl
key_plain name kind false = refl

keys_plain : (keys : List (KeyDecl Kind)) → items_have_float (items_of (map key_data keys)) ≡ false
keys_plain [] = refl
keys_plain (key ∷ keys) = ap₂ (λ x y. x || y) (key_plain key.name key.kind key.durable) (keys_plain keys)

act_plain : (at : ℕ) (key : Text) (act : Act Op) → has_float (fields (line_members at key act)) ≡ false
act_plain at key (Records (Operation (op.Increment by))) = refl
act_plain at key (Records (Operation (op.Decrement by))) = refl
act_plain at key (Records (Operation (op.Add element))) = refl
act_plain at key (Records (Operation (op.Remove element))) = refl
act_plain at key (Records (Operation op.Enable)) = refl
act_plain at key (Records (Operation (op.Assign text now))) = refl
act_plain at key (Records (Operation op.Delete)) = refl
act_plain at key (Records (Prune r)) = refl
act_plain at key (Holds known) = ap (λ x. x || false) (pairs_plain (pairs_of known))
act_plain at key (Shows text) = refl

lines_plain : (lines : List (TraceLine Op)) → items_have_float (items_of (map line_data lines)) ≡ false
lines_plain [] = refl
lines_plain (line ∷ lines) = ap₂ (λ x y. x || y) (act_plain line.member line.key line.act) (lines_plain lines)

pub no_float : (trace : Trace Kind Op) → has_float (trace_data trace) ≡ false
no_float trace = ap₂ (λ x y. x || (y || false)) (keys_plain trace.keys) (lines_plain trace.lines)
