-- The text of a trace: compact JSON with the names of each object in byte order, and a newline.
use Rattle.std.specs.Prelude.{ℕ, List, [], ◌∷◌, ◌++◌, map, codes}
use Rattle.serde_json.specs.Data.{Data, string, array}
use Rattle.serde_json.specs.View.{items_of}
use Rattle.serde_json.specs.Written.{compact_text}
use Rattle.model_history.specs.Texts.{Text}
use Rattle.model_history.specs.Vector.{VersionVector}
use Rattle.model_history.specs.History.Action.{Operation, Prune}
use Rattle.model_kinds.specs.declared.kind.Kind.{Kind}
use Rattle.model_kinds.specs.declared.operation.Op.{Op}
use Rattle.model_kinds.specs.declared.operation.Op.TheVariants as op
use Rattle.model_members.specs.Node.{KeyDecl}
use Rattle.base_vectors.specs.Spelling.{pairs_of}
use Rattle.script_generated.specs.Texts.{whole, fields, kind_name, key_said, durable_members, do_said, at_said, op_said}
use Rattle.model_traces.specs.Traces.{Act, TraceLine, Trace}
use Rattle.model_traces.specs.Traces.Act.{Records, Holds, Shows}

abbrev pub key_members : KeyDecl Kind → List (List ℕ × Data)
key_members key = durable_members key.durable ++ key_said key.name ∷ (codes "kind", string (kind_name key.kind)) ∷ []

abbrev pub key_data : KeyDecl Kind → Data
key_data key = fields (key_members key)

abbrev pub operation_members : ℕ → Text → Op → List (List ℕ × Data)
operation_members at key (op.Increment by) = at_said at ∷ (codes "by", whole by) ∷ do_said (codes "record") ∷ key_said key ∷ op_said (codes "increment") ∷ []
operation_members at key (op.Decrement by) = at_said at ∷ (codes "by", whole by) ∷ do_said (codes "record") ∷ key_said key ∷ op_said (codes "decrement") ∷ []
operation_members at key (op.Add element) = at_said at ∷ do_said (codes "record") ∷ (codes "element", string element) ∷ key_said key ∷ op_said (codes "add") ∷ []
operation_members at key (op.Remove element) = at_said at ∷ do_said (codes "record") ∷ (codes "element", string element) ∷ key_said key ∷ op_said (codes "remove") ∷ []
operation_members at key op.Enable = at_said at ∷ do_said (codes "record") ∷ key_said key ∷ op_said (codes "enable") ∷ []
operation_members at key (op.Assign text now) = at_said at ∷ do_said (codes "record") ∷ key_said key ∷ (codes "now", whole now) ∷ op_said (codes "assign") ∷ (codes "text", string text) ∷ []
operation_members at key op.Delete = at_said at ∷ do_said (codes "record") ∷ key_said key ∷ op_said (codes "delete") ∷ []

abbrev pub pair_data : ℕ × ℕ → Data
pair_data pair = array (items_of (whole pair.0 ∷ whole pair.1 ∷ []))

-- the identities that a vector counts, each with its number
abbrev pub known_data : VersionVector → Data
known_data known = array (items_of (map pair_data (pairs_of known)))

abbrev pub line_members : ℕ → Text → Act Op → List (List ℕ × Data)
line_members at key (Records (Operation op)) = operation_members at key op
line_members at key (Records (Prune r)) = at_said at ∷ do_said (codes "record") ∷ (codes "id", whole r) ∷ key_said key ∷ op_said (codes "prune") ∷ []
line_members at key (Holds known) = at_said at ∷ do_said (codes "hold") ∷ key_said key ∷ (codes "known", known_data known) ∷ []
line_members at key (Shows text) = at_said at ∷ do_said (codes "show") ∷ key_said key ∷ (codes "value", string text) ∷ []

abbrev pub line_data : TraceLine Op → Data
line_data line = fields (line_members line.member line.key line.act)

abbrev pub trace_members : Trace Kind Op → List (List ℕ × Data)
trace_members trace = (codes "keys", array (items_of (map key_data trace.keys))) ∷ (codes "lines", array (items_of (map line_data trace.lines))) ∷ []

abbrev pub trace_data : Trace Kind Op → Data
trace_data trace = fields (trace_members trace)

unfoldable pub trace_text : Trace Kind Op → Text
trace_text trace = compact_text (trace_data trace) ++ 10 ∷ []
