-- The text of a generated script: compact JSON with the names of each object in byte order, and a newline.
use Rattle.std.specs.Prelude.{ℕ, List, [], ◌∷◌, ◌++◌, map, Bool, true, false, codes}
use Rattle.serde_json.specs.Data.{unsigned, Data, boolean, number, string, array, object, Members, no_members, member}
use Rattle.serde_json.specs.View.{items_of}
use Rattle.serde_json.specs.Written.{compact_text}
use Rattle.model_kinds.specs.declared.kind.Kind.{Kind}
use Rattle.model_kinds.specs.declared.kind.Kind.TheVariants.{GCounter, PnCounter, GSet, Flag, LwwRegister, OrSet}
use Rattle.model_kinds.specs.declared.operation.Op.{Op}
use Rattle.model_kinds.specs.declared.operation.Op.TheVariants as op
use Rattle.script_reading.specs.declared.script.Script.{Script}
use Rattle.script_reading.specs.declared.script.ScriptKey.{ScriptKey}
use Rattle.script_reading.specs.declared.ask.Ask.{Ask as asked}
use Rattle.script_reading.specs.declared.ask.Ask.TheVariants.{Update, Flush, Gossip}
use Rattle.script_reading.specs.declared.script.Step.TheVariants.{Ask, Round, Remove, Settle}
use Rattle.script_reading.specs.declared.clients.RunStep.{RunStep}
use Rattle.script_reading.specs.declared.clients.RunStep.TheVariants.{Plain}
use Rattle.script_generated.specs.Generated.{generated_script}

abbrev pub whole : ℕ → Data
whole n = number (unsigned n)

abbrev pub members_data : List (List ℕ × Data) → Members
members_data [] = no_members
members_data (m ∷ ms) = member m.0 m.1 (members_data ms)

-- an object with these names, in their order
abbrev pub fields : List (List ℕ × Data) → Data
fields ms = object (members_data ms)

-- ---- keys

abbrev pub kind_name : Kind → List ℕ
kind_name GCounter = codes "gcounter"
kind_name PnCounter = codes "pncounter"
kind_name GSet = codes "gset"
kind_name Flag = codes "flag"
kind_name LwwRegister = codes "lwwregister"
kind_name OrSet = codes "orset"

abbrev pub key_said : List ℕ → List ℕ × Data
key_said key = (codes "key", string key)

-- only a durable key says whether it is
abbrev pub durable_members : Bool → List (List ℕ × Data)
durable_members true = (codes "durable", boolean true) ∷ []
durable_members false = []

abbrev pub key_members : ScriptKey → List (List ℕ × Data)
key_members key = durable_members key.durable ++ key_said key.key ∷ (codes "kind", string (kind_name key.kind)) ∷ []

abbrev pub key_data : ScriptKey → Data
key_data key = fields (key_members key)

-- ---- steps

abbrev pub do_said : List ℕ → List ℕ × Data
do_said form = (codes "do", string form)

abbrev pub at_said : ℕ → List ℕ × Data
at_said at = (codes "at", whole at)

abbrev pub op_said : List ℕ → List ℕ × Data
op_said op = (codes "op", string op)

-- an update of local level
abbrev pub update_members : ℕ → List ℕ → Op → List (List ℕ × Data)
update_members at key (op.Increment by) = at_said at ∷ (codes "by", whole by) ∷ do_said (codes "update") ∷ key_said key ∷ op_said (codes "increment") ∷ []
update_members at key (op.Decrement by) = at_said at ∷ (codes "by", whole by) ∷ do_said (codes "update") ∷ key_said key ∷ op_said (codes "decrement") ∷ []
update_members at key (op.Add element) = at_said at ∷ do_said (codes "update") ∷ (codes "element", string element) ∷ key_said key ∷ op_said (codes "add") ∷ []
update_members at key (op.Remove element) = at_said at ∷ do_said (codes "update") ∷ (codes "element", string element) ∷ key_said key ∷ op_said (codes "remove") ∷ []
update_members at key op.Enable = at_said at ∷ do_said (codes "update") ∷ key_said key ∷ op_said (codes "enable") ∷ []
update_members at key (op.Assign text now) = at_said at ∷ do_said (codes "update") ∷ key_said key ∷ (codes "now", whole now) ∷ op_said (codes "assign") ∷ (codes "text", string text) ∷ []
update_members at key op.Delete = at_said at ∷ do_said (codes "update") ∷ key_said key ∷ op_said (codes "delete") ∷ []

-- what a member is asked in generated scripts
abbrev pub ask_members : ℕ → asked → List (List ℕ × Data)
ask_members at (Update key op level) = update_members at key op
ask_members at Flush = at_said at ∷ do_said (codes "flush") ∷ []
ask_members at (Gossip to) = at_said at ∷ do_said (codes "gossip") ∷ (codes "to", whole to) ∷ []
ask_members at _ = []

-- a step of one of the forms that generated scripts have
abbrev pub step_members : RunStep → List (List ℕ × Data)
step_members (Plain (Ask at ask)) = ask_members at ask
step_members (Plain Round) = do_said (codes "round") ∷ []
step_members (Plain (Remove id)) = do_said (codes "remove") ∷ (codes "id", whole id) ∷ []
step_members (Plain Settle) = do_said (codes "settle") ∷ []
step_members _ = []

abbrev pub step_data : RunStep → Data
step_data step = fields (step_members step)

-- ---- the script

abbrev pub script_members : Script → List (List ℕ × Data)
script_members script =
    (codes "keys", array (items_of (map key_data script.keys)))
    ∷ (codes "members", whole script.members)
    ∷ (codes "steps", array (items_of (map step_data script.steps)))
    ∷ []

abbrev pub script_data : Script → Data
script_data script = fields (script_members script)

unfoldable pub generated_text : ℕ → List ℕ
generated_text n = compact_text (script_data (generated_script n)) ++ 10 ∷ []
