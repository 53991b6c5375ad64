-- The operations of an update: their names, and the fields that each of them has.
use Rattle.std.specs.Prelude.{ℕ, List, [], ◌∷◌, codes, if◌then◌else◌, Option, Some, None, Result, Ok}
use Rattle.std.specs.Str.{bytes_eq}
use Rattle.serde_json.specs.Data.{Data}
use Rattle.serde_json.specs.Find.{get}
use Rattle.model_kinds.specs.declared.operation.Op.{Op}
use Rattle.model_kinds.specs.declared.operation.Op.TheVariants as op
use Rattle.script_reading.specs.declared.fault.Rule.{Rule}
use Rattle.script_reading.specs.declared.operations.OpName.{OpName}
use Rattle.script_reading.specs.declared.operations.OpName.TheVariants.{Increment, Decrement, Add, Remove, Enable, Assign, Delete}
use Rattle.script_reading.specs.Fields.{rule, ◌>>=◌, amount_of, moment_of, text_of, if_short}

-- the operation of a name
abbrev pub op_named : List ℕ → Option OpName
op_named name =
    if bytes_eq name (codes "increment") then Some Increment else (
    if bytes_eq name (codes "decrement") then Some Decrement else (
    if bytes_eq name (codes "add") then Some Add else (
    if bytes_eq name (codes "remove") then Some Remove else (
    if bytes_eq name (codes "enable") then Some Enable else (
    if bytes_eq name (codes "assign") then Some Assign else (
    if bytes_eq name (codes "delete") then Some Delete else
    None))))))

-- the names that are an operation's own
abbrev pub own_names : OpName → List (List ℕ)
own_names Increment = codes "by" ∷ []
own_names Decrement = codes "by" ∷ []
own_names Add = codes "element" ∷ []
own_names Remove = codes "element" ∷ []
own_names Enable = []
own_names Assign = codes "now" ∷ codes "text" ∷ []
own_names Delete = []

-- the names of an update with this operation
abbrev pub update_names : OpName → List (List ℕ)
update_names form = codes "at" ∷ codes "do" ∷ codes "key" ∷ codes "op" ∷ own_names form

-- the element that an update names: a text, and then a short one
unfoldable pub element_of : ℕ → Data → Result (List ℕ) Rule
element_of step d = text_of (rule step 9) (get (codes "element") d) >>= if_short (rule step 11)

-- a text, then the clock, and then that the text is short
unfoldable pub assign_of : ℕ → Data → Result Op Rule
assign_of step d = do
  long ← text_of (rule step 9) (get (codes "text") d)
  now ← moment_of step (get (codes "now") d)
  text ← if_short (rule step 11) long
  Ok (op.Assign text now)

-- the operation of an update, from the fields that are its own
unfoldable pub op_of : ℕ → OpName → Data → Result Op Rule
op_of step Increment d = amount_of step (get (codes "by") d) >>= (λ by. Ok (op.Increment by))
op_of step Decrement d = amount_of step (get (codes "by") d) >>= (λ by. Ok (op.Decrement by))
op_of step Add d = element_of step d >>= (λ element. Ok (op.Add element))
op_of step Remove d = element_of step d >>= (λ element. Ok (op.Remove element))
op_of step Enable d = Ok op.Enable
op_of step Assign d = assign_of step d
op_of step Delete d = Ok op.Delete
