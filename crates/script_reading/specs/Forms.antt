-- The forms of steps that a script makes by itself, and what is read of each. What clients may be given too may have more names there.
use Rattle.std.specs.Prelude.{ℕ, List, [], ◌∷◌, codes, if◌then◌else◌, Result, Ok, Err}
use Rattle.std.specs.Str.{bytes_eq}
use Rattle.serde_json.specs.Data.{Data}
use Rattle.serde_json.specs.Find.{get}
use Rattle.script_reading.specs.declared.fault.Rule.{Rule}
use Rattle.script_reading.specs.declared.script.Step.{Step}
use Rattle.script_reading.specs.declared.ask.Ask.TheVariants.{Update, Get, Flush, Gossip, Tick, Install}
use Rattle.script_reading.specs.declared.script.Step.TheVariants.{Ask, Deliver, Lose, Round, Timeout, Remove, Join, Restart, Settle}
use Rattle.script_reading.specs.Fields.{rule, ◌>>=◌, required, names_of, identity_of, place_of, number_of, if_given, text_of, key_of}
use Rattle.script_reading.specs.Levels.{level_of}
use Rattle.script_reading.specs.Operations.{op_named, update_names, op_of}

-- the rules of an update, in their order
unfoldable pub update_of : List (List ℕ) → ℕ → Data → Result Step Rule
update_of more step d = do
  name ← text_of (rule step 5) (get (codes "op") d)
  form ← required (rule step 5) (op_named name)
  names ← names_of step (update_names form) (codes "level" ∷ more) d
  at ← identity_of step (get (codes "at") d)
  key ← key_of (rule step 8) (get (codes "key") d)
  op ← op_of step form d
  level ← level_of step (get (codes "level") d)
  Ok (Ask at (Update key op level))

unfoldable pub get_of : List (List ℕ) → ℕ → Data → Result Step Rule
get_of more step d = do
  names ← names_of step (codes "at" ∷ codes "do" ∷ codes "key" ∷ []) (codes "level" ∷ more) d
  at ← identity_of step (get (codes "at") d)
  key ← key_of (rule step 8) (get (codes "key") d)
  level ← level_of step (get (codes "level") d)
  Ok (Ask at (Get key level))

unfoldable pub flush_of : List (List ℕ) → ℕ → Data → Result Step Rule
flush_of more step d = do
  names ← names_of step (codes "at" ∷ codes "do" ∷ []) more d
  at ← identity_of step (get (codes "at") d)
  Ok (Ask at Flush)

unfoldable pub gossip_of : List (List ℕ) → ℕ → Data → Result Step Rule
gossip_of more step d = do
  names ← names_of step (codes "at" ∷ codes "do" ∷ codes "to" ∷ []) more d
  at ← identity_of step (get (codes "at") d)
  to ← identity_of step (get (codes "to") d)
  Ok (Ask at (Gossip to))

unfoldable pub deliver_of : ℕ → Data → Result Step Rule
deliver_of step d = do
  names ← names_of step (codes "do" ∷ codes "from" ∷ codes "to" ∷ []) (codes "index" ∷ []) d
  from ← identity_of step (get (codes "from") d)
  to ← identity_of step (get (codes "to") d)
  index ← if_given (number_of step) (get (codes "index") d)
  Ok (Deliver from to index)

unfoldable pub lose_of : ℕ → Data → Result Step Rule
lose_of step d = do
  names ← names_of step (codes "do" ∷ codes "from" ∷ codes "to" ∷ []) [] d
  from ← identity_of step (get (codes "from") d)
  to ← identity_of step (get (codes "to") d)
  Ok (Lose from to)

unfoldable pub round_of : ℕ → Data → Result Step Rule
round_of step d = do
  names ← names_of step (codes "do" ∷ []) [] d
  Ok Round

unfoldable pub tick_of : List (List ℕ) → ℕ → Data → Result Step Rule
tick_of more step d = do
  names ← names_of step (codes "at" ∷ codes "do" ∷ []) more d
  at ← identity_of step (get (codes "at") d)
  Ok (Ask at Tick)

unfoldable pub timeout_of : ℕ → Data → Result Step Rule
timeout_of step d = do
  names ← names_of step (codes "at" ∷ codes "do" ∷ codes "op" ∷ []) [] d
  at ← identity_of step (get (codes "at") d)
  op ← number_of step (get (codes "op") d)
  Ok (Timeout at op)

unfoldable pub remove_of : ℕ → Data → Result Step Rule
remove_of step d = do
  names ← names_of step (codes "do" ∷ codes "id" ∷ []) [] d
  id ← identity_of step (get (codes "id") d)
  Ok (Remove id)

unfoldable pub join_of : ℕ → Data → Result Step Rule
join_of step d = do
  names ← names_of step (codes "do" ∷ codes "place" ∷ []) [] d
  place ← place_of step (get (codes "place") d)
  Ok (Join place)

unfoldable pub restart_of : ℕ → Data → Result Step Rule
restart_of step d = do
  names ← names_of step (codes "do" ∷ codes "id" ∷ []) [] d
  id ← identity_of step (get (codes "id") d)
  Ok (Restart id)

unfoldable pub install_of : List (List ℕ) → ℕ → Data → Result Step Rule
install_of more step d = do
  names ← names_of step (codes "at" ∷ codes "do" ∷ codes "view" ∷ []) more d
  at ← identity_of step (get (codes "at") d)
  view ← number_of step (get (codes "view") d)
  Ok (Ask at (Install view))

unfoldable pub settle_of : ℕ → Data → Result Step Rule
settle_of step d = do
  names ← names_of step (codes "do" ∷ []) [] d
  Ok Settle

-- by the name of the form
abbrev pub step_by : List (List ℕ) → ℕ → Data → List ℕ → Result Step Rule
step_by more step d name =
    if bytes_eq name (codes "update") then update_of more step d else (
    if bytes_eq name (codes "get") then get_of more step d else (
    if bytes_eq name (codes "flush") then flush_of more step d else (
    if bytes_eq name (codes "gossip") then gossip_of more step d else (
    if bytes_eq name (codes "deliver") then deliver_of step d else (
    if bytes_eq name (codes "lose") then lose_of step d else (
    if bytes_eq name (codes "round") then round_of step d else (
    if bytes_eq name (codes "tick") then tick_of more step d else (
    if bytes_eq name (codes "timeout") then timeout_of step d else (
    if bytes_eq name (codes "remove") then remove_of step d else (
    if bytes_eq name (codes "join") then join_of step d else (
    if bytes_eq name (codes "restart") then restart_of step d else (
    if bytes_eq name (codes "install") then install_of more step d else (
    if bytes_eq name (codes "settle") then settle_of step d else
    Err (rule step 5))))))))))))))

unfoldable pub plain_of : List (List ℕ) → ℕ → Data → Result Step Rule
plain_of more step d = text_of (rule step 5) (get (codes "do") d) >>= step_by more step d
