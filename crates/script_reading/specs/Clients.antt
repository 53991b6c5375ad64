-- The clients of a thread step. A fault of a command, and any other of the clients, is one of rule 13 at that step.
use Rattle.std.specs.Prelude.{ℕ, List, [], ◌∷◌, ◌++◌, codes, nat_le, if◌then◌else◌, Option, Some, None, Result, Ok, Err, sum_by}
use Rattle.serde_json.specs.Data.{Data, Items, no_items, item}
use Rattle.serde_json.specs.Find.{get}
use Rattle.script_reading.specs.declared.fault.Rule.{Rule}
use Rattle.script_reading.specs.declared.clients.Command.{Command}
use Rattle.script_reading.specs.declared.clients.Repeated.{Repeated}
use Rattle.script_reading.specs.declared.script.Step.{Step}
use Rattle.script_reading.specs.declared.script.Step.TheVariants as step
use Rattle.script_reading.specs.Fields.{rule, ◌>>=◌, required, whole_of, list_of, names_of}
use Rattle.script_reading.specs.Forms.{plain_of}

-- the command by which a client asks for a step, if one does
abbrev pub command_in : Step → Option Command
command_in (step.Ask at ask) = Some (record { at = at; ask = ask })
command_in _ = None

-- whatever rule is broken, this one is told
abbrev pub told_as : {X : Type 0} → Rule → Result X Rule → Result X Rule
told_as rule (Ok x) = Ok x
told_as rule (Err other) = Err rule

-- how many times a command stands, if that is said, and else once
abbrev pub times_of : Rule → Option Data → Result ℕ Rule
times_of rule None = Ok 1
times_of rule (Some d) = whole_of rule 1 1024 (Some d)

-- an object like a plain step of six forms, with the name times if wanted
unfoldable pub command_of : ℕ → Data → Result Repeated Rule
command_of step d = do
  form ← told_as (rule step 13) (plain_of (codes "times" ∷ []) step d)
  command ← required (rule step 13) (command_in form)
  times ← times_of (rule step 13) (get (codes "times") d)
  Ok (record { command = command; times = times })

-- the commands, after those before them
unfoldable pub commands_after : ℕ → List Repeated → Items → Result (List Repeated) Rule
commands_after step before no_items = Ok before
commands_after step before (item d ds) = do
  command ← command_of step d
  commands_after step (before ++ command ∷ []) ds

-- how many commands there are, counted with their times
abbrev pub count_of : List Repeated → ℕ
count_of commands = sum_by (λ c. c.times) commands

abbrev pub if_few : Rule → List Repeated → Result (List Repeated) Rule
if_few rule commands = if nat_le (count_of commands) 1024 then Ok commands else Err rule

-- a client: a list of 1 to 1,024 commands, counted with their times
unfoldable pub client_of : ℕ → Data → Result (List Repeated) Rule
client_of step d = do
  commands_in ← list_of (rule step 13) 1 1024 (Some d)
  commands ← commands_after step [] commands_in
  if_few (rule step 13) commands

-- the clients, after those before them
unfoldable pub clients_after : ℕ → List (List Repeated) → Items → Result (List (List Repeated)) Rule
clients_after step before no_items = Ok before
clients_after step before (item d ds) = do
  client ← client_of step d
  clients_after step (before ++ client ∷ []) ds

-- 1 to 8 clients
unfoldable pub threads_of : ℕ → Data → Result (List (List Repeated)) Rule
threads_of step d = do
  names ← names_of step (codes "clients" ∷ codes "do" ∷ []) [] d
  clients_in ← list_of (rule step 13) 1 8 (get (codes "clients") d)
  clients_after step [] clients_in
