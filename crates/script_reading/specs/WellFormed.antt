-- The bounds that every script keeps.
use Rattle.std.specs.Prelude.{◌≢◌, ℕ, ◌-◌, ◌^◌, ◌<◌, ◌≤◌, List, length, All, AllPairs, MatchBool, ⊤}
use Rattle.model_history.specs.Table.{identity_limit}
use Rattle.model_kinds.specs.declared.operation.Op.{Op}
use Rattle.model_kinds.specs.declared.operation.Op.TheVariants.{Increment, Decrement, Add, Remove, Enable, Assign, Delete}
use Rattle.member_quorum.specs.declared.level.Level.{Level}
use Rattle.member_quorum.specs.declared.level.Level.TheVariants as level
use Rattle.script_reading.specs.Allowances.{may_have}
use Rattle.script_reading.specs.Clients.{count_of}
use Rattle.script_reading.specs.declared.clients.Command.{Command}
use Rattle.script_reading.specs.declared.clients.Repeated.{Repeated}
use Rattle.script_reading.specs.declared.clients.Clients.{Clients}
use Rattle.script_reading.specs.declared.clients.Clients.TheVariants.{Refused}
use Rattle.script_reading.specs.declared.clients.RunStep.{RunStep}
use Rattle.script_reading.specs.declared.clients.RunStep.TheVariants.{Plain, Threads, Subscribe, Unsubscribe}
use Rattle.script_reading.specs.declared.script.Script.{Script}
use Rattle.script_reading.specs.declared.script.ScriptKey.{ScriptKey}
use Rattle.script_reading.specs.declared.script.Step.{Step}
use Rattle.script_reading.specs.declared.ask.Ask as asks
use Rattle.script_reading.specs.declared.ask.Ask.TheVariants.{Update, Get, Gossip}
use Rattle.script_reading.specs.declared.script.Step.TheVariants.{Ask, Deliver, Lose, Round, Timeout, Remove, Join, Restart, Settle}

-- what a counter takes at once
abbrev pub IsAmount : ℕ → Type 0
IsAmount n = (1 ≤ n) × (n ≤ 2 ^ 63 - 1)

-- an element, or the text of a register
abbrev pub IsShort : List ℕ → Type 0
IsShort text = length text ≤ 64

-- where a writer's clock stands
abbrev pub IsMoment : ℕ → Type 0
IsMoment now = now ≤ 2 ^ 63 - 1

abbrev pub IsOperation : Op → Type 0
IsOperation (Increment by) = IsAmount by
IsOperation (Decrement by) = IsAmount by
IsOperation (Add element) = IsShort element
IsOperation (Remove element) = IsShort element
IsOperation Enable = ⊤
IsOperation (Assign text now) = IsShort text × IsMoment now
IsOperation Delete = ⊤

-- so many members, or a cap
abbrev pub IsLevel : Level → Type 0
IsLevel level.Local = ⊤
IsLevel (level.To number) = (1 ≤ number) × (number ≤ 64)
IsLevel (level.Majority cap) = cap ≤ 64
IsLevel level.All = ⊤

-- there are 255 identities
abbrev pub IsIdentity : ℕ → Type 0
IsIdentity i = i < identity_limit

-- there are eight places
abbrev pub IsPlace : ℕ → Type 0
IsPlace place = place < 8

-- the number of an operation that a step names
abbrev pub IsNumber : ℕ → Type 0
IsNumber op = op < 2 ^ 32

abbrev pub IsAsk : asks.Ask → Type 0
IsAsk (Update key op level) = IsOperation op × IsLevel level
IsAsk (Get key level) = IsLevel level
IsAsk (Gossip to) = IsIdentity to
IsAsk _ = ⊤

abbrev pub IsStep : Step → Type 0
IsStep (Ask at ask) = IsIdentity at × IsAsk ask
IsStep (Deliver from to index) = IsIdentity from × IsIdentity to
IsStep (Lose from to) = IsIdentity from × IsIdentity to
IsStep Round = ⊤
IsStep (Timeout at op) = IsIdentity at × IsNumber op
IsStep (Remove id) = IsIdentity id
IsStep (Join place) = IsPlace place
IsStep (Restart id) = IsIdentity id
IsStep Settle = ⊤

abbrev pub IsCommand : Command → Type 0
IsCommand command = IsIdentity command.at × IsAsk command.ask

abbrev pub IsRepeated : Repeated → Type 0
IsRepeated c = IsCommand c.command × (1 ≤ c.times) × (c.times ≤ 1024)

-- 1 to 1,024 commands, counted with their times
pub record IsClient (commands : List Repeated) : Type 0 where
  pub some : 1 ≤ length commands
  pub few : count_of commands ≤ 1024
  pub each : All IsRepeated commands

-- 1 to 8 clients
pub record AreClients (clients : List (List Repeated)) : Type 0 where
  pub count : (1 ≤ length clients) × (length clients ≤ 8)
  pub each : All IsClient clients

abbrev pub IsRunStep : RunStep → Type 0
IsRunStep (Plain step) = IsStep step
IsRunStep (Threads clients) = AreClients clients
IsRunStep (Subscribe at client key) = IsIdentity at
IsRunStep (Unsubscribe at client key) = IsIdentity at

-- it has no clients but such as are allowed
abbrev pub IsAllowed : Clients → RunStep → Type 0
IsAllowed clients step = MatchBool (may_have clients step) ⊤ ⊥

abbrev pub HasNoClients : Script → Type 0
HasNoClients script = All (IsAllowed Refused) script.steps

-- members and keys within their bounds, and names that differ
pub record IsOpening (opening : ℕ × List ScriptKey) : Type 0 where
  pub members : (1 ≤ opening.0) × (opening.0 ≤ 8)
  pub key_count : (1 ≤ length opening.1) × (length opening.1 ≤ 16)
  pub key_names : AllPairs (λ a b. a.key ≢ b.key) opening.1

-- members and keys within their bounds, names that differ, and steps within their bounds
pub record IsWellFormed (script : Script) : Type 0 where
  pub members : (1 ≤ script.members) × (script.members ≤ 8)
  pub key_count : (1 ≤ length script.keys) × (length script.keys ≤ 16)
  pub key_names : AllPairs (λ a b. a.key ≢ b.key) script.keys
  pub step_count : length script.steps ≤ 4096
  pub steps : All IsRunStep script.steps
