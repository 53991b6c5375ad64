-- The generated scripts: one for each number of steps before the last two.
use Rattle.std.specs.Prelude.{ℕ, ◌+◌, ◌*◌, ◌%◌, ◌==◌, List, [], ◌∷◌, ◌++◌, map, true, false, codes, decimal, if◌then◌else◌}
use Rattle.std.specs.List.{range_with_len}
use Rattle.model_kinds.specs.declared.kind.Kind.TheVariants.{GCounter, PnCounter, LwwRegister, OrSet}
use Rattle.model_kinds.specs.declared.operation.Op.{Op}
use Rattle.model_kinds.specs.declared.operation.Op.TheVariants as op
use Rattle.member_quorum.specs.declared.level.Level.TheVariants.{Local}
use Rattle.script_reading.specs.declared.script.Script.{Script}
use Rattle.script_reading.specs.declared.script.ScriptKey.{ScriptKey}
use Rattle.script_reading.specs.declared.ask.Ask.TheVariants.{Update, Flush, Gossip}
use Rattle.script_reading.specs.declared.script.Step.{Step}
use Rattle.script_reading.specs.declared.script.Step.TheVariants.{Ask, Round, Remove, Settle}
use Rattle.script_reading.specs.declared.clients.RunStep.{RunStep}
use Rattle.script_reading.specs.declared.clients.RunStep.TheVariants.{Plain}

abbrev pub generated_keys : List ScriptKey
generated_keys =
    record { key = codes "bal"; kind = PnCounter; durable = false }
    ∷ record { key = codes "cart"; kind = OrSet; durable = true }
    ∷ record { key = codes "hits"; kind = GCounter; durable = false }
    ∷ record { key = codes "note"; kind = LwwRegister; durable = false }
    ∷ []

abbrev pub item_named : ℕ → List ℕ
item_named k = codes "item-" ++ decimal k

-- an update of a member's own
abbrev pub own_update : ℕ → List ℕ → Op → Step
own_update at key op = Ask at (Update key op Local)

-- the step of this number, from 1 on: the five members in turn, and eight forms in turn
unfoldable pub generated_step : ℕ → RunStep
generated_step i = Plain (
    if i % 8 == 1 then own_update (i % 5) (codes "hits") (op.Increment i) else (
    if i % 8 == 2 then own_update (i % 5) (codes "cart") (op.Add (item_named (i % 40))) else (
    if i % 8 == 3 then own_update (i % 5) (codes "bal") (op.Decrement i) else (
    if i % 8 == 4 then Ask (i % 5) Flush else (
    if i % 8 == 5 then own_update (i % 5) (codes "cart") (op.Remove (item_named ((7 * i + 7) % 40))) else (
    if i % 8 == 6 then Ask (i % 5) (Gossip ((i % 5 + 1) % 5)) else (
    if i % 8 == 7 then Round else
    own_update (i % 5) (codes "note") (op.Assign (codes "n" ++ decimal i) i))))))))

-- so many steps, and then member 4 leaves and all others settle
abbrev pub generated_steps : ℕ → List RunStep
generated_steps n = map generated_step (range_with_len 1 n) ++ Plain (Remove 4) ∷ Plain Settle ∷ []

abbrev pub generated_script : ℕ → Script
generated_script n = record { members = 5; keys = generated_keys; steps = generated_steps n }
