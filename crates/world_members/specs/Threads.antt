-- What the clients of a thread step do to a world.
--     command_of, commands_of        the commands of a client, as those of the model
--     run_step_of        a step of a script that may have clients, as that of the model
--     PlaysSection        the clients' lines and the world after them are those of a section, with the answers that the keepers gave
use Rattle.std.specs.Prelude.{ℕ, List, [], map, slice_get}
use Rattle.std.specs.List.{AllZip}
use Rattle.model_history.specs.Texts.{Text}
use Rattle.model_members.specs.Node as nodes
use Rattle.model_members.specs.Script.{Playing}
use Rattle.model_kinds.specs.declared.operation.Op.{Op}
use Rattle.model_kinds.specs.declared.shown.Shown.{Shown}
use Rattle.data_lattice.specs.declared.replica.Replica.{Ghosts}
use Rattle.data_lattice.specs.declared.spelled.SpelledData.{Ghosts as Spelling}
use Rattle.member_keeper.specs.declared.keeper.Keeper.{Ghosts as Keeping}
use Rattle.member_node.specs.Steps.{replication}
use Rattle.script_reading.specs.Meant.{ask_of, step_of}
use Rattle.script_reading.specs.declared.clients.Command.{Command}
use Rattle.script_reading.specs.declared.clients.Repeated.{Repeated}
use Rattle.script_reading.specs.declared.clients.RunStep.{RunStep}
use Rattle.script_reading.specs.declared.clients.RunStep.TheVariants as form
use Rattle.theorem_sections.specs.Sections as sections
use Rattle.theorem_sections.specs.Sections.{Move, Section, IsSection, section_lines}
use Rattle.theorem_sections.specs.Runs as runs
use Rattle.world_members.specs.declared.client_line.ClientLine.{ClientLine}
use Rattle.world_members.specs.declared.world.World.{World}
use Rattle.world_members.specs.ClientLines.{IsClientLine}
use Rattle.world_places.specs.Places.{keeper_of}
use Rattle.world_places.specs.Keeping.{Given, KeepsAt, IsKept}
use Rattle.world_members.specs.Steps.{Foretells, HaveAnswered}
use Rattle.world_members.specs.Ways.{Means}

-- STEPS AND COMMANDS

abbrev pub command_of : Command → sections.Command Op
command_of c = record { at = c.at; ask = ask_of c.ask }

abbrev pub repeated_of : Repeated → sections.Repeated Op
repeated_of c = record { command = command_of c.command; times = c.times }

-- each command as many times as it stands
abbrev pub commands_of : List Repeated → List (sections.Command Op)
commands_of commands = sections.commands_of (map repeated_of commands)

-- where a client follows a key, or follows it no more, nobody is at work
abbrev pub run_step_of : RunStep → runs.RunStep Op
run_step_of (form.Plain step) = runs.RunStep.Plain (step_of step)
run_step_of (form.Threads clients) = runs.RunStep.Threads (map commands_of clients)
run_step_of (form.Subscribe at client key) = runs.RunStep.Threads []
run_step_of (form.Unsubscribe at client key) = runs.RunStep.Threads []

-- A THREAD STEP

module _ {T K Kind Delta : Type 0} {ghosts : Ghosts T Kind Op Delta} {keeping : Keeping K} (spelling : Spelling T Kind Op Delta) where
  -- a section of these clients has these lines, the world means where it ends, and these calls were answered
  pub record EndsSection (kinds : Text → Kind) (members : ℕ) (decls : List (nodes.KeyDecl Kind)) (p : Playing Kind Op Shown) (clients : List (List Repeated)) (given : Given) (new : World T K Kind Op Delta ghosts keeping) (lines : List ClientLine) : Type 0 where
    pub moves : List Move
    pub end : Section Kind Op Shown
    pub section : IsSection (replication ghosts spelling) p (map commands_of clients) moves end
    pub told : AllZip IsClientLine lines (section_lines end)
    pub means : Means spelling kinds members decls end.playing new
    pub calls : HaveAnswered p end.playing given

  -- The keepers gave some answers, and wherever a script is that the world before means, with these to come, a section ends so
  pub record PlaysSection (clients : List (List Repeated)) (old new : World T K Kind Op Delta ghosts keeping) (lines : List ClientLine) : Type 0 where
    pub given : Given
    pub kept : (place : ℕ) → KeepsAt keeping (given place) (keeper_of old.nodes.items old.spare.items place) (keeper_of new.nodes.items new.spare.items place)
    pub leads : (kinds : Text → Kind) (members : ℕ) (decls : List (nodes.KeyDecl Kind)) (p : Playing Kind Op Shown) → Means spelling kinds members decls p old → Foretells p given → EndsSection kinds members decls p clients given new lines

module _ {T K Kind Op Delta : Type 0} {ghosts : Ghosts T Kind Op Delta} {keeping : Keeping K} where
  -- the keepers of all places come back in their order, and gave some answers
  abbrev pub GivesBack : World T K Kind Op Delta ghosts keeping → List K → Type 0
  GivesBack world keepers = (place : ℕ) → IsKept keeping (keeper_of world.nodes.items world.spare.items place) (slice_get keepers place)
