-- What the steps of a script do to a world, and the text that tells of them.
--     SetsOut        a world before some steps, as the model has it
--     Opens        the first world of a script
--     TellsStep        a step was played, and the text tells its lines
--     TellsSome        the text tells of some run of the steps, which ends where the world means
--     TellsSteps        all steps were played, with the answers that the keepers gave, and the text tells of a run with these
--     PassesSteps        all steps were played, and no text tells of them
use Rattle.std.specs.Prelude.{◌≡◌, ℕ, List, [], ◌++◌, map, flat_map, All, false, Some, IsSome, ◌⊎◌, string_bytes}
use Rattle.model_history.specs.Texts.{Text}
use Rattle.model_members.specs.DataType.{Replication}
use Rattle.model_members.specs.Node.{KeyDecl}
use Rattle.model_members.specs.Script.{Playing}
use Rattle.model_members.specs.Report.{final_block}
use Rattle.model_kinds.specs.ShownText.{shown_text}
use Rattle.model_kinds.specs.declared.kind.Kind.{Kind}
use Rattle.model_kinds.specs.declared.operation.Op.{Op}
use Rattle.model_kinds.specs.declared.shown.Shown.{Shown}
use Rattle.data_lattice.specs.declared.replica.Replica.{Ghosts}
use Rattle.data_lattice.specs.declared.spelled.SpelledData.{Ghosts as Spelling}
use Rattle.member_keeper.specs.declared.keeper.Keeper.{Ghosts as Keeping}
use Rattle.member_node.specs.declared.key.KeyDecl as declared_key
use Rattle.member_node.specs.Members.{declared}
use Rattle.member_node.specs.Steps.{replication}
use Rattle.theorem_sections.specs.Runs.{PlaysAll, lines_text}
use Rattle.script_reading.specs.declared.clients.RunStep.{RunStep}
use Rattle.script_reading.specs.declared.clients.RunStep.TheVariants.{Plain, Threads, Subscribe, Unsubscribe}
use Rattle.script_reading.specs.declared.script.ScriptKey.{ScriptKey}
use Rattle.world_members.specs.declared.client_line.ClientLine.{ClientLine}
use Rattle.world_members.specs.declared.event.Event.{Event}
use Rattle.world_members.specs.declared.world.World.{World}
use Rattle.world_places.specs.Places.{keeper_of}
use Rattle.world_places.specs.Keeping.{Given, KeepsAt, IsKept}
use Rattle.world_members.specs.Steps.{Foretells, HaveAnswered, Plays, Starts}
use Rattle.world_members.specs.Threads.{run_step_of, PlaysSection}
use Rattle.world_members.specs.Ways.{Means}
use Rattle.report_lines.specs.declared.playing.Ending.{Ending}
use Rattle.report_lines.specs.declared.playing.Ending.TheVariants.{Told, NotCleared, Memory}
use Rattle.report_lines.specs.Finals.{IsBlockOf}
use Rattle.report_lines.specs.Lines.{event_text, client_line_text}
use Rattle.report_lines.specs.Run.{decl_of, in_order, is_restart, Lines, BeginsRun}

module _ {T K Delta : Type 0} {ghosts : Ghosts T Kind Op Delta} {keeping : Keeping K} where
  -- each keeper tells its table
  abbrev pub AllTell : World T K Kind Op Delta ghosts keeping → Type 0
  AllTell world = (place : ℕ) (keeper : K) → keeper_of world.nodes.items world.spare.items place ≡ Some keeper → IsSome (keeping.table keeper)

  -- the keeper of each place gave some answers
  abbrev pub AreAllKept : (old new : World T K Kind Op Delta ghosts keeping) → Type 0
  AreAllKept old new = (place : ℕ) → IsKept keeping (keeper_of old.nodes.items old.spare.items place) (keeper_of new.nodes.items new.spare.items place)

  -- what the steps load is what was stored: keepers tell their tables, or nothing is loaded
  abbrev pub LoadAll : List RunStep → World T K Kind Op Delta ghosts keeping → Type 0
  LoadAll steps world = AllTell world ⊎ All (λ step. is_restart step ≡ false) steps

-- the text is these lines
abbrev pub IsLines : Lines → Playing Kind Op Shown → List ℕ → Type 0
IsLines lines last text = text ≡ lines_text shown_text 1 lines

-- the text is these lines and then the final block
abbrev pub IsWhole : Replication Kind Op Shown → Lines → Playing Kind Op Shown → List ℕ → Type 0
IsWhole D lines last text = text ≡ lines_text shown_text 1 lines ++ final_block D shown_text last.world

-- the text is the final block alone
abbrev pub IsEnd : Replication Kind Op Shown → Lines → Playing Kind Op Shown → List ℕ → Type 0
IsEnd D lines last text = text ≡ final_block D shown_text last.world

module _ {T K Delta : Type 0} {ghosts : Ghosts T Kind Op Delta} {keeping : Keeping K} (spelling : Spelling T Kind Op Delta) (kinds : Text → Kind) (members : ℕ) (decls : List (KeyDecl Kind)) (p : Playing Kind Op Shown) (given : Given) where
  -- a script that tells nothing yet, in a world, with keepers that are to give these answers
  pub record SetsOut (old : World T K Kind Op Delta ghosts keeping) : Type 0 where
    pub means : Means spelling kinds members decls p old
    pub silent : p.lines ≡ []
    pub foretold : Foretells p given

  -- some run of these steps, of which the text tells so, ends where the world means, and the keepers were called as often
  pub record TellsSome (says : Lines → Playing Kind Op Shown → List ℕ → Type 0) (steps : List RunStep) (new : World T K Kind Op Delta ghosts keeping) (text : List ℕ) : Type 0 where
    pub lines : Lines
    pub last : Playing Kind Op Shown
    pub plays : PlaysAll (replication ghosts spelling) p (map run_step_of steps) lines last
    pub told : says lines last text
    pub means : Means spelling kinds members decls last new
    pub calls : HaveAnswered p last given

module _ {T K Delta : Type 0} {ghosts : Ghosts T Kind Op Delta} {keeping : Keeping K} (spelling : Spelling T Kind Op Delta) where
  -- a step with this number, by which no key is followed, was played, and its lines were added to a text
  abbrev pub TellsStep : ℕ → RunStep → (old new : World T K Kind Op Delta ghosts keeping) → (before after : List ℕ) → Type 0
  TellsStep n (Plain step) old new before after = (events : List Event) × Plays spelling step old new events × (after ≡ before ++ flat_map (event_text n) events)
  TellsStep n (Threads clients) old new before after = (lines : List ClientLine) × PlaysSection spelling clients old new lines × (after ≡ before ++ flat_map (client_line_text n) lines)
  TellsStep n (Subscribe at client key) old new before after = ⊥
  TellsStep n (Unsubscribe at client key) old new before after = ⊥

  -- The keepers gave these answers, and wherever a script sets out with them, the text begins so, and tells all where what is loaded is what was stored
  pub record TellsSteps (steps : List RunStep) (old new : World T K Kind Op Delta ghosts keeping) (text : List ℕ) : Type 0 where
    pub given : Given
    pub kept : (place : ℕ) → KeepsAt keeping (given place) (keeper_of old.nodes.items old.spare.items place) (keeper_of new.nodes.items new.spare.items place)
    pub begun : (kinds : Text → Kind) (members : ℕ) (decls : List (KeyDecl Kind)) (p : Playing Kind Op Shown) → SetsOut spelling kinds members decls p given old → BeginsRun (replication ghosts spelling) p steps text
    pub whole : LoadAll steps old → (kinds : Text → Kind) (members : ℕ) (decls : List (KeyDecl Kind)) (p : Playing Kind Op Shown) → SetsOut spelling kinds members decls p given old
        → TellsSome spelling kinds members decls p given IsLines steps new text

  -- the same, of lines that are not written
  abbrev pub PassesSteps : List RunStep → World T K Kind Op Delta ghosts keeping → World T K Kind Op Delta ghosts keeping → Type 0
  PassesSteps steps old new = (text : List ℕ) × TellsSteps steps old new text

  -- what each member holds is added to a text
  abbrev pub AddsBlock : World T K Kind Op Delta ghosts keeping → List ℕ → List ℕ → Type 0
  AddsBlock world before after = (block : List ℕ) × IsBlockOf spelling world block × (after ≡ before ++ block)

  -- the end of a run with these lines: it is told with that, or memory was refused
  abbrev pub EndsWithBlock : World T K Kind Op Delta ghosts keeping → List ℕ → Ending → Type 0
  EndsWithBlock world before (Told text) = AddsBlock world before (string_bytes text)
  EndsWithBlock world before (NotCleared place) = ⊥
  EndsWithBlock world before Memory = Unit {0}

  -- the world is the first of a script with these members and keys
  pub record Opens (members : ℕ) (script_keys : List ScriptKey) (keepers : List K) (world : World T K Kind Op Delta ghosts keeping) : Type 0 where
    pub keys : List (declared_key.KeyDecl T Kind Op Delta)
    pub made : map declared keys ≡ map decl_of (in_order script_keys)
    pub starts : Starts spelling members keys keepers world
