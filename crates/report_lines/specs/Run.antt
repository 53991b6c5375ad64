-- The runs that a script asks for, and their reports.
--     steps_of, beginning        what a script is in the model
--     IsReport, BeginsReport        the text is the report of a run, or begins so
--     IsTheReport, IsSummary, ending        a script without clients has one run
use Rattle.std.specs.Prelude.{◌≡◌, ℕ, suc, Bool, true, false, List, [], ◌∷◌, ◌++◌, map, fold, if◌then◌else◌, All}
use Rattle.model_history.specs.Texts.{Text, text_lt}
use Rattle.model_history.specs.History.{History}
use Rattle.model_members.specs.DataType.{DataType, Replication}
use Rattle.model_members.specs.Node.{KeyDecl}
use Rattle.model_members.specs.Script.{KeeperAnswers, Playing, ScriptStep, opening, played_all, lines_of}
use Rattle.model_members.specs.Report.{report, steps_text, final_block}
use Rattle.model_kinds.specs.ShownText.{shown_text}
use Rattle.model_kinds.specs.declared.kind.Kind.{Kind}
use Rattle.model_kinds.specs.declared.operation.Op.{Op}
use Rattle.model_kinds.specs.declared.shown.Shown.{Shown}
use Rattle.theorem_operations.specs.Scripts.{GetsInclude}
use Rattle.theorem_sections.specs.Sections.{Line}
use Rattle.theorem_sections.specs.Runs.{PlaysAll, HasReport, lines_text}
use Rattle.theorem_settling.specs.Settling.{BlockedStays}
use Rattle.theorem_digests.specs.Digests.{SettlesAgreeByDigests}
use Rattle.member_node.specs.Members.{spelled_groups}
use Rattle.script_reading.specs.declared.clients.RunStep.{RunStep}
use Rattle.script_reading.specs.declared.clients.RunStep.TheVariants.{Plain, Threads, Subscribe, Unsubscribe}
use Rattle.script_reading.specs.declared.script.Script.{Script}
use Rattle.script_reading.specs.declared.script.ScriptKey.{ScriptKey}
use Rattle.script_reading.specs.declared.script.Step.TheVariants.{Restart}
use Rattle.script_reading.specs.Meant.{step_of}
use Rattle.world_members.specs.Threads.{run_step_of}

abbrev pub decl_of : ScriptKey → KeyDecl Kind
decl_of key = record { name = key.key; kind = key.kind; durable = key.durable }

-- where a name stands among others: before the first that is greater
abbrev pub place_in : List Text → Text → ℕ
place_in [] x = 0
place_in (y ∷ ys) x = if text_lt x y then 0 else suc (place_in ys x)

-- something with a name, put before the first with a greater name
abbrev pub placed : {X : Type 0} → (X → Text) → List X → X → List X
placed name [] x = x ∷ []
placed name (y ∷ ys) x = if text_lt (name x) (name y) then x ∷ y ∷ ys else y ∷ placed name ys x

abbrev pub ordered : {X : Type 0} → (X → Text) → List X → List X
ordered name xs = fold (placed name) [] xs

-- the keys in the byte order of their names
abbrev pub in_order : List ScriptKey → List ScriptKey
in_order keys = ordered (λ key. key.key) keys

-- ---- steps

-- the steps that a script makes by itself, as those of the model
abbrev pub steps_of : List RunStep → List (ScriptStep Op)
steps_of [] = []
steps_of (Plain step ∷ steps) = step_of step ∷ steps_of steps
steps_of (Threads clients ∷ steps) = steps_of steps
steps_of (Subscribe at client key ∷ steps) = steps_of steps
steps_of (Unsubscribe at client key ∷ steps) = steps_of steps

abbrev pub is_restart : RunStep → Bool
is_restart (Plain (Restart id)) = true
is_restart _ = false

-- no step is a restart
abbrev pub HasNoRestart : Script → Type 0
HasNoRestart script = All (λ step. is_restart step ≡ false) script.steps

-- the steps before the first restart
abbrev pub until_restart : List RunStep → List RunStep
until_restart [] = []
until_restart (step ∷ steps) = if is_restart step then [] else step ∷ until_restart steps

-- ---- a run and its report, over values of the data type, where the digests of entries are those of their spellings

-- the script before its first step, with what the keepers answer
abbrev pub beginning : KeeperAnswers → Script → Playing Kind Op Shown
beginning answers script = opening answers script.members (map decl_of (in_order script.keys))

abbrev pub Lines : Type 0
Lines = List (List (Line Op Shown))

-- the text begins with the lines of the steps before the first restart, as some run has them
pub record BeginsRun (D : Replication Kind Op Shown) (p : Playing Kind Op Shown) (steps : List RunStep) (text : List ℕ) : Type 0 where
  pub lines : Lines
  pub last : Playing Kind Op Shown
  pub rest : List ℕ
  pub plays : PlaysAll D p (map run_step_of (until_restart steps)) lines last
  pub told : text ≡ lines_text shown_text 1 lines ++ rest

module _ (data_type : DataType Kind Op Shown) (history_byte : Kind → History Op → ℕ) (history_spelled : Kind → History Op → List ℕ) where
  -- a run of the script has this report
  abbrev pub IsReport : KeeperAnswers → Script → List ℕ → Type 0
  IsReport answers script text =
      HasReport (spelled_groups data_type history_byte history_spelled) shown_text answers script.members (map decl_of (in_order script.keys)) (map run_step_of script.steps) text

  -- the text begins as such a report does, up to the first restart
  abbrev pub BeginsReport : KeeperAnswers → Script → List ℕ → Type 0
  BeginsReport answers script text = BeginsRun (spelled_groups data_type history_byte history_spelled) (beginning answers script) script.steps text

  -- SCRIPTS WITHOUT CLIENTS HAVE ONE RUN

  -- the script after its last step
  abbrev pub ending : KeeperAnswers → Script → Playing Kind Op Shown
  ending answers script = played_all (spelled_groups data_type history_byte history_spelled) (beginning answers script) (steps_of script.steps)

  -- the text is the report of that run, which is a function of the script and of what the keepers answer
  abbrev pub IsTheReport : KeeperAnswers → Script → List ℕ → Type 0
  IsTheReport answers script text =
      text ≡ report (spelled_groups data_type history_byte history_spelled) shown_text answers script.members (map decl_of (in_order script.keys)) (steps_of script.steps)

  -- its final block alone
  abbrev pub IsSummary : KeeperAnswers → Script → List ℕ → Type 0
  IsSummary answers script text = text ≡ final_block (spelled_groups data_type history_byte history_spelled) shown_text (ending answers script).world

  -- while membership stays unchanged, each majority get whose answer is told includes every majority update of its key whose success was told before
  abbrev pub GetsIncludeUpdates : KeeperAnswers → Script → Type 0
  GetsIncludeUpdates answers script = GetsInclude (spelled_groups data_type history_byte history_spelled) answers script.members (map decl_of (in_order script.keys)) (steps_of script.steps)

  -- What settles tell is so, and those that are done leave settled worlds, where digests are distinct until then. For this, what blocks a prune has to go on blocking it
  abbrev pub SettlesAreAsTold : KeeperAnswers → Script → Type 0
  SettlesAreAsTold answers script =
      BlockedStays (spelled_groups data_type history_byte history_spelled)
      → SettlesAgreeByDigests (spelled_groups data_type history_byte history_spelled) history_byte history_spelled answers script.members (map decl_of (in_order script.keys)) (steps_of script.steps)

  -- the lines of the steps before the first restart
  abbrev pub first_lines : KeeperAnswers → Script → List ℕ
  first_lines answers script =
      steps_text (spelled_groups data_type history_byte history_spelled) shown_text 1 (lines_of (spelled_groups data_type history_byte history_spelled) (beginning answers script) (steps_of (until_restart script.steps)))

  -- the text begins with them
  abbrev pub BeginsTheReport : KeeperAnswers → Script → List ℕ → Type 0
  BeginsTheReport answers script text = (rest : List ℕ) × (text ≡ first_lines answers script ++ rest)
