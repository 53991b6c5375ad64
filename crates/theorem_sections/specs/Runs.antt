-- Scripts with thread steps: their runs and reports. Plain steps leave no choice, a section does.
use Rattle.std.specs.Prelude.{◌≡◌, ◌↔◌, ◌≤◌, ℕ, suc, List, [], ◌∷◌, ◌++◌, map, flat_map, Option, None, Some, codes, decimal, option_map}
use Rattle.std.specs.List.{AllByRecursion}
use Rattle.model_history.specs.Table.{identity_limit}
use Rattle.model_history.specs.Texts.{Text}
use Rattle.model_members.specs.DataType.{Replication}
use Rattle.model_members.specs.Node.{KeyDecl}
use Rattle.model_members.specs.World.{IsRun}
use Rattle.model_members.specs.Script.{Playing, ScriptStep, IsStep, Told, KeeperAnswers, opening, played}
use Rattle.model_members.specs.Report.{words, line_of, head_words, answer_text, post_words, result_text, final_block, report}
use Rattle.theorem_sections.specs.Sections.{Command, Move, Section, Ending, Line, IsSection, section_lines}
use Rattle.theorem_sections.specs.Sections.Ending.{Ended, TimedOut, LeftOpen}

pub data RunStep (Op : Type 0) : Type 0 where
  Plain : ScriptStep Op → RunStep Op
  Threads : (clients : List (List (Command Op))) → RunStep Op

-- places of plain steps are those of a script
abbrev pub IsRunStep : {Op : Type 0} → RunStep Op → Type 0
IsRunStep (Plain s) = IsStep s
IsRunStep (Threads clients) = Unit {0}

abbrev pub plain_line : {Op Shown : Type 0} → Told Op Shown → Line Op Shown
plain_line told = record { client = None; head = told.head; answer = told.answer; posts = told.posts; ended = option_map Ended told.ended }

module _ {Kind Op Shown : Type 0} (D : Replication Kind Op Shown) where
  -- a step told these lines and led to this state
  abbrev pub Plays : Playing Kind Op Shown → RunStep Op → List (Line Op Shown) → Playing Kind Op Shown → Type 0
  Plays p (Plain s) lines q = (lines ≡ map plain_line (played D p s).lines) × (q ≡ record (played D p s) { lines = [] })
  Plays p (Threads clients) lines q = (moves : List Move) × (end : Section Kind Op Shown) × IsSection D p clients moves end × (lines ≡ section_lines end) × (q ≡ end.playing)

  -- all steps, one after another
  abbrev pub PlaysAll : Playing Kind Op Shown → List (RunStep Op) → List (List (Line Op Shown)) → Playing Kind Op Shown → Type 0
  PlaysAll p [] lines q = (lines ≡ []) × (q ≡ p)
  PlaysAll p (s ∷ ss) lines r =
      (first : List (Line Op Shown)) × (rest : List (List (Line Op Shown))) × (q : Playing Kind Op Shown) × Plays p s first q × PlaysAll q ss rest r × (lines ≡ first ∷ rest)

-- THE REPORT

abbrev pub client_words : Option ℕ → List Text
client_words None = []
client_words (Some c) = codes "client" ∷ decimal c ∷ []

module _ {Shown : Type 0} (value_text : Shown → Text) where
  abbrev pub ending_words : Option (Ending Shown) → List Text
  ending_words None = []
  ending_words (Some (Ended finished)) = codes "finished" ∷ decimal finished.op ∷ result_text value_text finished.result ∷ []
  ending_words (Some (TimedOut op)) = codes "finished" ∷ decimal op ∷ codes "timed out" ∷ []
  ending_words (Some (LeftOpen op)) = codes "open" ∷ decimal op ∷ []

  abbrev pub line_text : {Op : Type 0} → ℕ → Line Op Shown → Text
  line_text n line =
      line_of (words (((decimal n ∷ client_words line.client) ++ head_words line.head) ++ answer_text value_text line.answer ∷ post_words line.posts ++ ending_words line.ended))

  abbrev pub lines_text : {Op : Type 0} → ℕ → List (List (Line Op Shown)) → Text
  lines_text n [] = []
  lines_text n (lines ∷ rest) = flat_map (line_text n) lines ++ lines_text (suc n) rest

module _ {Kind Op Shown : Type 0} (D : Replication Kind Op Shown) (value_text : Shown → Text) where
  -- a run of the script over these keys, where the keepers answer so, has this report
  pub record HasReport (answers : KeeperAnswers) (members : ℕ) (keys : List (KeyDecl Kind)) (steps : List (RunStep Op)) (text : Text) : Type 0 where
    pub lines : List (List (Line Op Shown))
    pub last : Playing Kind Op Shown
    pub plays : PlaysAll D (opening answers members keys) steps lines last
    pub told : text ≡ lines_text value_text 1 lines ++ final_block D value_text last.world

module _ {Kind Op Shown : Type 0} (D : Replication Kind Op Shown) where
  -- what a script that may have thread steps plays is a run, whatever the schedule and whatever the keepers answer
  abbrev pub SectionsAreRuns : Type 0
  SectionsAreRuns =
      (members : ℕ) (keys : List (KeyDecl Kind)) (answers : KeeperAnswers) (steps : List (RunStep Op)) → 1 ≤ members → members ≤ identity_limit → AllByRecursion IsRunStep steps
      → (lines : List (List (Line Op Shown))) (last : Playing Kind Op Shown) → PlaysAll D (opening answers members keys) steps lines last → IsRun D members keys last.events last.world

  -- a script without thread steps has the report of its one run
  abbrev pub PlainScriptsHaveOneReport : Type 0
  PlainScriptsHaveOneReport =
      (value_text : Shown → Text) (answers : KeeperAnswers) (members : ℕ) (keys : List (KeyDecl Kind)) (steps : List (ScriptStep Op)) (text : Text)
      → HasReport D value_text answers members keys (map RunStep.Plain steps) text ↔ text ≡ report D value_text answers members keys steps
