-- The headline: what holds of each run of a script that may have clients, whatever the keepers answer and whatever the schedule is.
--     AtEachMoment, AtEachEvent        in each world of the run, at each event of it
--     TellsMeaning, AreAlike, RefusalChangesNothing        what members tell, and what changes
--     TellsSettle, LeavesSettled, EachSection        of settles and of thread steps
--     TheHeadline        all of it
--     ReportsHaveHeadline        it holds of each run that a report tells
use Rattle.std.specs.Prelude.{◌≡◌, ℕ, suc, ◌-◌, ◌*◌, ◌≤◌, List, [], ◌∷◌, ◌++◌, length, ⊤, None, Some, find, slice_get}
use Rattle.std.specs.List.{AllByRecursion}
use Rattle.std.specs.Str.{bytes_eq}
use Rattle.model_history.specs.Table.{identity_limit}
use Rattle.model_history.specs.Texts.{Text}
use Rattle.model_members.specs.DataType.{Replication, Meaning, meaning}
use Rattle.model_members.specs.Node.{KeyDecl, Node, OpenOperation, Finished, Level, Input, state_of}
use Rattle.model_members.specs.Refusals.{IsRefusal}
use Rattle.model_members.specs.Step.{value_reply, read_result, meaning_of}
use Rattle.model_members.specs.World.{World, Event, Turn, IsRun, start, run, turn_of, step_in}
use Rattle.model_members.specs.Script.{KeeperAnswers, Playing, ScriptStep, Answer, opening}
use Rattle.theorem_runs.specs.Logs.{AllHaveHistories}
use Rattle.theorem_runs.specs.Pruning.{UnionsArePruned, AreRunning, HaveTakenAsMany}
use Rattle.theorem_sections.specs.Runs.{RunStep, IsRunStep, PlaysAll, HasReport}
use Rattle.theorem_sections.specs.Runs.RunStep.{Plain, Threads}
use Rattle.theorem_sections.specs.Sections.{Command, Move, Section, Line}
use Rattle.theorem_client_operations.specs.Calls.{CallsStandOnce}
use Rattle.theorem_client_operations.specs.Seen.{Stands, GetsIncludeSeen, stands_before}
use Rattle.theorem_settling.specs.Settling.{DigestsTellFrom, IsSettled, HasBlocked}

-- WHAT MEMBERS TELL, AND WHAT CHANGES

module _ {Kind Op Shown : Type 0} (D : Replication Kind Op Shown) (keys : List (KeyDecl Kind)) where
  -- this is the meaning of the history that a member has of a key
  abbrev pub IsMeaningAt : Node Kind Op Shown → Text → Meaning Shown → Type 0
  IsMeaningAt node key means = (decl : KeyDecl Kind) × (find (λ (d : KeyDecl Kind). bytes_eq d.name key) keys ≡ Some decl) × (means ≡ meaning D.data_type decl.kind (node.entries key).history)

  -- the operation stands open at a member
  abbrev pub HasOpen : Node Kind Op Shown → OpenOperation → Type 0
  HasOpen node operation = (k : ℕ) × (slice_get node.open_operations k ≡ Some operation)

  -- what an event tells of a key is the meaning of its member's history: in the answer to a get, and when a read finishes
  pub record TellsMeaning (world : World Kind Op Shown) (event : Event Op) : Type 0 where
    pub answered : (turn : Turn Kind Op Shown) (key : Text) (level : Level) (means : Meaning Shown) → turn_of world event ≡ Some turn → turn.input ≡ Input.Get key level
        → (step_in D turn).output.reply ≡ value_reply D (Some means) → IsMeaningAt turn.before key means
    pub finished : (turn : Turn Kind Op Shown) (end : Finished Shown) (means : Meaning Shown) → turn_of world event ≡ Some turn → (step_in D turn).output.ended ≡ Some end
        → end.result ≡ read_result D (Some means) → (o : OpenOperation) × HasOpen turn.before o × (o.op ≡ end.op) × IsMeaningAt (step_in D turn).node o.key means

module _ {Kind Op Shown : Type 0} (D : Replication Kind Op Shown) where
  -- running members that have taken as many records of each identity have taken the same, and it means the same
  abbrev pub AreAlike : World Kind Op Shown → Type 0
  AreAlike world =
      (i j : ℕ) (a b : Node Kind Op Shown) (decl : KeyDecl Kind) → AreRunning world i j a b → HaveTakenAsMany decl.name a b → meaning_of D (state_of a decl) ≡ meaning_of D (state_of b decl)

  -- an input that is refused changes no entry
  abbrev pub RefusalChangesNothing : World Kind Op Shown → Event Op → Type 0
  RefusalChangesNothing world event =
      (turn : Turn Kind Op Shown) → turn_of world event ≡ Some turn → IsRefusal (step_in D turn).output.reply → (key : Text) → (step_in D turn).node.entries key ≡ turn.before.entries key

-- THE THREAD STEPS OF A RUN

module _ {Kind Op Shown : Type 0} (D : Replication Kind Op Shown) (Holds : Playing Kind Op Shown → List (List (Command Op)) → List Move → Section Kind Op Shown → Type 0) where
  -- this holds of each: of the script before it, its clients, the moves and the section's end
  abbrev pub EachSection : (p : Playing Kind Op Shown) (steps : List (RunStep Op)) (lines : List (List (Line Op Shown))) (last : Playing Kind Op Shown) → PlaysAll D p steps lines last → Type 0
  EachSection p [] lines last plays = ⊤
  EachSection p (Plain step ∷ steps) lines last plays = EachSection plays.2 steps plays.1 last plays.4
  EachSection p (Threads clients ∷ steps) lines last plays = Holds p clients plays.3.0 plays.3.1 × EachSection plays.2 steps plays.1 last plays.4

module _ {Kind Op Shown : Type 0} (D : Replication Kind Op Shown) (answers : KeeperAnswers) (members : ℕ) (keys : List (KeyDecl Kind)) (steps : List (RunStep Op)) (lines : List (List (Line Op Shown))) (last : Playing Kind Op Shown)
    (plays : PlaysAll D (opening answers members keys) steps lines last) where
  -- in each world on the way
  abbrev pub AtEachMoment : (World Kind Op Shown → Type 0) → Type 0
  AtEachMoment Holds = (before rest : List (Event Op)) → last.events ≡ before ++ rest → Holds (run D (start members keys) before)

  -- at each event
  abbrev pub AtEachEvent : (World Kind Op Shown → Event Op → Type 0) → Type 0
  AtEachEvent Holds = (before : List (Event Op)) (event : Event Op) (rest : List (Event Op)) → last.events ≡ before ++ event ∷ rest → Holds (run D (start members keys) before) event

  -- where the run stands before the step of a number
  abbrev pub before_step : ℕ → Playing Kind Op Shown
  before_step = stands_before D (opening answers members keys) steps lines last plays

  -- the step of this number is a settle, and its line tells that it is done with these two numbers
  pub record TellsSettle (n messages blocked : ℕ) : Type 0 where
    pub settles : slice_get steps n ≡ Some (Plain ScriptStep.Settle)
    pub line : Line Op Shown
    pub stands : Stands lines (record { step = n; caller = None; number = 0 }) line
    pub answer : line.answer ≡ Answer.Settled messages blocked

  -- what each settle that is done leaves
  abbrev pub EachSettle : (ℕ → ℕ → ℕ → Type 0) → Type 0
  EachSettle Leaves = (n messages blocked : ℕ) → TellsSettle n messages blocked → Leaves n messages blocked

  -- it sent few messages, its second number is how many prunes its second tick found blocked, and it leaves a settled world, where digests tell entries apart until then
  pub record LeavesSettled (DigestsTell : List (Event Op) → Type 0) (n messages blocked : ℕ) : Type 0 where
    pub few : messages ≤ 12 * (length (before_step n).world.view.members - 1)
    pub second_number : HasBlocked D (before_step n) blocked
    pub settled : DigestsTell (before_step (suc n)).events → IsSettled D (before_step (suc n)).world

  -- THE HEADLINE
  pub record TheHeadline (DigestsTell : List (Event Op) → Type 0) : Type 0 where
    -- the report is that of a run
    pub is_run : IsRun D members keys last.events last.world
    -- each running member's history is a history of that run
    pub histories : AtEachMoment AllHaveHistories
    -- the union of any two members' histories is exactly pruned
    pub pruned : AtEachMoment UnionsArePruned
    -- what is told of a key is the meaning of the history that its member has
    pub meanings : AtEachEvent (TellsMeaning D keys)
    -- members that took the same show the same
    pub alike : AtEachMoment (AreAlike D)
    -- a majority get includes each majority update whose success its caller had seen
    pub reads : GetsIncludeSeen D answers members keys steps lines last plays
    -- a settle that is done leaves a settled world
    pub settled : EachSettle (LeavesSettled DigestsTell)
    -- each call of a client stands once, after all that its caller had seen
    pub calls : EachSection D (CallsStandOnce D) (opening answers members keys) steps lines last plays
    -- a refused input changes no entry; that a store failed is no refusal
    pub refused : AtEachEvent (RefusalChangesNothing D)

-- digests tell entries apart in each world of these events, from the first one on
abbrev pub DigestsTellThroughout : {Kind Op Shown : Type 0} → Replication Kind Op Shown → ℕ → List (KeyDecl Kind) → List (Event Op) → Type 0
DigestsTellThroughout D members keys = DigestsTellFrom D (start members keys)

-- whatever report a script has, the headline holds of the run that it tells
abbrev pub ReportsHaveHeadline : {Kind Op Shown : Type 0} → Replication Kind Op Shown → (Shown → Text) → (ℕ → List (KeyDecl Kind) → List (Event Op) → Type 0) → Type 0
ReportsHaveHeadline {Kind} {Op} {Shown} D value_text DigestsTell =
    (answers : KeeperAnswers) (members : ℕ) (keys : List (KeyDecl Kind)) (steps : List (RunStep Op)) (text : Text) → 1 ≤ members → members ≤ identity_limit → AllByRecursion IsRunStep steps
    → (report : HasReport D value_text answers members keys steps text)
    → TheHeadline D answers members keys steps report.lines report.last report.plays (DigestsTell members keys)
