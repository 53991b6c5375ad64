-- What is said of every run, and of every script.
--     OfEveryRun, AfterEveryRun        it holds of every run; wherever a script stands whose events so far are one
--     OfEveryScript        it holds of every script, whatever the keepers answer
--     ScriptsAreRuns        what a script plays is a run
use Rattle.std.specs.Prelude.{ℕ, ◌≤◌, List}
use Rattle.std.specs.List.{AllByRecursion}
use Rattle.model_history.specs.Table.{identity_limit}
use Rattle.model_members.specs.DataType.{Replication}
use Rattle.model_members.specs.Node.{KeyDecl}
use Rattle.model_members.specs.World.{World, Event, IsRun}
use Rattle.model_members.specs.Script.{ScriptStep, IsStep, KeeperAnswers, Playing, opening, played_all}

-- it holds of every run: of how many members it begins with, its keys, its events, and the world that they lead to
abbrev pub OfEveryRun : (Kind Op Shown : Type 0) → (Replication Kind Op Shown → ℕ → List (KeyDecl Kind) → List (Event Op) → World Kind Op Shown → Type 0) → Type 0
OfEveryRun Kind Op Shown Holds =
    (D : Replication Kind Op Shown) (members : ℕ) (keys : List (KeyDecl Kind)) (events : List (Event Op)) (world : World Kind Op Shown)
    → IsRun D members keys events world → Holds D members keys events world

-- it holds wherever a script stands whose events so far are a run
abbrev pub AfterEveryRun : {Kind Op Shown : Type 0} → Replication Kind Op Shown → (ℕ → List (KeyDecl Kind) → Playing Kind Op Shown → Type 0) → Type 0
AfterEveryRun {Kind} {Op} {Shown} D Holds = (members : ℕ) (keys : List (KeyDecl Kind)) (p : Playing Kind Op Shown) → IsRun D members keys p.events p.world → Holds members keys p

-- it holds of every script of such steps that begins with a member or more, each of which has an identity, whatever the keepers answer
abbrev pub OfEveryScript : {Kind Step : Type 0} → (Step → Type 0) → (KeeperAnswers → ℕ → List (KeyDecl Kind) → List Step → Type 0) → Type 0
OfEveryScript {Kind} {Step} IsOne Holds =
    (answers : KeeperAnswers) (members : ℕ) (keys : List (KeyDecl Kind)) (steps : List Step)
    → 1 ≤ members → members ≤ identity_limit → AllByRecursion IsOne steps → Holds answers members keys steps

-- what a script plays is a run, whatever the keepers answer
abbrev pub ScriptsAreRuns : {Kind Op Shown : Type 0} → Replication Kind Op Shown → Type 0
ScriptsAreRuns {Kind} {Op} {Shown} D =
    (members : ℕ) (keys : List (KeyDecl Kind)) (answers : KeeperAnswers) (steps : List (ScriptStep Op))
    → 1 ≤ members → members ≤ identity_limit → AllByRecursion IsStep steps
    → let end = played_all D (opening answers members keys) steps in IsRun D members keys end.events end.world
