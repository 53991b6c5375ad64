-- Which scripts are traced: those without settles, of which no two keys have one name.
use Rattle.std.specs.Prelude.{ℕ, ◌≤◌, List, map}
use Rattle.std.specs.List.{IsDistinct, AllByRecursion}
use Rattle.std.specs.Str.{bytes_eq}
use Rattle.model_history.specs.Table.{identity_limit}
use Rattle.model_members.specs.Node.{KeyDecl}
use Rattle.model_members.specs.Script.{ScriptStep, IsStep, KeeperAnswers}

-- no two keys have one name
abbrev pub AreApart : {Kind : Type 0} → List (KeyDecl Kind) → Type 0
AreApart keys = IsDistinct bytes_eq (map (λ key. key.name) keys)

-- settles are not traced
abbrev pub IsTraced : {Op : Type 0} → ScriptStep Op → Type 0
IsTraced ScriptStep.Settle = ⊥
IsTraced _ = Unit {0}

-- it holds of every script that is traced, whatever the keepers answer
abbrev pub OfEveryTraced : {Kind Op : Type 0} → (ℕ → List (KeyDecl Kind) → KeeperAnswers → List (ScriptStep Op) → Type 0) → Type 0
OfEveryTraced {Kind} {Op} Holds =
    (members : ℕ) (keys : List (KeyDecl Kind)) (answers : KeeperAnswers) (steps : List (ScriptStep Op))
    → 1 ≤ members → members ≤ identity_limit → AreApart keys → AllByRecursion IsStep steps → AllByRecursion IsTraced steps → Holds members keys answers steps
