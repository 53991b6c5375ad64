-- The settles of a script, by what their lines tell.
--     TellsSettled        a settle tells how many messages it sent, and its second number
--     SettlesAgree        what all settles of the script tell is so, and where a premise holds they leave settled worlds
use Rattle.std.specs.Prelude.{◌≡◌, ℕ, suc, ◌-◌, ◌*◌, ◌≤◌, List, length, Some, slice_get}
use Rattle.model_members.specs.DataType.{Replication}
use Rattle.model_members.specs.Node.{KeyDecl}
use Rattle.model_members.specs.World.{start}
use Rattle.model_members.specs.Script.{ScriptStep, Told, Answer, KeeperAnswers}
use Rattle.theorem_operations.specs.Scripts.{before_step, TellsLine}
use Rattle.theorem_settling.specs.Settling.{DigestsTellFrom, BlockedStays, IsSettled, HasBlocked}

module _ {Kind Op Shown : Type 0} (D : Replication Kind Op Shown) (answers : KeeperAnswers) (members : ℕ) (keys : List (KeyDecl Kind)) (steps : List (ScriptStep Op)) where
  -- the step of this number is a settle, which tells that it is done with these two numbers
  pub record TellsSettled (n messages blocked : ℕ) : Type 0 where
    pub settles : slice_get steps n ≡ Some ScriptStep.Settle
    pub line : Told Op Shown
    pub told : TellsLine D answers members keys steps n line
    pub answer : line.answer ≡ Answer.Settled messages blocked

  -- until the step of this number is done, digests tell apart what running members have
  abbrev pub DigestsTellUntil : ℕ → Type 0
  DigestsTellUntil n = DigestsTellFrom D (start members keys) (before_step D answers members keys steps (suc n)).events

  -- EACH SETTLE THAT TELLS IT IS DONE sent few messages, its second number is how many outcomes of its second tick are Blocked, and it leaves a settled world, where the premise holds of its number
  pub record SettlesAgree (Premise : ℕ → Type 0) : Type 0 where
    pub few : (n messages blocked : ℕ) → TellsSettled n messages blocked → messages ≤ 12 * (length (before_step D answers members keys steps n).world.view.members - 1)
    pub second_number : (n messages blocked : ℕ) → TellsSettled n messages blocked → HasBlocked D (before_step D answers members keys steps n) blocked
    pub settled : (n messages blocked : ℕ) → TellsSettled n messages blocked → Premise n → IsSettled D (before_step D answers members keys steps (suc n)).world

  -- so it is where digests tell apart what running members have, and what blocks a prune goes on blocking it
  abbrev pub SettlesAgreeWhereTold : Type 0
  SettlesAgreeWhereTold = SettlesAgree (λ n. BlockedStays D × DigestsTellUntil n)
