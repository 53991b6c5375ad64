-- What a settle leaves.
use Rattle.std.specs.Prelude.{◌≡◌, ◌≢◌, ℕ, ◌-◌, ◌*◌, ◌<◌, ◌≤◌, List, [], ◌++◌, length, fold, IsSome, Some, find, true, false}
use Rattle.std.specs.Str.{bytes_eq}
use Rattle.model_history.specs.History.{at, is_pruned}
use Rattle.model_members.specs.View.{is_member, leader, identities_of}
use Rattle.model_members.specs.Entry.{Entry, with_prune, is_unchanged}
use Rattle.model_members.specs.DataType.{Replication}
use Rattle.model_members.specs.Node.{KeyDecl, Node, Input, Fate, Reply}
use Rattle.model_members.specs.World.{World, Event, start, happens, run}
use Rattle.model_members.specs.Script.{Playing, Answer, install_last, sweep, tick, settle, settle_line, last_answer_blocked, blocked_in_answer}
use Rattle.theorem_operations.specs.Quorum.{reply_in}

-- the key is declared
abbrev pub IsDeclared : {Kind Op Shown : Type 0} → World Kind Op Shown → KeyDecl Kind → Type 0
IsDeclared {Kind} world decl = find (λ (d : KeyDecl Kind). bytes_eq d.name decl.name) world.keys ≡ Some decl

module _ {Kind Op Shown : Type 0} (D : Replication Kind Op Shown) where
  -- THE PARTS OF A SETTLE

  module _ (p : Playing Kind Op Shown) where
    abbrev pub installed_all : Playing Kind Op Shown
    installed_all = fold (install_last D) (record p { lines = [] }) (identities_of p.world.view)

    abbrev pub swept_twice : Playing Kind Op Shown
    swept_twice = sweep D (sweep D installed_all)

    abbrev pub ticked_once : Playing Kind Op Shown
    ticked_once = tick D swept_twice

    abbrev pub swept_again : Playing Kind Op Shown
    swept_again = sweep D ticked_once

    abbrev pub ticked_twice : Playing Kind Op Shown
    ticked_twice = tick D swept_again

    abbrev pub swept_last : Playing Kind Op Shown
    swept_last = sweep D ticked_twice

    -- what the settle answers
    abbrev pub settle_answer : Answer Shown
    settle_answer = settle_line D swept_last (last_answer_blocked ticked_twice)

    -- the leader's tick
    abbrev pub tick_event : Fate → Event Op
    tick_event fate = Event.InputAt (leader p.world.view) Input.PruneTick fate

  -- PREMISES

  -- no two running members hold different entries of a key with one digest: entries that differ in how many records they have of an identity, or in a mark
  abbrev pub DigestsTell : World Kind Op Shown → Type 0
  DigestsTell world =
      (i j : ℕ) (a b : Node Kind Op Shown) (decl : KeyDecl Kind) → world.nodes i ≡ Some a → world.nodes j ≡ Some b → IsDeclared world decl
      → D.digest decl.kind (a.entries decl.name) ≡ D.digest decl.kind (b.entries decl.name) → is_unchanged (a.entries decl.name) (b.entries decl.name) ≡ true

  -- in no world on the way
  abbrev pub DigestsTellFrom : World Kind Op Shown → List (Event Op) → Type 0
  DigestsTellFrom first events = (before rest : List (Event Op)) → events ≡ before ++ rest → DigestsTell (run D first before)

  -- what blocks an owner's prune goes on blocking it when the owner prunes another identity
  abbrev pub BlockedStays : Type 0
  BlockedStays =
      (kind : Kind) (owner r other : ℕ) (entry : Entry Op) → r ≢ other → IsSome (D.data_type.blocked kind owner r entry.history)
      → IsSome (D.data_type.blocked kind owner r (with_prune entry owner other).history)

  -- WHAT IT LEAVES

  -- all running members have one history of each key, and each removed identity that it has a record and no prune of is blocked
  pub record IsSettled (world : World Kind Op Shown) : Type 0 where
    pub same : (i j : ℕ) (a b : Node Kind Op Shown) (decl : KeyDecl Kind) → world.nodes i ≡ Some a → world.nodes j ≡ Some b → IsDeclared world decl → (a.entries decl.name).history ≡ (b.entries decl.name).history
    pub blocked : (i : ℕ) (node : Node Kind Op Shown) (decl : KeyDecl Kind) (r : ℕ) → world.nodes i ≡ Some node → IsDeclared world decl
        → r < world.view.given → is_member world.view r ≡ false → 0 < at (node.entries decl.name).history r → is_pruned (node.entries decl.name).history r ≡ false
        → IsSome (D.data_type.blocked decl.kind (leader world.view) r (node.entries decl.name).history)

  -- so many outcomes of the leader's second tick are Blocked
  pub record HasBlocked (p : Playing Kind Op Shown) (blocked : ℕ) : Type 0 where
    pub fate : Fate
    pub reply : Reply Shown
    pub ticks : (ticked_twice p).world ≡ happens D (swept_again p).world (tick_event p fate)
    pub replies : reply_in D (swept_again p).world (tick_event p fate) ≡ Some reply
    pub count : blocked ≡ blocked_in_answer (Answer.Replied reply)

  -- WHAT IT TELLS

  -- it holds of the two numbers that the settle tells, where it is done
  abbrev pub WhereDone : Playing Kind Op Shown → (ℕ → ℕ → Type 0) → Type 0
  WhereDone p Holds = (messages blocked : ℕ) → settle_answer p ≡ Answer.Settled messages blocked → Holds messages blocked

  -- it sent at most 12 messages for each member of the last view but the leader
  abbrev pub SendsFew : Playing Kind Op Shown → Type 0
  SendsFew p = WhereDone p (λ messages blocked. messages ≤ 12 * (length p.world.view.members - 1))

  -- where digests tell entries apart until it ends, and what blocks a prune goes on blocking it, it leaves a settled world
  abbrev pub SettlesWhereTold : ℕ → List (KeyDecl Kind) → Playing Kind Op Shown → Type 0
  SettlesWhereTold members keys p = DigestsTellFrom (start members keys) (settle D p).events → BlockedStays → WhereDone p (λ messages blocked. IsSettled (settle D p).world)
