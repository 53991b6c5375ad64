-- Entries whose digests are the SHA-1 of their spellings: what a run has to be for these to tell them apart.
--     MakesFewSteps        members make so few steps that eight bytes tell how many records of a key each has
--     DistinctDigests        in no world of a run two running members have different spellings of one key with one SHA-1
--     SettlesAgreeByDigests        what the settles of a script tell is so, and where this holds they leave settled worlds
use Rattle.std.specs.Prelude.{◌≡◌, ℕ, suc, ◌^◌, ◌≤◌, List, ◌++◌, Some, true}
use Rattle.model_history.specs.History.{History}
use Rattle.model_members.specs.DataType.{Replication}
use Rattle.model_members.specs.Entry.{is_unchanged}
use Rattle.model_members.specs.Node.{KeyDecl, Node}
use Rattle.model_members.specs.World.{World, Event, IsRun, start, run}
use Rattle.model_members.specs.Script.{ScriptStep, IsStep, KeeperAnswers}
use Rattle.theorem_runs.specs.Runs.{OfEveryScript}
use Rattle.theorem_operations.specs.Scripts.{before_step}
use Rattle.theorem_settling.specs.Settling.{IsDeclared, DigestsTellFrom, BlockedStays}
use Rattle.theorem_settling.specs.Scripts.{SettlesAgree}
use Rattle.data_codec.specs.Entries.{entry_spelled, entry_digest}
use Rattle.sha1.specs.Sha1.{sha1}

-- members make so few steps that eight bytes tell how many records of a key each has
abbrev pub MakesFewSteps : {Kind Op Shown : Type 0} → Replication Kind Op Shown → Type 0
MakesFewSteps D = D.most_steps ≤ 2 ^ 54

-- it holds whatever byte a history has and whatever is spelled of it
abbrev pub WhateverIsSpelled : {Kind Op : Type 0} → ((Kind → History Op → ℕ) → (Kind → History Op → List ℕ) → Type 0) → Type 0
WhateverIsSpelled {Kind} {Op} Holds = (byte_of : Kind → History Op → ℕ) (history_spelled : Kind → History Op → List ℕ) → Holds byte_of history_spelled

-- it holds where the digest of an entry is the SHA-1 of its spelling, whatever is spelled of a history
abbrev pub WhereDigestsSpell : {Kind Op Shown : Type 0} → Replication Kind Op Shown → ((Kind → History Op → ℕ) → (Kind → History Op → List ℕ) → Type 0) → Type 0
WhereDigestsSpell {Kind} {Op} D Holds =
    (byte_of : Kind → History Op → ℕ) (history_spelled : Kind → History Op → List ℕ) → D.digest ≡ entry_digest byte_of history_spelled → Holds byte_of history_spelled

module _ {Kind Op Shown : Type 0} (D : Replication Kind Op Shown) (byte_of : Kind → History Op → ℕ) (history_spelled : Kind → History Op → List ℕ) where
  -- what a member spells of a key
  abbrev pub spelling_of : Node Kind Op Shown → KeyDecl Kind → List ℕ
  spelling_of node decl = entry_spelled byte_of history_spelled decl.kind (node.entries decl.name)

  -- what running members spell of one key is the same, if it has one SHA-1
  abbrev pub AreDistinct : World Kind Op Shown → Type 0
  AreDistinct world =
      (i j : ℕ) (a b : Node Kind Op Shown) (decl : KeyDecl Kind) → world.nodes i ≡ Some a → world.nodes j ≡ Some b → IsDeclared world decl
      → sha1 (spelling_of a decl) ≡ sha1 (spelling_of b decl) → spelling_of a decl ≡ spelling_of b decl

  -- DISTINCT DIGESTS: in no world on the way do two running members have entries of one key whose spellings differ and have one SHA-1
  pub record DistinctDigests (first : World Kind Op Shown) (events : List (Event Op)) : Type 0 where
    pub throughout : (before rest : List (Event Op)) → events ≡ before ++ rest → AreDistinct (run D first before)

  module _ (answers : KeeperAnswers) (members : ℕ) (keys : List (KeyDecl Kind)) (steps : List (ScriptStep Op)) where
    -- so it is until the step of this number is done
    abbrev pub DistinctUntil : ℕ → Type 0
    DistinctUntil n = DistinctDigests (start members keys) (before_step D answers members keys steps (suc n)).events

    -- what the settles of a script tell is so, and those that are done leave settled worlds, where digests are distinct until then
    abbrev pub SettlesAgreeByDigests : Type 0
    SettlesAgreeByDigests = SettlesAgree D answers members keys steps DistinctUntil

  -- in every run, running members whose spellings of a key are equal have one history and the same marks of it
  abbrev pub SpellingsTell : Type 0
  SpellingsTell =
      (members : ℕ) (keys : List (KeyDecl Kind)) (events : List (Event Op)) (world : World Kind Op Shown) → IsRun D members keys events world
      → (i j : ℕ) (a b : Node Kind Op Shown) (key : KeyDecl Kind) → world.nodes i ≡ Some a → world.nodes j ≡ Some b
      → spelling_of a key ≡ spelling_of b key → is_unchanged (a.entries key.name) (b.entries key.name) ≡ true

  -- in every run, distinct digests tell entries apart
  abbrev pub DistinctDigestsTell : Type 0
  DistinctDigestsTell =
      (members : ℕ) (keys : List (KeyDecl Kind)) (events : List (Event Op)) (world : World Kind Op Shown) → IsRun D members keys events world
      → DistinctDigests (start members keys) events → DigestsTellFrom D (start members keys) events

  -- what the settles of every script tell is so, where what blocks a prune goes on blocking it
  abbrev pub ScriptsAgreeByDigests : Type 0
  ScriptsAgreeByDigests = BlockedStays D → OfEveryScript IsStep SettlesAgreeByDigests
