-- What a turn leaves.
--     HasHeard, HasTaken, HasTakenMore        so many of a member's posts are taken
--     HasBegun        a turn that was cut off
--     IsOneFull, IsOneRefused, IsCauseSomewhere        why it was
--     IsHeard, IsAllTaken, HasTurned, HasTurnedTo, HasTold, HaveTold, HasTurnedAll        from one place to another, from one to the first places, from all to all
use Rattle.std.specs.Prelude.{◌≡◌, ◌≢◌, ℕ, ◌+◌, ◌<◌, ◌≤◌, List, length, Option, Some}
use Rattle.thread_machine.specs.declared.machine.Machine.{Ghosts}
use Rattle.thread_machine.specs.declared.entry.Entry.{Entry}
use Rattle.thread_cell.specs.declared.cell.CellError.{CellError}
use Rattle.thread_cell.specs.declared.cell.CellError.TheVariants.{CellFull, Refused, Memory}
use Rattle.thread_cell.specs.Lists.{at}
use Rattle.thread_cell.specs.Values.{ClientParts}
use Rattle.thread_cluster.specs.Passing.{posts, takes, AreHeard, AreAllHeard, HasUnheard}
use Rattle.thread_cluster.specs.Knowing.{Known, IsFull, Turns, IsRefusedAt}

module _ {M I F O R X : Type 0} (taken : ℕ → I → List X) where
  -- a turn that was cut off: the session's calls grew by takes alone
  pub record HasBegun (ids : ℕ → Option ℕ) (old new : ClientParts M I F O R) : Type 0 where
    pub n : ℕ
    pub turned : Turns taken ids n old new

  module _ (posted : ℕ → O → List X) (ids : ℕ → Option ℕ) where
    -- the member at p took so many messages of the one at q or more, all of the first that were posted
    pub record HasHeard (q p n : ℕ) (known : List (List (Entry M I F O R))) : Type 0 where
      pub count : n ≤ length (takes taken (ids q) (at known p))
      pub heard : AreHeard (posts posted (ids p) (at known q)) (takes taken (ids q) (at known p))

    -- the calls grew by so many takes, and so many messages are heard
    pub record HasTaken (q p all n : ℕ) (old new : ClientParts M I F O R) : Type 0 where
      pub turned : Turns taken ids n old new
      pub heard : HasHeard q p all new.seen.known

    -- they are those that were heard in what was known, and so many more
    abbrev pub HasTakenMore : (q p : ℕ) → Known M I F O R → (more n : ℕ) → (old new : ClientParts M I F O R) → Type 0
    HasTakenMore q p known more n old new = HasTaken q p (length (takes taken (ids q) (at known p)) + more) n old new

    -- what the session knew that the member at p posted to the one at q is taken there, in what it knows now
    pub record IsHeard (p q : ℕ) (old new : ClientParts M I F O R) : Type 0 where
      pub all : AreAllHeard (posts posted (ids q) (at old.seen.known p)) (takes taken (ids p) (at new.seen.known q))

    -- from one place to another
    pub record HasTurned (p q n : ℕ) (old new : ClientParts M I F O R) : Type 0 where
      pub turned : Turns taken ids n old new
      pub heard : IsHeard p q old new

    -- what was known first that the member at p posted to the one at q is taken there, in what is known now
    pub record IsAllTaken (p q : ℕ) (first now : Known M I F O R) : Type 0 where
      pub all : AreAllHeard (posts posted (ids q) (at first p)) (takes taken (ids p) (at now q))

    -- from one place to another one, where both have members, of what was known first
    pub record HasTurnedTo (p q n : ℕ) (first : Known M I F O R) (old new : ClientParts M I F O R) : Type 0 where
      pub turned : Turns taken ids n old new
      pub heard : (i j : ℕ) → p ≢ q → ids p ≡ Some i → ids q ≡ Some j → IsAllTaken p q first new.seen.known

    -- from one place to those below a number
    pub record HasTold (p below n : ℕ) (first : Known M I F O R) (old new : ClientParts M I F O R) : Type 0 where
      pub turned : Turns taken ids n old new
      pub heard : (q i j : ℕ) → q < below → p ≢ q → ids p ≡ Some i → ids q ≡ Some j → IsAllTaken p q first new.seen.known

    -- from those below a number to all
    pub record HaveTold (below n : ℕ) (first : Known M I F O R) (old new : ClientParts M I F O R) : Type 0 where
      pub turned : Turns taken ids n old new
      pub heard : (p q i j : ℕ) → p < below → p ≢ q → ids p ≡ Some i → ids q ≡ Some j → IsAllTaken p q first new.seen.known

    -- A TURN: the session's calls grew by so many takes, and each message that it knew of one member to another is taken in what it knows now
    pub record HasTurnedAll (n : ℕ) (old new : ClientParts M I F O R) : Type 0 where
      pub turned : Turns taken ids n old new
      pub heard : (p q i j : ℕ) → p ≢ q → ids p ≡ Some i → ids q ≡ Some j → IsHeard p q old new

module _ {M I F O R X : Type 0} (meaning : Ghosts M I F O R) (taken : ℕ → I → List X) (posted : ℕ → O → List X) (ids : ℕ → Option ℕ) where
  -- the history of a place is full, as far as is known, and its member took less than some other one posted to it
  pub record IsOneFull (known : Known M I F O R) : Type 0 where
    pub place : ℕ
    pub full : IsFull place known
    pub sender : ℕ
    pub unheard : HasUnheard posted taken ids sender place known

  -- the member of a place may refuse some input so, and took less than some other one posted to it
  pub record IsOneRefused (session : ClientParts M I F O R) (refusal : R) : Type 0 where
    pub place : ℕ
    pub input : I
    pub refused : IsRefusedAt meaning place input session refusal
    pub sender : ℕ
    pub unheard : HasUnheard posted taken ids sender place session.seen.known

  -- why a take at some place made no step
  abbrev pub IsCauseSomewhere : ClientParts M I F O R → CellError R → Type 0
  IsCauseSomewhere session CellFull = IsOneFull session.seen.known
  IsCauseSomewhere session (Refused refusal) = IsOneRefused session refusal
  IsCauseSomewhere session Memory = Unit {0}
