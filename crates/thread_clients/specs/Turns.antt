-- What a client's turns leave.
--     TakesOn        the session made takes alone
--     HasHeard, WasFull, IsHeardOrFull        a turn among them; or one that found a history full
--     HasFound        a look found an operation finished
--     IsUnfinished, HasHeardAnswers, MayGiveUp        what a client knows of an operation when it calls its timeout
--     HasLooked, HasWaited        how many turns a client makes for an operation before it gives it up
use Rattle.std.specs.Prelude.{ℕ, ◌+◌, ◌⊎◌, Option, None, Some}
use Rattle.model_kinds.specs.declared.operation.Op.{Op}
use Rattle.data_lattice.specs.declared.replica.Replica.{Ghosts as Data}
use Rattle.member_keeper.specs.declared.keeper.Keeper.{Ghosts as Keeping}
use Rattle.thread_cell.specs.Stamps.{IsTimed}
use Rattle.member_node.specs.declared.operation.Look.{Look}
use Rattle.member_node.specs.declared.operation.Look.TheVariants as look
use Rattle.member_node.specs.declared.operation.OperationResult.{OperationResult}
use Rattle.member_node.specs.declared.reply.Output.{Output}
use Rattle.thread_cluster.specs.Knowing.{IsShownBy}
use Rattle.thread_cluster.specs.Turning.{HasBegun, HasTurnedAll}
use Rattle.thread_cluster.specs.Messages.{messages_to, messages_of, Looks}
use Rattle.thread_cluster.specs.Refusals.{IsFullSomewhere}
use Rattle.thread_clients.specs.Sessions.{Session, Meaning}

-- how many turns a client makes for an operation
abbrev pub most_turns : ℕ
most_turns = 64

-- the look did not find the operation finished
abbrev pub IsUnfinished : Look → Type 0
IsUnfinished (look.Finished result) = ⊥
IsUnfinished _ = Unit {0}

module _ {T K Kind Delta : Type 0} {data_of : Data T Kind Op Delta} {keeping : Keeping K} (ids : ℕ → Option ℕ) where
  -- the session's calls grew by takes alone
  abbrev pub TakesOn : Session data_of keeping → Session data_of keeping → Type 0
  TakesOn old new = HasBegun messages_of ids old new

  -- and there was a turn among them: each message that the session knew of one member to another is taken, in what it knows then
  pub record HasHeard (old new : Session data_of keeping) : Type 0 where
    pub n : ℕ
    pub turned : HasTurnedAll messages_of (λ id (output : Output T Kind Op Delta data_of). messages_to id output.posts) ids n old new

module _ {T K Kind Delta : Type 0} {data_of : Data T Kind Op Delta} {keeping : Keeping K} (meaning : Meaning data_of keeping) (ids : ℕ → Option ℕ) where
  -- meanwhile a turn was answered that a member takes no more of what was posted to it
  pub record WasFull (old new : Session data_of keeping) : Type 0 where
    pub between : Session data_of keeping
    pub before : TakesOn ids old between
    pub full : IsFullSomewhere meaning ids between
    pub after : TakesOn ids between new

  abbrev pub IsHeardOrFull : Session data_of keeping → Session data_of keeping → Type 0
  IsHeardOrFull old new = HasHeard ids old new ⊎ WasFull old new

  -- what the session knew of posts is taken, by a turn; what the session then knew of answers to them is taken, by a later turn; and a look after that did not find the operation finished
  pub record HasHeardAnswers (id op : ℕ) (old new : Session data_of keeping) : Type 0 where
    pub asked : Session data_of keeping
    pub heard : Session data_of keeping
    pub posts : HasHeard ids old asked
    pub answers : HasHeard ids asked heard
    pub seen : Look
    pub shown : IsShownBy meaning ids id Looks op heard new seen
    pub unfinished : IsUnfinished seen

  -- a look found the operation finished, after what was sent for it was heard
  pub record HasFound (id op : ℕ) (old new : Session data_of keeping) (result : OperationResult) : Type 0 where
    pub before : Session data_of keeping
    pub heard : IsHeardOrFull old before
    pub shown : IsShownBy meaning ids id Looks op before new (look.Finished result)

  -- so many turns, each with a look after it that did not find the operation finished
  pub data HasLooked (id op : ℕ) (first : Session data_of keeping) : ℕ → Session data_of keeping → Type 0 where
    none_yet : HasLooked id op first 0 first
    once_more : (turns : ℕ) (old heard new : Session data_of keeping) (seen : Look)
        → HasLooked id op first turns old → IsHeardOrFull old heard → IsShownBy meaning ids id Looks op heard new seen → IsUnfinished seen → HasLooked id op first (turns + 1) new

  -- all that was asked was answered, or a history was full, and still none of the most turns that a client makes found the operation finished
  pub record HasWaitedLong (id op : ℕ) (old new : Session data_of keeping) : Type 0 where
    pub looked : HasLooked id op old most_turns new
    pub waited : HasHeardAnswers id op old new ⊎ WasFull old new

  -- a look found the operation finished, or none did
  abbrev pub HasWaited : ℕ → ℕ → Session data_of keeping → Session data_of keeping → Option OperationResult → Type 0
  HasWaited id op old new (Some result) = HasFound id op old new result
  HasWaited id op old new None = HasWaitedLong id op old new

  -- WHEN A CLIENT CALLS A TIMEOUT
  pub record MayGiveUp (id op : ℕ) (old new : Session data_of keeping) : Type 0 where
    pub timed : IsTimed new.seen.known new.seen.stamp
    pub waited : HasHeardAnswers id op old new ⊎ WasFull old new
