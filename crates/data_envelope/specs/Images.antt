-- What an envelope stands for: an entry, whose history is a part of a log.
--     Holds         the parts of an envelope hold the cut of a log at a vector
--     StandsFor     they hold the history of an entry, and its marks
--     StandsForGroup        a delta with its numbers is a group of the log
use Rattle.std.specs.Prelude.{◌≡◌, ℕ, ◌+◌, true, Some}
use Rattle.model_history.specs.Vector.{VersionVector, IdentitySet}
use Rattle.model_history.specs.History.{History, versions, IsHistory}
use Rattle.model_history.specs.Log.{IsTakenFrom}
use Rattle.model_history.specs.Cuts.{IsConsistentCut, HasExactPrunes, Prunes, AreOperations, past_of, without}
use Rattle.model_members.specs.Entry.{Entry, Group, IsGroupOf, needs}
use Rattle.base_vectors.specs.Vectors.{Numbers, number_at}
use Rattle.data_markers.specs.declared.marker.Marker.TheVariants.{Performed}
use Rattle.data_markers.specs.Marks.{Marks, mark_of, performed_in, begun}

-- the parts of an envelope
pub record Parts (State : Type 0) : Type 0 where
  pub value : State
  pub versions : Numbers
  pub marks : Marks

-- data and versions are those of the cut without the identities that were pruned: these have a performed mark, and were cleaned away
pub record Holds {State Op : Type 0} (IsDataOf : State → History Op → VersionVector → IdentitySet → Type 0) (parts : Parts State) (log : History Op) (held : VersionVector) : Type 0 where
  pub cut : IsConsistentCut log held
  pub exact : HasExactPrunes log held
  pub prunes : (removed owner index : ℕ) → Prunes log held removed owner index → mark_of parts.marks removed ≡ Some (Performed owner (index + 1) (past_of log owner index removed))
  pub marked : (removed : ℕ) → performed_in parts.marks removed ≡ true → (owner : ℕ) × (index : ℕ) × Prunes log held removed owner index
  pub state : IsDataOf parts.value log held (performed_in parts.marks)
  pub numbers : (i : ℕ) → number_at parts.versions i ≡ without (performed_in parts.marks) held i

-- the entry's history is a part of the log that the parts hold, and its marks are those that were begun
pub record StandsFor {State Op : Type 0} (IsDataOf : State → History Op → VersionVector → IdentitySet → Type 0) (parts : Parts State) (log : History Op) (entry : Entry Op) : Type 0 where
  pub histories : IsHistory log
  pub taken : IsTakenFrom log entry.history
  pub holds : Holds IsDataOf parts log (versions entry.history)
  pub marks : (r : ℕ) → entry.marks r ≡ begun (mark_of parts.marks r)

-- the parts of a group: an origin's records after a number up to another, as a delta, with what they need
pub record GroupParts (Delta : Type 0) : Type 0 where
  pub origin : ℕ
  pub after : ℕ
  pub upto : ℕ
  pub needed : Numbers
  pub changes : Delta

pub record StandsForGroup {Delta Op : Type 0} (IsDeltaOf : Delta → History Op → ℕ → ℕ → ℕ → Type 0) (parts : GroupParts Delta) (log : History Op) (group : Group Op) : Type 0 where
  pub origin : parts.origin ≡ group.origin
  pub after : parts.after ≡ group.after
  pub upto : parts.upto ≡ group.upto
  pub of_log : IsGroupOf log group
  pub operations : AreOperations log group.origin group.after group.upto
  pub changes : IsDeltaOf parts.changes log group.origin group.after group.upto
  pub needed : (i : ℕ) → number_at parts.needed i ≡ needs group i
