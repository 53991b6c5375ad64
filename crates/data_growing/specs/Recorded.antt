-- Whether a history has a record whose operation passes a test. A flag and the elements of a set that only grows are such facts.
use Rattle.std.specs.Prelude.{◌≡◌, ℕ, ◌<◌, ◌≤◌, Bool, true}
use Rattle.model_history.specs.Vector.{VersionVector}
use Rattle.model_history.specs.History.{History}
use Rattle.model_history.specs.Cuts.{action_of}
use Rattle.model_meanings.specs.Growing.{is_operation}

module _ {Op : Type 0} (test : Op → Bool) (log : History Op) where
  -- the operation of a held record passes
  pub record IsRecorded (held : VersionVector) : Type 0 where
    pub origin : ℕ
    pub index : ℕ
    pub within : index < held origin
    pub passes : is_operation test (action_of log origin index) ≡ true

  -- that of one of an origin's records after a number up to another
  pub record IsRecordedBetween (origin after to : ℕ) : Type 0 where
    pub index : ℕ
    pub from : after ≤ index
    pub within : index < to
    pub passes : is_operation test (action_of log origin index) ≡ true

  -- the bit is true exactly where a held record passes
  pub record Tells (bit : Bool) (held : VersionVector) : Type 0 where
    pub only : bit ≡ true → IsRecorded held
    pub all : IsRecorded held → bit ≡ true

  pub record TellsBetween (bit : Bool) (origin after to : ℕ) : Type 0 where
    pub only : bit ≡ true → IsRecordedBetween origin after to
    pub all : IsRecordedBetween origin after to → bit ≡ true
