-- What the layers above need to know of a replicated data type.
use Rattle.std.specs.Prelude.{ℕ, List, Bool, if◌then◌else◌, Option}
use Rattle.model_history.specs.History.{History}
use Rattle.model_members.specs.Entry.{Entry}
use Rattle.model_meanings.specs.Refusal.{Refusal, Shares}

-- kinds, operations and shown values of one family of data types
pub record DataType (Kind Op Shown : Type 0) : Type 0 where
  -- the operation is one of the kind
  pub fits : Kind → Op → Bool
  -- why an identity may not add the operation to a history
  pub refusal : Kind → ℕ → Op → History Op → Option Refusal
  -- why an owner may not prune an identity
  pub blocked : Kind → (owner removed : ℕ) → History Op → Option Shares
  -- the value of a history
  pub shown : Kind → History Op → Shown
  -- the history has a delete: its key is deleted for ever, whatever its kind
  pub deleted : History Op → Bool

-- what a history with records means: that its key is deleted, or a value
pub data Meaning (Shown : Type 0) : Type 0 where
  IsDeleted : Meaning Shown
  Shows : Shown → Meaning Shown

abbrev pub meaning : {Kind Op Shown : Type 0} → DataType Kind Op Shown → Kind → History Op → Meaning Shown
meaning D kind H = if D.deleted H then IsDeleted else Shows (D.shown kind H)

-- a data type, the digests of its entries, how many of its last own records of a key a member keeps, to send them as a group, and how many steps it makes at most
pub record Replication (Kind Op Shown : Type 0) : Type 0 where
  pub data_type : DataType Kind Op Shown
  pub digest : Kind → Entry Op → List ℕ
  pub log_length : ℕ
  pub most_steps : ℕ
