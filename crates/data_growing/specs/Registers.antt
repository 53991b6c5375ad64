-- What the calls of a register compute, and what its data are. A register is seen as the write that won, if there was one.
use Rattle.std.specs.Prelude.{◌≡◌, ℕ, ◌+◌, ◌<◌, ◌≤◌, max, [], if◌then◌else◌, ◌==◌, Option, None, Some, unwrap_or}
use Rattle.std.specs.declared.cmp.Ordering.{Ordering}
use Rattle.std.specs.Ordering.{nat_cmp, is_lt, ordering_then}
use Rattle.model_history.specs.Texts.{Text}
use Rattle.model_history.specs.Vector.{VersionVector}
use Rattle.model_history.specs.History.{History}
use Rattle.model_history.specs.Cuts.{IsConsistentCut}
use Rattle.model_meanings.specs.Growing.{Assignment}
use Rattle.model_meanings.specs.Refusal.{Refusal, greatest_share}
use Rattle.base_vectors.specs.declared.id.Dot.{Dot}
use Rattle.data_growing.specs.declared.register.Written.{Written}
use Rattle.base_bytes.specs.TextOrder.{text_order}
use Rattle.data_growing.specs.Timestamps.{assignment_at, timestamp_at}

-- the write that wins comes first: the greater timestamp, then the lower writer, then the lesser text
abbrev pub write_order : Written → Written → Ordering
write_order write other = ordering_then (nat_cmp other.timestamp write.timestamp) (ordering_then (nat_cmp write.writer other.writer) (text_order write.text other.text))

-- the one of two writes that wins
abbrev pub winning : Written → Written → Written
winning write other = if is_lt (write_order other write) then other else write

abbrev pub register_written : Option Written → Written → Written
register_written None write = write
register_written (Some own) write = winning own write

abbrev pub register_joined : Option Written → Option Written → Option Written
register_joined state None = state
register_joined state (Some write) = Some (register_written state write)

-- the timestamp of the last write, 0 before the first one
abbrev pub stamp_of : Option Written → ℕ
stamp_of None = 0
stamp_of (Some write) = write.timestamp

-- a write by a clock, after what the register has
abbrev pub write_after : Option Written → Assignment → Dot → Written
write_after state assignment dot = record { text = assignment.text; timestamp = max assignment.now (stamp_of state + 1); writer = dot.origin }

-- what an operation writes, where it is a write
abbrev pub assignment_of : Option Assignment → Assignment
assignment_of assignment = unwrap_or assignment (record { text = []; now = 0 })

abbrev pub register_refusal : Option Written → Option Refusal
register_refusal state = if stamp_of state == greatest_share then Some Refusal.ClockSpent else None

-- the empty text before the first write
abbrev pub text_of : Option Written → Text
text_of None = []
text_of (Some write) = write.text

module _ {Op : Type 0} (assigned : Op → Option Assignment) (log : History Op) where
  -- the write of one of the records, with the greatest timestamp, and among these of the least origin
  pub record IsWinner (write : Written) (Among : ℕ → ℕ → Type 0) : Type 0 where
    pub index : ℕ
    pub now : ℕ
    pub member : Among write.writer index
    pub assigns : assignment_at assigned log write.writer index ≡ Some (record { text = write.text; now = now })
    pub stamped : timestamp_at assigned log write.writer index ≡ write.timestamp
    pub greatest : (i k : ℕ) → Among i k → timestamp_at assigned log i k ≤ write.timestamp
    pub least : (i k : ℕ) → Among i k → timestamp_at assigned log i k ≡ write.timestamp → write.writer ≤ i

  -- the winner, where one of the records is a write
  abbrev pub IsOutcome : Option Written → (ℕ → ℕ → Type 0) → Type 0
  IsOutcome None Among = (i k : ℕ) → Among i k → assignment_at assigned log i k ≡ None
  IsOutcome (Some write) Among = IsWinner write Among

-- the records of a vector, by origin and index
abbrev pub Held : VersionVector → ℕ → ℕ → Type 0
Held held i k = k < held i

-- an origin's records after a number up to another
abbrev pub Between : ℕ → ℕ → ℕ → ℕ → ℕ → Type 0
Between origin after to i k = (i ≡ origin) × (after ≤ k) × (k < to)

-- the write that won among those of a history
pub record IsRegisterOf {Op : Type 0} (assigned : Op → Option Assignment) (state : Option Written) (log : History Op) (held : VersionVector) : Type 0 where
  pub cut : IsConsistentCut log held
  pub outcome : IsOutcome assigned log state (Held held)

-- the write that won among an origin's records
pub record IsWrittenBetween {Op : Type 0} (assigned : Op → Option Assignment) (delta : Written) (log : History Op) (origin after to : ℕ) : Type 0 where
  pub made_by : delta.writer ≡ origin
  pub rises : after < to
  pub winner : IsWinner assigned log delta (Between origin after to)
