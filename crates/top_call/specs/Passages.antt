-- What a call found and left at its source, its sink and its keepers.
use Rattle.std.specs.Prelude.{ℕ, ◌≤◌, List, length, Option}
use Rattle.base_outside.specs.Transfers.{ReadsToEnd}
use Rattle.base_outside.specs.declared.traits.Source.{Ghosts as Sourcing}
use Rattle.base_outside.specs.declared.traits.Sink.{Ghosts as Sinking}

-- The bytes that a source had left, or that a sink had taken, before a call and after it, where they are told; and its counts of faults.
pub record Passage : Type 0 where
  pub old : Option (List ℕ)
  pub new : Option (List ℕ)
  pub faults : ℕ
  pub now : ℕ

-- the most bytes that are read
abbrev pub limit : ℕ
limit = 8388608

-- The source was read to its end, and that were these bytes, not more than are read.
pub record ReadsWhole (read : Passage) (bytes : List ℕ) : Type 0 where
  pub whole : ReadsToEnd read.old read.new bytes
  pub within : length bytes ≤ limit

-- of a source, before a call and after it
abbrev pub reading : {S : Type 0} → Sourcing S → (source left : S) → Passage
reading sourcing source left = record { old = sourcing.left source; new = sourcing.left left; faults = sourcing.faults source; now = sourcing.faults left }

-- of a sink
abbrev pub writing : {W : Type 0} → Sinking W → (sink filled : W) → Passage
writing sinking sink filled = record { old = sinking.written sink; new = sinking.written filled; faults = sinking.faults sink; now = sinking.faults filled }

-- What went through a call.
pub record Traffic (K : Type 0) : Type 0 where
  pub read : Passage
  pub written : Passage
  pub before : List K
  pub after : List K

abbrev pub traffic : {S W K : Type 0} → Sourcing S → Sinking W → (source left : S) → (sink filled : W) → (before after : List K) → Traffic K
traffic sourcing sinking source left sink filled before after = record { read = reading sourcing source left; written = writing sinking sink filled; before = before; after = after }
