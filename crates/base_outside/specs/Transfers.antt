-- What reading a source to its end and writing all of a text do.
use Rattle.std.specs.Prelude.{◌≡◌, ℕ, ◌<◌, ◌≤◌, List, length, take}
use Rattle.std.specs.Io.KnownBytes.{Appends, Consumes, IsAtEnd}
use Rattle.std.specs.declared.option.Option.{Option}

-- These bytes were read, and they are all there was.
pub record ReadsToEnd (old new : Option (List ℕ)) (bytes : List ℕ) : Type 0 where
  pub consumed : Consumes old new bytes
  pub at_end : IsAtEnd new

-- So many bytes were read.
abbrev pub ReadsCount : Option (List ℕ) → Option (List ℕ) → ℕ → Type 0
ReadsCount old new n = (bytes : List ℕ) × (length bytes ≡ n) × Consumes old new bytes

-- At most so many bytes were read.
abbrev pub ReadsUpTo : Option (List ℕ) → Option (List ℕ) → ℕ → Type 0
ReadsUpTo old new most = (n : ℕ) × (n ≤ most) × ReadsCount old new n

-- Some of the bytes at the front of the text were written, and not all.
abbrev pub AppendsPrefix : Option (List ℕ) → Option (List ℕ) → List ℕ → Type 0
AppendsPrefix old new text = (n : ℕ) × (n < length text) × Appends old new (take n text)
