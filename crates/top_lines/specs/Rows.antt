-- The lines of a source, each ended by a byte 10.
use Rattle.std.specs.Prelude.{◌≡◌, ◌≢◌, ℕ, List, [], ◌∷◌, All, Option, Some, None, Result, Vec, Ok, Err}
use Rattle.std.specs.declared.alloc.Global.{Global}
use Rattle.std.specs.Io.KnownBytes.{Consumes, Keeps, IsAtEnd}
use Rattle.model_members.specs.Report.{line_of}
use Rattle.base_outside.specs.declared.traits.Failed.{Failed}
use Rattle.base_outside.specs.declared.transfer.ReadAllError.{ReadAllError}

-- the next byte was read, or the end was reached
abbrev pub ReadsByte : Option (List ℕ) → Option (List ℕ) → Result (Option ℕ) Failed → Type 0
ReadsByte old new (Ok (Some byte)) = Consumes old new (byte ∷ [])
ReadsByte old new (Ok None) = Consumes old new [] × IsAtEnd new
ReadsByte old new (Err failed) = Keeps old new

-- the byte that ends a line is not in it
abbrev pub IsOneLine : List ℕ → Type 0
IsOneLine line = All (λ byte. byte ≢ 10) line

-- a line was read, and what ends it
abbrev pub ReadsLine : Option (List ℕ) → Option (List ℕ) → List ℕ → Type 0
ReadsLine old new line = IsOneLine line × Consumes old new (line_of line)

-- some bytes were read, and none that ends a line
abbrev pub ReadsPart : Option (List ℕ) → Option (List ℕ) → Type 0
ReadsPart old new = (part : List ℕ) × IsOneLine part × Consumes old new part

-- the next line was read, or the end was reached without one, or a part of one was read
abbrev pub ReadsNext : Option (List ℕ) → Option (List ℕ) → Result (Option (Vec ℕ Global)) ReadAllError → Type 0
ReadsNext old new (Ok (Some line)) = ReadsLine old new line.items
ReadsNext old new (Ok None) = ReadsPart old new × IsAtEnd new
ReadsNext old new (Err error) = ReadsPart old new
