-- Sources and sinks in memory, which fail at the calls that are named.
use Rattle.std.specs.Prelude.{ℕ, List, ◌++◌, length, drop, min}
use Rattle.base_outside.specs.Causes.{raised}

-- A source: the bytes left, at most how many a call moves, and the numbers of the calls that fail.
pub record Reading : Type 0 where
  pub left : List ℕ
  pub piece : ℕ
  pub failing : List ℕ
  pub calls : ℕ
  pub faults : ℕ

-- A sink: the bytes written, and the same.
pub record Writing : Type 0 where
  pub written : List ℕ
  pub piece : ℕ
  pub failing : List ℕ
  pub calls : ℕ
  pub faults : ℕ

-- a call that fails
abbrev pub failed_read : Reading → Reading
failed_read s = record s { calls = raised s.calls; faults = raised s.faults }

abbrev pub failed_write : Writing → Writing
failed_write s = record s { calls = raised s.calls; faults = raised s.faults }

-- a call that moves n bytes
abbrev pub after_read : Reading → ℕ → Reading
after_read s n = record s { left = drop n s.left; calls = raised s.calls }

abbrev pub after_write : Writing → List ℕ → Writing
after_write s bytes = record s { written = s.written ++ bytes; calls = raised s.calls }

-- how many bytes a call moves into room for so many
abbrev pub read_count : Reading → ℕ → ℕ
read_count s room = min s.piece (min room (length s.left))

abbrev pub write_count : Writing → List ℕ → ℕ
write_count s from = min s.piece (length from)
