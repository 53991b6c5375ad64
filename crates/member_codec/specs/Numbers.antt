-- The numbers of a group and digests as bytes: their one spelling, and how they are read.
use Rattle.std.specs.Prelude.{◌≡◌, ℕ, ◌<◌, ◌≤◌, ◌^◌, List, ◌++◌, length, take, drop, ◌&&◌, nat_lt, nat_le, Result, Ok}
use Rattle.base_bytes.specs.declared.fault.Fault.{Fault}
use Rattle.base_bytes.specs.Fields.{◌>>=◌, kept, enough, number_in}
use Rattle.base_bytes.specs.Spelling.{number_spelled, AreBytes}

-- a number of records, and a greater one
abbrev pub span_spelled : ℕ × ℕ → List ℕ
span_spelled span = number_spelled span.0 ++ number_spelled span.1

pub record IsSpan (span : ℕ × ℕ) : Type 0 where
  pub rises : span.0 < span.1
  pub small : span.1 ≤ 2 ^ 62

unfoldable pub span_in : List ℕ → Result ((ℕ × ℕ) × List ℕ) Fault
span_in bytes = do
  after ← number_in bytes
  upto ← number_in after.1
  _ ← kept (nat_lt after.0 upto.0 && nat_le upto.0 (2 ^ 62)) (length after.1)
  Ok ((after.0, upto.0), upto.1)

-- 20 bytes
abbrev pub digest_spelled : List ℕ → List ℕ
digest_spelled digest = digest

pub record IsDigest (digest : List ℕ) : Type 0 where
  pub long : length digest ≡ 20
  pub bytes : AreBytes digest

unfoldable pub digest_in : List ℕ → Result (List ℕ × List ℕ) Fault
digest_in bytes = do
  _ ← enough 20 bytes
  Ok (take 20 bytes, drop 20 bytes)
