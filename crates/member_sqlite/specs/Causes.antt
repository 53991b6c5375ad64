-- Which refusals of the database are want of memory, and what a keeper answers to a refusal.
use Rattle.std.specs.Prelude.{◌≡◌, ◌↔◌, Result, Ok, Err}
use Rattle.sqlite.specs.declared.error.Error.{Error}
use Rattle.sqlite.specs.declared.error.Error.TheVariants.{SqliteFailure, SqlInputError}
use Rattle.sqlite.specs.declared.error.ErrorCode.TheVariants as code
use Rattle.sqlite_resolve.specs.declared.error.CompileError.TheVariants as compile
use Rattle.member_keeper.specs.declared.keeper.KeeperError.{KeeperError}
use Rattle.member_keeper.specs.declared.keeper.KeeperError.TheVariants.{Failed, Memory}
use Rattle.member_sqlite.specs.declared.causes.Refusal.{Refusal}
use Rattle.member_sqlite.specs.declared.causes.Refusal.TheVariants as refusal

-- the database had no memory for the statement or for its plan
abbrev pub IsWantOfMemory : Error → Type 0
IsWantOfMemory (SqliteFailure code.OutOfMemory) = Unit {0}
IsWantOfMemory (SqlInputError compile.OutOfMemory) = Unit {0}
IsWantOfMemory _ = ⊥

-- this is told of the error: want of memory, or any other cause
abbrev pub IsToldAs : Error → Refusal → Type 0
IsToldAs error why = (why ≡ refusal.Memory) ↔ IsWantOfMemory error

-- every other refusal is a failure
abbrev pub answer_to : Result (Unit {0}) Refusal → Result (Unit {0}) KeeperError
answer_to (Ok done) = Ok done
answer_to (Err refusal.Memory) = Err Memory
answer_to (Err refusal.Other) = Err Failed
