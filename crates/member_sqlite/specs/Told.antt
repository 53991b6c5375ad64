-- What is told of an error of the database where a file is opened.
use Rattle.sqlite.specs.declared.error.Error.{Error}
use Rattle.sqlite.specs.declared.error.Error.TheVariants.{SqliteFailure, SqlInputError}
use Rattle.sqlite.specs.declared.error.ErrorCode.TheVariants as code
use Rattle.sqlite_resolve.specs.declared.error.CompileError.TheVariants as compile
use Rattle.member_sqlite.specs.declared.told.OpenError.{OpenError}
use Rattle.member_sqlite.specs.declared.told.OpenError.TheVariants.{Locked, Damaged, OtherVersion, Full, CannotOpen, Disk, Memory}

abbrev pub told : Error → OpenError
told (SqliteFailure code.DatabaseBusy) = Locked
told (SqliteFailure code.DiskFull) = Full
told (SqliteFailure code.CannotOpen) = CannotOpen
told (SqliteFailure code.SystemIoFailure) = Disk
told (SqliteFailure code.Closed) = Disk
told (SqliteFailure code.OutOfMemory) = Memory
told (SqlInputError compile.OutOfMemory) = Memory
told (SqlInputError _) = OtherVersion
told _ = Damaged
