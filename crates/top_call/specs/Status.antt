-- The numbers of the statuses.
use Rattle.std.specs.Prelude.{ℕ}
use Rattle.top_call.specs.declared.status.Status.{Status}
use Rattle.top_call.specs.declared.status.Status.TheVariants.{Done, Usage, NotJson, NotAScript, ReadFailed, WriteFailed, TooLong, Memory, ClearFailed, NotAnEnvelope, NotATrace, Broken}

abbrev pub code_of : Status → ℕ
code_of Done = 0
code_of Usage = 1
code_of NotJson = 2
code_of NotAScript = 3
code_of ReadFailed = 4
code_of WriteFailed = 5
code_of TooLong = 6
code_of Memory = 7
code_of ClearFailed = 8
code_of NotAnEnvelope = 9
code_of NotATrace = 10
code_of Broken = 11
