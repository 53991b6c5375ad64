-- Why the answering of lines stops, where a line is not read.
use Rattle.base_outside.specs.declared.transfer.ReadAllError.{ReadAllError}
use Rattle.base_outside.specs.declared.transfer.ReadAllError.TheVariants as error
use Rattle.top_lines.specs.declared.stopped.Stopped.{Stopped}
use Rattle.top_lines.specs.declared.stopped.Stopped.TheVariants.{ReadFailed, TooLong, Memory}

abbrev pub stopped_by : ReadAllError → Stopped
stopped_by error.ReadFailed = ReadFailed
stopped_by error.TooLong = TooLong
stopped_by error.Memory = Memory
