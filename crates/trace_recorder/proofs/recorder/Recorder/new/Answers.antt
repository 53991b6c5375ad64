use Rattle.std.proofs.Common.{map, refl, ap}
use Rattle.trace_lines.specs.Meant.{line_meant}
use Rattle.trace_recorder.proofs.SawLaws.{counted_first}
use Rattle.trace_recorder.proofs.recorder.Recorder.new.Goals as goal

pub returns-clause-saw : goal.returns-clause-saw
returns-clause-saw c = record {
  keys = refl;
  lines = ap (map line_meant) c.new.ensures;
  counted = counted_first c.args.keys c.in_ok-rows.rows.items c.in_ok-rows.ensures.empty;
}
