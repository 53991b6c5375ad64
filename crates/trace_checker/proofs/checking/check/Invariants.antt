use Rattle.std.proofs.Common.{◌≡◌, length, vec_len}
use Rattle.model_kinds.specs.SixKinds.{six_kinds}
use Rattle.model_kinds.specs.ShownText.{shown_text}
use Rattle.model_kinds.specs.declared.operation.Op.{Op}
use Rattle.model_traces.specs.Traces.{TraceState, verdict}
use Rattle.trace_lines.specs.Meant.{trace_meant}
use Rattle.trace_checker.specs.Standing.{StandFor}
use Rattle.trace_checker.proofs.Judging.{said}
use Rattle.trace_checker.proofs.checking.check.Given as goal

abbrev pub invariant-loop-place : goal.invariant-loop-place
invariant-loop-place l =
    (vec_len l.codes ≡ length l.trace.keys)
    × ((state : TraceState Op) × StandFor l.trace.keys l.codes.items state × (said l.trace.keys state l.trace.lines l.place ≡ verdict six_kinds shown_text (trace_meant l.trace)))
