-- What a trace of the program is as one of the model.
use Rattle.std.specs.Prelude.{map}
use Rattle.model_history.specs.History.Action.{Operation, Prune}
use Rattle.model_kinds.specs.declared.kind.Kind.{Kind}
use Rattle.model_kinds.specs.declared.operation.Op.{Op}
use Rattle.base_vectors.specs.Vectors.{number_at}
use Rattle.script_reading.specs.declared.script.ScriptKey.{ScriptKey}
use Rattle.model_members.specs.Node.{KeyDecl}
use Rattle.model_traces.specs.Traces as model
use Rattle.model_traces.specs.Traces.Act.{Records, Holds, Shows}
use Rattle.trace_lines.specs.declared.trace.TraceAct.{TraceAct}
use Rattle.trace_lines.specs.declared.trace.TraceAct.TheVariants as act
use Rattle.trace_lines.specs.declared.trace.TraceLine.{TraceLine}
use Rattle.trace_lines.specs.declared.trace.Trace.{Trace}

abbrev pub act_meant : TraceAct → model.Act Op
act_meant (act.Record op) = Records (Operation op)
act_meant (act.Prune id) = Records (Prune id)
act_meant (act.Hold known) = Holds (number_at known)
act_meant (act.Show text) = Shows text

abbrev pub line_meant : TraceLine → model.TraceLine Op
line_meant line = record { member = line.at; key = line.key; act = act_meant line.act }

abbrev pub key_meant : ScriptKey → KeyDecl Kind
key_meant key = record { name = key.key; kind = key.kind; durable = key.durable }

abbrev pub trace_meant : Trace → model.Trace Kind Op
trace_meant trace = record { keys = map key_meant trace.keys; lines = map line_meant trace.lines }
