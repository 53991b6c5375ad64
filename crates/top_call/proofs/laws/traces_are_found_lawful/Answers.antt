use Rattle.model_kinds.specs.SixKinds.{six_kinds}
use Rattle.model_kinds.specs.ShownText.{shown_text}
use Rattle.model_traces.proofs.Judging.{verdict_lawful}
use Rattle.trace_lines.specs.Meant.{trace_meant}
use Rattle.top_call.proofs.laws.traces_are_found_lawful.Goals as goal

pub returns : goal.returns
returns c = λ answers script text is. (is.trace, is.spelled, (verdict_lawful six_kinds shown_text (trace_meant is.trace)).1 is.lawful)
