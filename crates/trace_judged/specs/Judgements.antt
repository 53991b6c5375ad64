-- What is to be said of bytes as a trace.
use Rattle.std.specs.Prelude.{◌≡◌, ℕ, List}
use Rattle.model_kinds.specs.SixKinds.{six_kinds}
use Rattle.model_kinds.specs.ShownText.{shown_text}
use Rattle.model_traces.specs.Traces as model
use Rattle.trace_lines.specs.declared.trace.Trace.{Trace}
use Rattle.trace_lines.specs.Meant.{trace_meant}
use Rattle.trace_text.specs.Reading.{Spells, Breaks, HasNoReading}
use Rattle.trace_judged.specs.declared.judging.Judgement.{Judgement}
use Rattle.trace_judged.specs.declared.judging.Judgement.TheVariants.{NotJson, NotATrace, Broken, Lawful}

-- the bytes spell a trace of which this is the verdict
abbrev pub SpellsOne : List ℕ → model.Verdict → Type 0
SpellsOne bytes verdict = (trace : Trace) × Spells bytes trace × (model.verdict six_kinds shown_text (trace_meant trace) ≡ verdict)

-- they are no JSON text; this is the first line that has not its form; the first that breaks a rule, with the least that it breaks; no line breaks one
abbrev pub IsJudgement : List ℕ → Judgement → Type 0
IsJudgement bytes NotJson = HasNoReading bytes
IsJudgement bytes (NotATrace line) = Breaks bytes line
IsJudgement bytes (Broken line rule) = SpellsOne bytes (model.Verdict.Broken line rule)
IsJudgement bytes Lawful = SpellsOne bytes model.Verdict.Lawful
