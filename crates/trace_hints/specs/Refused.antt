-- What a hint is told of.
use Rattle.std.specs.Prelude.{ℕ, List, ◌⊎◌}
use Rattle.trace_judged.specs.Judgements.{IsJudgement}
use Rattle.trace_judged.specs.declared.judging.Judgement.TheVariants.{NotATrace, Broken}

-- these bytes are a JSON text that is no trace, or a trace of which a line breaks a rule
abbrev pub IsRefused : List ℕ → Type 0
IsRefused bytes = ((line : ℕ) × IsJudgement bytes (NotATrace line)) ⊎ ((line : ℕ) × (rule : ℕ) × IsJudgement bytes (Broken line rule))
