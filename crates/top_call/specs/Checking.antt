-- Traces on a source: what is to be said of them, and what is due for it.
--     judgement_text, judgement_status         what is written, and the status
--     HasJudgement         the source was read to its end, and this is to be said of its bytes
--     IsCheckDue         what is due for bytes
--     TraceCallsFor         the status that they call for
use Rattle.std.specs.Prelude.{◌≡◌, ℕ, ◌<◌, ◌≤◌, List, ◌++◌, length, codes, decimal, string_bytes}
use Rattle.trace_judged.specs.Judgements.{IsJudgement}
use Rattle.trace_judged.specs.declared.judging.Judgement.{Judgement}
use Rattle.trace_judged.specs.declared.judging.Judgement.TheVariants as judged
use Rattle.top_call.specs.Passages.{Passage, ReadsWhole, limit}
use Rattle.top_call.specs.declared.due.Due.{Due}
use Rattle.top_call.specs.declared.due.Due.TheVariants.{Fulfilled, NotJson, NotATrace, NotLawful, Memory}
use Rattle.top_call.specs.declared.status.Status.{Status}
use Rattle.top_call.specs.declared.status.Status.TheVariants as status

-- what is written of a trace
abbrev pub judgement_text : Judgement → List ℕ
judgement_text judged.NotJson = codes "not json\n"
judgement_text (judged.NotATrace line) = codes "not a trace: line " ++ decimal line ++ codes "\n"
judgement_text (judged.Broken line rule) = codes "broken: line " ++ decimal line ++ codes " rule " ++ decimal rule ++ codes "\n"
judgement_text judged.Lawful = codes "lawful\n"

abbrev pub judgement_status : Judgement → Status
judgement_status judged.NotJson = status.NotJson
judgement_status (judged.NotATrace line) = status.NotATrace
judgement_status (judged.Broken line rule) = status.Broken
judgement_status judged.Lawful = status.Done

-- The source was read to its end, and this is to be said of its bytes.
abbrev pub HasJudgement : Passage → Judgement → Type 0
HasJudgement read judgement = (bytes : List ℕ) × ReadsWhole read bytes × IsJudgement bytes judgement

-- What is due for what is said of bytes, unless memory was refused.
abbrev pub IsJudgementDue : Judgement → Due → Type 0
IsJudgementDue judgement Memory = Unit {0}
IsJudgementDue judged.NotJson NotJson = Unit {0}
IsJudgementDue (judged.NotATrace line) (NotATrace text) = string_bytes text ≡ judgement_text (judged.NotATrace line)
IsJudgementDue (judged.Broken line rule) (NotLawful text) = string_bytes text ≡ judgement_text (judged.Broken line rule)
IsJudgementDue judged.Lawful (Fulfilled text) = string_bytes text ≡ judgement_text judged.Lawful
IsJudgementDue judgement due = ⊥

-- What is due for the bytes of a trace, unless memory was refused.
abbrev pub IsCheckDue : List ℕ → Due → Type 0
IsCheckDue bytes Memory = Unit {0}
IsCheckDue bytes due = (judgement : Judgement) × IsJudgement bytes judgement × IsJudgementDue judgement due

-- The status that the bytes of a source call for, where a trace is read from it.
pub data TraceCallsFor (bytes : List ℕ) : Status → Type 0 where
  told : (judgement : Judgement) → length bytes ≤ limit → IsJudgement bytes judgement → TraceCallsFor bytes (judgement_status judgement)
  too_long : limit < length bytes → TraceCallsFor bytes status.TooLong
