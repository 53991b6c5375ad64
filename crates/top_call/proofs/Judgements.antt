-- Of the bytes of a trace one thing is to be said, so they call for one status.
use Rattle.std.proofs.Common.{◌≡◌, ◌<◌, ◌≤◌, List, ℕ, length, arith, refl, ap}
use Rattle.trace_judged.specs.Judgements.{IsJudgement}
use Rattle.trace_judged.specs.declared.judging.Judgement.{Judgement}
use Rattle.trace_judged.proofs.Once.{judged_once}
use Rattle.top_call.specs.Passages.{limit}
use Rattle.top_call.specs.Checking.{IsJudgementDue, IsCheckDue, TraceCallsFor, judgement_status, TraceCallsFor as calls}
use Rattle.top_call.specs.declared.due.Due.{Due}
use Rattle.top_call.specs.declared.due.Due.TheVariants.{Memory}
use Rattle.top_call.specs.declared.status.Status.{Status}
use Rattle.top_call.specs.declared.status.Status.TheVariants as status

module _ (bytes : List ℕ) where
  pub trace_calls : (judgement : Judgement) (wanted : Status) → length bytes ≤ limit → IsJudgement bytes judgement → TraceCallsFor bytes wanted → judgement_status judgement ≡ wanted
  trace_calls judgement _ within is (calls.told other short so) = ap judgement_status (judged_once bytes judgement other is so)
  trace_calls judgement _ within is (calls.too_long long) = absurd (omega arith)

  pub long_trace_calls : (wanted : Status) → limit < length bytes → TraceCallsFor bytes wanted → status.TooLong ≡ wanted
  long_trace_calls _ more (calls.told judgement short is) = absurd (omega arith)
  long_trace_calls _ more (calls.too_long long) = refl

  -- what is due for what is said of bytes is due for them
  pub said_due : (judgement : Judgement) (due : Due) → IsJudgement bytes judgement → IsJudgementDue judgement due → IsCheckDue bytes due
  said_due judgement Memory is h = tt
  said_due judgement due is h = (judgement, is, h)
