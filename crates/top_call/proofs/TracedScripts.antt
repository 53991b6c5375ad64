-- What bytes call for where a script is read that is to be traced.
use Rattle.std.proofs.Common.{◌≡◌, ℕ, ◌+◌, ◌<◌, ◌≤◌, List, ◌∷◌, ◌++◌, length, get_or, length-append, arith, refl, ap, ◌∙◌}
use Rattle.std.proofs.lemmas.List.{get_or-append-add}
use Rattle.script_reading.specs.declared.clients.Clients.TheVariants.{Refused}
use Rattle.script_reading.specs.declared.clients.RunStep.{RunStep}
use Rattle.script_reading.specs.declared.clients.RunStep.TheVariants.{Plain}
use Rattle.script_reading.specs.declared.script.Script.{Script}
use Rattle.script_reading.specs.declared.script.Step.TheVariants.{Settle}
use Rattle.script_reading.specs.declared.fault.Rule.{Rule}
use Rattle.script_reading.specs.Reading.{HasNoReading}
use Rattle.trace_played.specs.Traced.{HasNoSettle}
use Rattle.top_call.specs.Passages.{limit}
use Rattle.top_call.specs.Tracing.{BreaksTraced, SpellsTraced, TracedCallsFor, BreaksTraced as breaks, TracedCallsFor as calls}
use Rattle.top_call.specs.declared.status.Status.{Status}
use Rattle.top_call.specs.declared.status.Status.TheVariants as status
use Rattle.top_call.proofs.SpelledScripts.{spells_json, breaks_json, spells_breaks, spells_one}

settled : (steps before rest : List RunStep) → HasNoSettle steps → steps ≡ before ++ Plain Settle ∷ rest → ⊥
settled steps before rest none is =
    let here : get_or (before ++ Plain Settle ∷ rest) (length before + 0) (Plain Settle) ≡ Plain Settle = get_or-append-add before (Plain Settle ∷ rest) 0 (Plain Settle) in
    let less : length before + 0 < length steps = let n = ap length is in let m = length-append before (Plain Settle ∷ rest) in omega (arith, n, m) in
    none (length before + 0) (Plain Settle) less (ap (λ ss. get_or ss (length before + 0) (Plain Settle)) is ∙ here)

module _ (bytes : List ℕ) where
  breaks_none : (script : Script) (broken : Rule) → SpellsTraced bytes script → BreaksTraced bytes broken → ⊥
  breaks_none script _ h (breaks.of_scripts broken k) = spells_breaks Refused bytes script broken h.spelled k
  breaks_none script _ h (breaks.settles other before rest k is none) = settled script.steps before rest h.unsettled (ap (λ (s : Script). s.steps) (spells_one Refused bytes script other h.spelled k) ∙ is)

  breaks_no_json : (broken : Rule) → BreaksTraced bytes broken → HasNoReading bytes → ⊥
  breaks_no_json _ (breaks.of_scripts broken k) none = breaks_json Refused bytes broken k none
  breaks_no_json _ (breaks.settles other before rest k is free) none = spells_json Refused bytes other k none

  pub traced_runs : (script : Script) (wanted : Status) → length bytes ≤ limit → SpellsTraced bytes script → TracedCallsFor bytes wanted → status.Done ≡ wanted
  traced_runs script _ within h (calls.done other short k) = refl
  traced_runs script _ within h (calls.not_json short k) = absurd (spells_json Refused bytes script h.spelled k)
  traced_runs script _ within h (calls.not_a_script broken short k) = absurd (breaks_none script broken h k)
  traced_runs script _ within h (calls.too_long long) = absurd (omega arith)

  pub no_traced_json : (wanted : Status) → length bytes ≤ limit → HasNoReading bytes → TracedCallsFor bytes wanted → status.NotJson ≡ wanted
  no_traced_json _ within h (calls.done script short k) = absurd (spells_json Refused bytes script k.spelled h)
  no_traced_json _ within h (calls.not_json short k) = refl
  no_traced_json _ within h (calls.not_a_script broken short k) = absurd (breaks_no_json broken k h)
  no_traced_json _ within h (calls.too_long long) = absurd (omega arith)

  pub traced_called : (broken : Rule) (wanted : Status) → length bytes ≤ limit → BreaksTraced bytes broken → TracedCallsFor bytes wanted → status.NotAScript ≡ wanted
  traced_called broken _ within h (calls.done script short k) = absurd (breaks_none script broken k h)
  traced_called broken _ within h (calls.not_json short k) = absurd (breaks_no_json broken h k)
  traced_called broken _ within h (calls.not_a_script other short k) = refl
  traced_called broken _ within h (calls.too_long long) = absurd (omega arith)

  pub long_traced_calls : (wanted : Status) → limit < length bytes → TracedCallsFor bytes wanted → status.TooLong ≡ wanted
  long_traced_calls _ more (calls.done script short k) = absurd (omega arith)
  long_traced_calls _ more (calls.not_json short k) = absurd (omega arith)
  long_traced_calls _ more (calls.not_a_script broken short k) = absurd (omega arith)
  long_traced_calls _ more (calls.too_long long) = refl
