-- Which scripts on a source are traced, and what is due in place of the others.
use Rattle.std.proofs.Common.{◌≡◌, ◌≢◌, ℕ, ◌+◌, ◌<◌, List, ◌∷◌, ◌++◌, length, take, drop, get_or, sym, ap, subst, ◌∙◌, arith, refl, true, false}
use Rattle.std.proofs.lemmas.List.{take-append-drop, drop_more, length-take-le}
use Rattle.std.proofs.lemmas.List.Elements.{All-more}
use Rattle.script_reading.specs.declared.clients.Clients.TheVariants.{Refused}
use Rattle.script_reading.specs.declared.clients.RunStep.{RunStep}
use Rattle.script_reading.specs.declared.clients.RunStep.TheVariants.{Plain, Threads, Subscribe, Unsubscribe}
use Rattle.script_reading.specs.declared.script.Script.{Script}
use Rattle.script_reading.specs.declared.script.Step.TheVariants.{Settle}
use Rattle.script_reading.specs.declared.script.Step.TheVariants as form
use Rattle.trace_played.specs.Traced.{HasNoSettle}
use Rattle.top_call.specs.Answers.{HasScript}
use Rattle.top_call.specs.Asking.{Reads}
use Rattle.top_call.specs.Due.{IsRefusal}
use Rattle.top_call.specs.Passages.{Passage}
use Rattle.top_call.specs.Tracing.{BreaksTraced, HasTraced, IsSettleAt, IsSettleDue, is_a_settle, settle_rule, BreaksTraced as breaks}
use Rattle.top_call.specs.declared.due.Due.{Due}
use Rattle.top_call.specs.declared.due.Due.TheVariants.{NotJson, NotAScript, ReadFailed, TooLong, Memory}

-- THE FIRST SETTLE

settle_is : (s : RunStep) → is_a_settle s ≡ true → s ≡ Plain Settle
settle_is (Plain Settle) e = refl
settle_is (Plain (form.Ask at ask)) e = absurd (cc e)
settle_is (Plain (form.Deliver from to index)) e = absurd (cc e)
settle_is (Plain (form.Lose from to)) e = absurd (cc e)
settle_is (Plain form.Round) e = absurd (cc e)
settle_is (Plain (form.Timeout at op)) e = absurd (cc e)
settle_is (Plain (form.Remove id)) e = absurd (cc e)
settle_is (Plain (form.Join place)) e = absurd (cc e)
settle_is (Plain (form.Restart id)) e = absurd (cc e)
settle_is (Threads clients) e = absurd (cc e)
settle_is (Subscribe at client key) e = absurd (cc e)
settle_is (Unsubscribe at client key) e = absurd (cc e)

module _ (steps : List RunStep) (i : ℕ) (step : RunStep) (here : i < length steps) (is : step ≡ get_or steps i step) where
  -- one step more is none
  pub none_more : is_a_settle step ≡ false → HasNoSettle (take i steps) → HasNoSettle (take (i + 1) steps)
  none_more other none = All-more (λ (s : RunStep). s ≢ Plain Settle) steps i step here none (λ same. absurd (let e = sym other ∙ ap is_a_settle (is ∙ same) in cc e))

  pub settle_at : is_a_settle step ≡ true → HasNoSettle (take i steps) → IsSettleAt steps (i + 1)
  settle_at settle none = record {
    before = take i steps;
    rest = drop (i + 1) steps;
    are = sym (take-append-drop i steps) ∙ ap (λ rest. take i steps ++ rest) (drop_more steps i step here ∙ ap (λ s. s ∷ drop (i + 1) steps) (sym is ∙ settle_is step settle));
    none = none;
    numbered = ap (λ n. n + 1) (sym (length-take-le i steps (omega (arith, here))));
  }

-- REFUSALS

module _ (read : Passage) where
  -- what is no script is none that is traced
  pub script_refuses : (due : Due) → IsRefusal (Reads.AScript Refused) read due → IsRefusal Reads.AnUnsettledScript read due
  script_refuses NotJson h = h
  script_refuses (NotAScript text) h = (h.0, (h.1.0, h.1.1, breaks.of_scripts h.0 h.1.2), h.2)
  script_refuses ReadFailed h = h
  script_refuses TooLong h = h
  script_refuses Memory h = h
  script_refuses due h = absurd h

  module _ (script : Script) (has : HasScript Refused read script) where
    pub settle_refuses : (step : ℕ) (due : Due) → IsSettleAt script.steps step → IsSettleDue step due → IsRefusal Reads.AnUnsettledScript read due
    settle_refuses step Memory at h = tt
    settle_refuses step (NotAScript text) at h =
        (settle_rule step, (has.bytes, has.is_read, subst (λ n. BreaksTraced has.bytes (settle_rule n)) (sym at.numbered) (breaks.settles script at.before at.rest has.spelled at.are at.none)), h)
    settle_refuses step due at h = absurd h

    pub is_traced : HasNoSettle script.steps → HasTraced read script
    is_traced none = record { bytes = has.bytes; is_read = has.is_read; spells = record { spelled = has.spelled; plain = has.allowed; unsettled = none } }
