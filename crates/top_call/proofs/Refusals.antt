-- What is due where no script is run, and for a run that ended.
use Rattle.std.proofs.Common.{◌≡◌, ℕ, List, String, Global, string_bytes, Some, refl, sym, subst}
use Rattle.member_keeper.specs.declared.keeper.Keeper.{Ghosts as Keeping}
use Rattle.script_reading.specs.declared.clients.Clients.{Clients}
use Rattle.script_reading.specs.declared.clients.Clients.TheVariants.{Refused}
use Rattle.script_reading.specs.declared.script.Script.{Script}
use Rattle.script_reading.specs.declared.read.ScriptError.{ScriptError}
use Rattle.script_reading.specs.declared.read.ScriptError.TheVariants as error
use Rattle.script_reading.specs.Reading.{Breaks, HasNoReading}
use Rattle.script_reading.specs.Refusals.{MatchError}
use Rattle.script_generated.specs.Generated.{generated_script}
use Rattle.report_lines.specs.Kept as kept
use Rattle.report_lines.specs.Kept.{IsPlayed}
use Rattle.report_lines.specs.declared.playing.Ending.{Ending}
use Rattle.report_lines.specs.declared.playing.Ending.TheVariants as ending
use Rattle.trace_judged.specs.Judgements.{IsJudgement}
use Rattle.trace_judged.specs.declared.judging.Judgement.{Judgement}
use Rattle.trace_judged.specs.declared.judging.Judgement.TheVariants as judged
use Rattle.top_call.specs.Answers.{HasScript, IsSummaryOver, IsReportBehind, IsOver, IsOfSource, Fulfils, FailsAt, AsksForRun}
use Rattle.top_call.specs.Asking.{Reads, reads_in}
use Rattle.top_call.specs.Behind as behind
use Rattle.top_call.specs.Checking.{IsJudgementDue, IsCheckDue}
use Rattle.top_call.specs.Due.{IsUnread, IsFaultDue, IsRefusal, IsRefusedFor, IsToldBy, IsScriptDue, IsDueFor}
use Rattle.top_call.specs.Passages.{Passage, ReadsWhole}
use Rattle.top_call.specs.Tracing.{HasTraced, IsTraceOver}
use Rattle.top_call.specs.Upgrading.{IsUpgradeDue}
use Rattle.top_call.specs.declared.due.Due.{Due}
use Rattle.top_call.specs.declared.due.Due.TheVariants.{Fulfilled, Upgraded, NotCleared, NotJson, NotAScript, NotAnEnvelope, NotATrace, NotLawful, ReadFailed, TooLong, Memory}
use Rattle.top_call.specs.declared.words.Asked.{Asked}
use Rattle.top_call.specs.declared.words.Asked.TheVariants.{Report, Generate, Summarize, Behind, Upgrade, Trace, Check}

module _ (reads : Reads) (read : Passage) where
  pub unread_refuses : (due : Due) → IsUnread read due → IsRefusal reads read due
  unread_refuses ReadFailed h = h
  unread_refuses TooLong h = h
  unread_refuses Memory h = h
  unread_refuses due h = absurd h

module _ (clients : Clients) (read : Passage) where
  pub fault_refuses : (bytes : List ℕ) → ReadsWhole read bytes → (e : ScriptError) (due : Due) → MatchError (HasNoReading bytes) (Breaks clients bytes) e → IsFaultDue e due → IsRefusal (Reads.AScript clients) read due
  fault_refuses bytes is_read error.NotJson NotJson why h = (bytes, is_read, why)
  fault_refuses bytes is_read error.NotJson Memory why h = tt
  fault_refuses bytes is_read error.NotJson due why h = absurd h
  fault_refuses bytes is_read (error.NotAScript step number) (NotAScript text) why h = (record { step = step; number = number }, (bytes, is_read, why), h)
  fault_refuses bytes is_read (error.NotAScript step number) Memory why h = tt
  fault_refuses bytes is_read (error.NotAScript step number) due why h = absurd h
  fault_refuses bytes is_read error.Memory Memory why h = tt
  fault_refuses bytes is_read error.Memory due why h = absurd h

module _ {K : Type 0} (keeping : Keeping K) where
  -- a refusal of what is read for what is asked is due, and leaves the keepers
  pub refusal_due : (asked : Asked) (reads : Reads) → reads_in asked ≡ Some reads → (read : Passage) (keepers : List K) (due : Due) → IsRefusal reads read due → IsDueFor keeping asked read keepers keepers due
  refusal_due asked reads is read keepers due h = go due h
    where
      refused : (due : Due) → IsRefusal reads read due → IsRefusedFor (reads_in asked) read keepers keepers due
      refused due h = subst (λ o. IsRefusedFor o read keepers keepers due) (sym is) (h, refl)

      go : (due : Due) → IsRefusal reads read due → IsDueFor keeping asked read keepers keepers due
      go NotJson h = refused NotJson h
      go (NotAScript text) h = refused (NotAScript text) h
      go (NotAnEnvelope text) h = refused (NotAnEnvelope text) h
      go (NotATrace text) h = refused (NotATrace text) h
      go (NotLawful text) h = refused (NotLawful text) h
      go ReadFailed h = refused ReadFailed h
      go TooLong h = refused TooLong h
      go Memory h = λ _. refl
      go due h = absurd h

  -- what is due for the bytes of a stored entry
  pub upgraded_due : (read : Passage) (bytes : List ℕ) (keepers : List K) (due : Due) → ReadsWhole read bytes → IsUpgradeDue bytes due → IsDueFor keeping Upgrade read keepers keepers due
  upgraded_due read bytes keepers (Upgraded text) is_read h = record { bytes = bytes; is_read = is_read; made = (h, refl) }
  upgraded_due read bytes keepers (NotAnEnvelope text) is_read h = ((h.0, (bytes, is_read, h.1), h.2), refl)
  upgraded_due read bytes keepers Memory is_read h = λ _. refl
  upgraded_due read bytes keepers due is_read h = absurd h

  -- what is due for what is said of a trace
  judged_due : (read : Passage) (bytes : List ℕ) (keepers : List K) (judgement : Judgement) (due : Due) → ReadsWhole read bytes → IsJudgement bytes judgement → IsJudgementDue judgement due → IsDueFor keeping Check read keepers keepers due
  judged_due read bytes keepers judgement Memory is_read is h = λ _. refl
  judged_due read bytes keepers judged.NotJson NotJson is_read is h = ((bytes, is_read, is), refl)
  judged_due read bytes keepers (judged.NotATrace line) (NotATrace text) is_read is h = ((line, (bytes, is_read, is), h), refl)
  judged_due read bytes keepers (judged.Broken line rule) (NotLawful text) is_read is h = ((line, rule, (bytes, is_read, is), h), refl)
  judged_due read bytes keepers judged.Lawful (Fulfilled text) is_read is h = record { bytes = bytes; is_read = is_read; made = (is, h, refl) }
  judged_due read bytes keepers judgement due is_read is h = absurd h

  -- what is due for the bytes of a trace
  pub checked_due : (read : Passage) (bytes : List ℕ) (keepers : List K) (due : Due) → ReadsWhole read bytes → IsCheckDue bytes due → IsDueFor keeping Check read keepers keepers due
  checked_due read bytes keepers Memory is_read h = λ _. refl
  checked_due read bytes keepers due is_read h = judged_due read bytes keepers h.0 due is_read h.1 h.2

  -- a run that ended is due, for what asks for one
  ended_due : (asked : Asked) (read : Passage) (before after : List K) (end : Ending) (due : Due) → AsksForRun asked read → ((text : String Global) → end ≡ ending.Told text → Fulfils keeping asked read before after (string_bytes text))
      → ((place : ℕ) → end ≡ ending.NotCleared place → FailsAt keeping asked place before after) → IsDueFor keeping asked read before after Memory → IsToldBy end due → IsDueFor keeping asked read before after due
  ended_due asked read before after (ending.Told text) (Fulfilled told) run fulfils fails none h = subst (λ t. Fulfils keeping asked read before after (string_bytes t)) (sym h) (fulfils text refl)
  ended_due asked read before after (ending.Told text) Memory run fulfils fails none h = none
  ended_due asked read before after (ending.Told text) due run fulfils fails none h = absurd h
  ended_due asked read before after (ending.NotCleared place) (NotCleared told) run fulfils fails none h = record { place = place; run = run; failed = fails place refl; told = h }
  ended_due asked read before after (ending.NotCleared place) Memory run fulfils fails none h = none
  ended_due asked read before after (ending.NotCleared place) due run fulfils fails none h = absurd h
  ended_due asked read before after ending.Memory Memory run fulfils fails none h = none
  ended_due asked read before after ending.Memory due run fulfils fails none h = absurd h

  -- how a run ended, by its text or the place that was not cleared
  module _ (IsOver : Script → List K → List K → List ℕ → Type 0) (script : Script) (before after : List K) (end : Ending) where
    told_so : kept.EndsSo keeping IsOver end script before after → (text : String Global) → end ≡ ending.Told text → IsOver script before after (string_bytes text)
    told_so ends text is = subst (λ e. kept.EndsSo keeping IsOver e script before after) is ends

    fails_so : kept.EndsSo keeping IsOver end script before after → (place : ℕ) → end ≡ ending.NotCleared place → kept.IsNotCleared keeping place before after
    fails_so ends place is = subst (λ e. kept.EndsSo keeping IsOver e script before after) is ends

    told_behind : behind.EndsSo keeping IsOver end script before after → (text : String Global) → end ≡ ending.Told text → IsOver script before after (string_bytes text)
    told_behind ends text is = subst (λ e. behind.EndsSo keeping IsOver e script before after) is ends

    fails_behind : behind.EndsSo keeping IsOver end script before after → (place : ℕ) → end ≡ ending.NotCleared place → behind.IsNotClearedBehind keeping place before after
    fails_behind ends place is = subst (λ e. behind.EndsSo keeping IsOver e script before after) is ends

  -- what tells of the script on the source
  of_script : (asked : Asked) (clients : Clients) (read : Passage) (script : Script) (before after : List K) (text : List ℕ) → HasScript clients read script → IsOver keeping asked script before after text → IsOfSource keeping asked (Reads.AScript clients) read before after text
  of_script asked clients read script before after text has reported =
      record { bytes = has.bytes; is_read = has.is_read; made = record { script = script; spelled = has.spelled; allowed = has.allowed; reported = reported } }

  -- the report of a script that was read
  pub played_due : (clients : Clients) (read : Passage) (script : Script) (before after : List K) (end : Ending) (due : Due) → HasScript clients read script → IsPlayed keeping (IsOver keeping (Report clients)) script before after end → IsToldBy end due → IsDueFor keeping (Report clients) read before after due
  played_due clients read script before after end due has played told =
      ended_due (Report clients) read before after end due (script, has)
      (λ text is. of_script (Report clients) clients read script before after (string_bytes text) has (told_so (IsOver keeping (Report clients)) script before after end played.ends text is))
      (fails_so (IsOver keeping (Report clients)) script before after end played.ends) (λ none. absurd none) told

  -- the same where its stores were written behind
  pub played_behind : (n : ℕ) (read : Passage) (script : Script) (before after : List K) (end : Ending) (due : Due) → HasScript Refused read script → behind.IsPlayedBehind keeping (IsReportBehind keeping) script before after end → IsToldBy end due → IsDueFor keeping (Behind n) read before after due
  played_behind n read script before after end due has played told =
      ended_due (Behind n) read before after end due (script, has)
      (λ text is. of_script (Behind n) Refused read script before after (string_bytes text) has (told_behind (IsReportBehind keeping) script before after end played.ends text is))
      (fails_behind (IsReportBehind keeping) script before after end played.ends) (λ none. absurd none) told

  -- the trace of a script that was read
  pub traced_due : (read : Passage) (script : Script) (before after : List K) (end : Ending) (due : Due) → HasTraced read script → IsPlayed keeping (IsTraceOver keeping) script before after end → IsToldBy end due → IsDueFor keeping Trace read before after due
  traced_due read script before after end due has played told =
      ended_due Trace read before after end due (script, has)
      (λ text is. record { bytes = has.bytes; is_read = has.is_read; made = record { script = script; spells = has.spells; traced = told_so (IsTraceOver keeping) script before after end played.ends text is } })
      (fails_so (IsTraceOver keeping) script before after end played.ends) (λ none. absurd none) told

  -- the end of a generated script's run
  pub summed_due : (n : ℕ) (read : Passage) (before after : List K) (end : Ending) (due : Due) → IsPlayed keeping (IsSummaryOver keeping) (generated_script n) before after end → IsToldBy end due → IsDueFor keeping (Summarize n) read before after due
  summed_due n read before after end due played told =
      ended_due (Summarize n) read before after end due tt (told_so (IsSummaryOver keeping) (generated_script n) before after end played.ends) (fails_so (IsSummaryOver keeping) (generated_script n) before after end played.ends) (λ none. absurd none) told

  -- a generated script
  pub generated_due : (n : ℕ) (read : Passage) (keepers : List K) (due : Due) → IsScriptDue n due → IsDueFor keeping (Generate n) read keepers keepers due
  generated_due n read keepers (Fulfilled text) h = (h, refl)
  generated_due n read keepers Memory h = λ _. refl
  generated_due n read keepers due h = absurd h
