-- What is due, and what is written and told of it, is what a call that serves words promises.
use Rattle.std.proofs.Common.{◌≡◌, ℕ, zero, suc, ◌+◌, ◌<◌, ◌≤◌, ◌⊎◌, inl, inr, List, [], ◌∷◌, ◌++◌, length, length-append, append-nil, String, Global, string_bytes, arith, refl, sym, ap, subst, ◌∙◌, None, Some}
use Rattle.std.specs.Prelude.{◌↔◌, codes, slice_get}
use Rattle.std.proofs.lemmas.Option.{none-some, same_Some}
use Rattle.std.specs.Io.KnownBytes.{Appends, Consumes}
use Rattle.std.specs.declared.option.Option.{Option}
use Rattle.base_outside.specs.Causes.{Rose}
use Rattle.base_outside.specs.Transfers.{ReadsToEnd, ReadsUpTo, AppendsPrefix}
use Rattle.member_keeper.specs.declared.keeper.Keeper.{Ghosts as Keeping}
use Rattle.script_reading.specs.declared.clients.Clients.{Clients}
use Rattle.script_reading.specs.declared.script.Script.{Script}
use Rattle.script_reading.specs.declared.fault.Rule.{Rule}
use Rattle.script_reading.specs.Reading.{Spells, Breaks, HasNoReading}
use Rattle.report_lines.specs.Kept.{AreKept}
use Rattle.trace_judged.specs.declared.judging.Judgement.{Judgement}
use Rattle.trace_judged.specs.declared.judging.Judgement.TheVariants as judged
use Rattle.top_call.specs.Answers.{Fulfils, IsOfBytes, IsOfSource, IsOfTold, HasNoJson, TellsRule, TellsPlace, TellsLine, TellsBroken, IsTooLong, FailsAt, CannotClear, SomeRose, IsTextDue, ScriptCallsFor, CallsFor, IsUnlessRefused, ScriptCallsFor as calls, IsTextDue as text_of}
use Rattle.top_call.specs.Asking.{Reads, RunsNothing, IsAsked, AskNothing, AskToRead, AskToReadNothing, ReadsNothing, reads_in}
use Rattle.top_call.specs.Behind.{untold}
use Rattle.top_call.specs.Checking.{HasJudgement, judgement_status}
use Rattle.top_call.specs.Due.{IsDueFor, IsDue, IsRefusal, IsRefusedFor, ComeBack, IsWritten, status_due, text_due}
use Rattle.top_call.specs.Passages.{Passage, Traffic, ReadsWhole, limit}
use Rattle.top_call.specs.Serving.{Refuses, Cause, IsDone, Answers, Returns}
use Rattle.top_call.specs.declared.due.Due.{Due}
use Rattle.top_call.specs.declared.due.Due.TheVariants.{Fulfilled, Upgraded, NotCleared, BadWords, NotJson, NotAScript, NotAnEnvelope, NotATrace, NotLawful, ReadFailed, TooLong, Memory}
use Rattle.top_call.specs.declared.status.Status.{Status}
use Rattle.top_call.specs.declared.status.Status.TheVariants as status
use Rattle.top_call.specs.declared.words.Asked.{Asked}
use Rattle.top_call.specs.declared.words.Asked.TheVariants.{Report, Generate, Summarize, Behind, Upgrade, Trace, Check}
use Rattle.top_call.specs.Tracing.{TracedCallsFor}
use Rattle.top_call.proofs.SpelledScripts.{spells_json, breaks_json, spells_breaks}
use Rattle.top_call.proofs.TracedScripts.{traced_runs, no_traced_json, traced_called, long_traced_calls}
use Rattle.top_call.proofs.Judgements.{trace_calls, long_trace_calls}
use Rattle.top_call.proofs.Entries.{entry_calls, no_entry_calls, length_calls}

-- WHAT WAS READ

-- what a source that tells its bytes gave to its end
all_read : (bytes read : List ℕ) (new : Option (List ℕ)) → ReadsToEnd (Some bytes) new read → read ≡ bytes
all_read bytes read None h = absurd h.consumed
all_read bytes read (Some rest) h = sym (h.consumed ∙ ap (λ l. read ++ l) h.at_end ∙ append-nil read)

-- more was read than a script may have, so there was more
more_read : (bytes read : List ℕ) (new : Option (List ℕ)) → Consumes (Some bytes) new read → length read ≡ limit + 1 → limit < length bytes
more_read bytes read None h long = absurd h
more_read bytes read (Some rest) h long = rw h (omega (arith, long, length-append read rest))

-- what it has left at its end
none_left : (bytes read : List ℕ) (new : Option (List ℕ)) → ReadsToEnd (Some bytes) new read → new ≡ Some []
none_left bytes read None h = absurd h.consumed
none_left bytes read (Some rest) h = ap Some h.at_end

grown : (before text : List ℕ) (new : Option (List ℕ)) → Appends (Some before) new text → new ≡ Some (before ++ text)
grown before text None h = absurd h
grown before text (Some all) h = ap Some h

-- WHAT BYTES CALL FOR

module _ (clients : Clients) (bytes : List ℕ) where
  -- what status a script calls for
  script_runs : (script : Script) (wanted : Status) → length bytes ≤ limit → Spells clients bytes script → ScriptCallsFor clients bytes wanted → status.Done ≡ wanted
  script_runs script _ within h (calls.done other short k) = refl
  script_runs script _ within h (calls.not_json short k) = absurd (spells_json clients bytes script h k)
  script_runs script _ within h (calls.not_a_script rule short k) = absurd (spells_breaks clients bytes script rule h k)
  script_runs script _ within h (calls.too_long long) = absurd (omega arith)

  json_called : (wanted : Status) → length bytes ≤ limit → HasNoReading bytes → ScriptCallsFor clients bytes wanted → status.NotJson ≡ wanted
  json_called _ within h (calls.done script short k) = absurd (spells_json clients bytes script k h)
  json_called _ within h (calls.not_json short k) = refl
  json_called _ within h (calls.not_a_script rule short k) = absurd (breaks_json clients bytes rule k h)
  json_called _ within h (calls.too_long long) = absurd (omega arith)

  script_called : (rule : Rule) (wanted : Status) → length bytes ≤ limit → Breaks clients bytes rule → ScriptCallsFor clients bytes wanted → status.NotAScript ≡ wanted
  script_called rule _ within h (calls.done script short k) = absurd (spells_breaks clients bytes script rule k h)
  script_called rule _ within h (calls.not_json short k) = absurd (breaks_json clients bytes rule h k)
  script_called rule _ within h (calls.not_a_script other short k) = refl
  script_called rule _ within h (calls.too_long long) = absurd (omega arith)

  length_called : (wanted : Status) → limit < length bytes → ScriptCallsFor clients bytes wanted → status.TooLong ≡ wanted
  length_called _ more (calls.done script short k) = absurd (omega arith)
  length_called _ more (calls.not_json short k) = absurd (omega arith)
  length_called _ more (calls.not_a_script rule short k) = absurd (omega arith)
  length_called _ more (calls.too_long long) = refl

-- what is made of bytes, or why it is not, by what is read
module _ {K : Type 0} (keeping : Keeping K) (bytes : List ℕ) where
  made_calls : (asked : Asked) (reads : Reads) (before after : List K) (text : List ℕ) (wanted : Status) → length bytes ≤ limit → IsOfBytes keeping asked reads bytes before after text → CallsFor reads bytes wanted → status.Done ≡ wanted
  made_calls asked (Reads.AScript clients) before after text wanted within h call = script_runs clients bytes h.script wanted within h.spelled call
  made_calls asked Reads.AnUnsettledScript before after text wanted within h call = traced_runs bytes h.script wanted within h.spells call
  made_calls asked Reads.AnEntry before after text wanted within h call = entry_calls bytes h.0.parts wanted within h.0.is call
  made_calls asked Reads.ATrace before after text wanted within h call = trace_calls bytes judged.Lawful wanted within h.0 call

  long_calls : (reads : Reads) (wanted : Status) → limit < length bytes → CallsFor reads bytes wanted → status.TooLong ≡ wanted
  long_calls (Reads.AScript clients) wanted more call = length_called clients bytes wanted more call
  long_calls Reads.AnUnsettledScript wanted more call = long_traced_calls bytes wanted more call
  long_calls Reads.AnEntry wanted more call = length_calls bytes wanted more call
  long_calls Reads.ATrace wanted more call = long_trace_calls bytes wanted more call

some_same : {X : Type 0} {x y : X} → Some x ≡ Some y → x ≡ y
some_same {X} {x} {y} e = same_Some x y e

-- a place with a keeper, before and after
there : {X : Type 0} (xs : List X) (n : ℕ) → n < length xs → (x : X) × (slice_get xs n ≡ Some x)
there [] n h = absurd (omega (arith, h))
there (x ∷ xs) zero h = (x, refl)
there (x ∷ xs) (suc n) h = there xs n (omega (arith, h))

-- WHAT IS DUE

module _ {K : Type 0} (keeping : Keeping K) where
  -- the count of the keeper of this place rose
  record RoseAtPlace (place : ℕ) (before after : List K) : Type 0 where
    within : place < length before
    count : length after ≡ length before
    rose : (old new : K) → slice_get before place ≡ Some old → slice_get after place ≡ Some new → Rose (keeping.faults old) (keeping.faults new)

  fails_rise : (asked : Asked) (place : ℕ) (before after : List K) → FailsAt keeping asked place before after → RoseAtPlace place before after
  fails_rise (Report clients) place before after h = record { within = h.within; count = h.failed.count; rose = λ old new was is. (h.failed.each place old new was is refl).answered.counted }
  fails_rise (Generate n) place before after h = absurd h
  fails_rise (Summarize n) place before after h = record { within = h.within; count = h.failed.count; rose = λ old new was is. (h.failed.each place old new was is refl).answered.counted }
  fails_rise (Behind n) place before after h = record { within = h.within; count = h.failed.count; rose = λ old new was is. (h.failed.each place old new was is refl).counted }
  fails_rise Upgrade place before after h = absurd h
  fails_rise Trace place before after h = record { within = h.within; count = h.failed.count; rose = λ old new was is. (h.failed.each place old new was is refl).answered.counted }
  fails_rise Check place before after h = absurd h

  -- a keeper that failed to be cleared counts a fault more
  clearing_rose : (asked : Asked) (read : Passage) (before after : List K) (text : List ℕ) → CannotClear keeping asked read before after text → SomeRose keeping before after
  clearing_rose asked read before after text h =
      let failed = fails_rise asked h.place before after h.failed in
      let was = there before h.place failed.within in
      let is = there after h.place (rw failed.count failed.within) in
      record {
        place = h.place;
        old = was.0;
        new = is.0;
        was = was.1;
        is = is.1;
        rose = failed.rose was.0 is.0 was.1 is.1;
      }

  -- the status that is due, unless a read or a clear failed or memory was refused
  abbrev IsCalled : Type 0 → Type 0 → Due → Status → Type 0
  IsCalled read_rose keeper_rose due wanted =
      (status_due due ≡ wanted) ⊎ (((status_due due ≡ status.ReadFailed) × read_rose) ⊎ (((status_due due ≡ status.ClearFailed) × keeper_rose) ⊎ (status_due due ≡ status.Memory)))

  module _ (read : Passage) (before after : List K) where
    -- what is refused where something is read
    record WasRefused (o : Option Reads) (due : Due) : Type 0 where
      reads : Reads
      is : o ≡ Some reads
      why : IsRefusal reads read due
      kept : after ≡ before

    refused_reads : (o : Option Reads) (due : Due) → IsRefusedFor o read before after due → WasRefused o due
    refused_reads None due h = absurd h
    refused_reads (Some reads) due h = record { reads = reads; is = refl; why = h.0; kept = h.1 }

    -- and of this
    refusal_of : (o : Option Reads) (reads : Reads) (due : Due) → o ≡ Some reads → IsRefusedFor o read before after due → IsRefusal reads read due
    refusal_of o reads due is h = (subst (λ o. IsRefusedFor o read before after due) is h).0

    -- what is made of what is read
    of_source : (asked : Asked) (reads : Reads) → reads_in asked ≡ Some reads → (text : List ℕ) → Fulfils keeping asked read before after text → IsOfSource keeping asked reads read before after text
    of_source (Report clients) reads is text h = subst (λ r. IsOfSource keeping (Report clients) r read before after text) (some_same is) h
    of_source (Generate n) reads is text h = absurd (none-some reads is)
    of_source (Summarize n) reads is text h = absurd (none-some reads is)
    of_source (Behind n) reads is text h = subst (λ r. IsOfSource keeping (Behind n) r read before after text) (some_same is) h
    of_source Upgrade reads is text h = subst (λ r. IsOfSource keeping Upgrade r read before after text) (some_same is) h
    of_source Trace reads is text h = subst (λ r. IsOfSource keeping Trace r read before after text) (some_same is) h
    of_source Check reads is text h = subst (λ r. IsOfSource keeping Check r read before after text) (some_same is) h

    -- the bytes of a source that tells them are those that were read
    told_bytes : (bytes found : List ℕ) → read.old ≡ Some bytes → ReadsWhole read found → found ≡ bytes
    told_bytes bytes found told h = all_read bytes found read.new (subst (λ o. ReadsToEnd o read.new found) told h.whole)

    module _ (bytes : List ℕ) (wanted : Status) (told : read.old ≡ Some bytes) where
      source_called : (asked : Asked) (reads : Reads) (text : List ℕ) → IsOfSource keeping asked reads read before after text → CallsFor reads bytes wanted → status.Done ≡ wanted
      source_called asked reads text h call =
          let same = told_bytes bytes h.bytes told h.is_read in
          made_calls keeping h.bytes asked reads before after text wanted h.is_read.within h.made (subst (λ b. CallsFor reads b wanted) (sym same) call)

      judged_called : (judgement : Judgement) → HasJudgement read judgement → CallsFor Reads.ATrace bytes wanted → judgement_status judgement ≡ wanted
      judged_called judgement h call =
          let same = told_bytes bytes h.0 told h.1 in
          trace_calls h.0 judgement wanted h.1.within h.2 (subst (λ b. CallsFor Reads.ATrace b wanted) (sym same) call)

      json_refused : (reads : Reads) → IsRefusal reads read NotJson → CallsFor reads bytes wanted → status.NotJson ≡ wanted
      json_refused (Reads.AScript clients) h call =
          let same = told_bytes bytes h.0 told h.1 in
          json_called clients h.0 wanted h.1.within h.2 (subst (λ b. ScriptCallsFor clients b wanted) (sym same) call)
      json_refused Reads.AnUnsettledScript h call =
          let same = told_bytes bytes h.0 told h.1 in
          no_traced_json h.0 wanted h.1.within h.2 (subst (λ b. TracedCallsFor b wanted) (sym same) call)
      json_refused Reads.AnEntry h call = absurd h
      json_refused Reads.ATrace h call = judged_called judged.NotJson h call

      rule_refused : (reads : Reads) (text : String Global) → IsRefusal reads read (NotAScript text) → CallsFor reads bytes wanted → status.NotAScript ≡ wanted
      rule_refused (Reads.AScript clients) text h call =
          let broken = h.1 in
          let same = told_bytes bytes broken.0 told broken.1 in
          script_called clients broken.0 h.0 wanted broken.1.within broken.2 (subst (λ b. ScriptCallsFor clients b wanted) (sym same) call)
      rule_refused Reads.AnUnsettledScript text h call =
          let broken = h.1 in
          let same = told_bytes bytes broken.0 told broken.1 in
          traced_called broken.0 h.0 wanted broken.1.within broken.2 (subst (λ b. TracedCallsFor b wanted) (sym same) call)
      rule_refused Reads.AnEntry text h call = absurd h
      rule_refused Reads.ATrace text h call = absurd h

      place_refused : (reads : Reads) (text : String Global) → IsRefusal reads read (NotAnEnvelope text) → CallsFor reads bytes wanted → status.NotAnEnvelope ≡ wanted
      place_refused (Reads.AScript clients) text h call = absurd h
      place_refused Reads.AnUnsettledScript text h call = absurd h
      place_refused Reads.AnEntry text h call =
          let fault = h.1 in
          let same = told_bytes bytes fault.0 told fault.1 in
          no_entry_calls fault.0 wanted fault.1.within fault.2.none (subst (λ b. CallsFor Reads.AnEntry b wanted) (sym same) call)
      place_refused Reads.ATrace text h call = absurd h

      line_refused : (reads : Reads) (text : String Global) → IsRefusal reads read (NotATrace text) → CallsFor reads bytes wanted → status.NotATrace ≡ wanted
      line_refused (Reads.AScript clients) text h call = absurd h
      line_refused Reads.AnUnsettledScript text h call = absurd h
      line_refused Reads.AnEntry text h call = absurd h
      line_refused Reads.ATrace text h call = judged_called (judged.NotATrace h.0) h.1 call

      broken_refused : (reads : Reads) (text : String Global) → IsRefusal reads read (NotLawful text) → CallsFor reads bytes wanted → status.Broken ≡ wanted
      broken_refused (Reads.AScript clients) text h call = absurd h
      broken_refused Reads.AnUnsettledScript text h call = absurd h
      broken_refused Reads.AnEntry text h call = absurd h
      broken_refused Reads.ATrace text h call = judged_called (judged.Broken h.0 h.1) h.2 call

      long_refused : (reads : Reads) → IsRefusal reads read TooLong → CallsFor reads bytes wanted → status.TooLong ≡ wanted
      long_refused reads h call = long_calls keeping bytes reads wanted (more_read bytes h.0 read.new (subst (λ o. Consumes o read.new h.0) told h.2) h.1) call

      -- for what is made of a source that tells its bytes
      calls_for : (asked : Asked) (reads : Reads) (due : Due) → reads_in asked ≡ Some reads → IsDueFor keeping asked read before after due → CallsFor reads bytes wanted
          → IsCalled (Rose read.faults read.now) (SomeRose keeping before after) due wanted
      calls_for asked reads (Fulfilled text) is h call = inl (source_called asked reads (string_bytes text) (of_source asked reads is (string_bytes text) h) call)
      calls_for asked reads (Upgraded text) is h call = inl (source_called asked reads text.items (of_source asked reads is text.items h) call)
      calls_for asked reads (NotCleared text) is h call = inr (inr (inl (refl, clearing_rose asked read before after (string_bytes text) h)))
      calls_for asked reads BadWords is h call = absurd h
      calls_for asked reads NotJson is h call = inl (json_refused reads (refusal_of (reads_in asked) reads NotJson is h) call)
      calls_for asked reads (NotAScript text) is h call = inl (rule_refused reads text (refusal_of (reads_in asked) reads (NotAScript text) is h) call)
      calls_for asked reads (NotAnEnvelope text) is h call = inl (place_refused reads text (refusal_of (reads_in asked) reads (NotAnEnvelope text) is h) call)
      calls_for asked reads (NotATrace text) is h call = inl (line_refused reads text (refusal_of (reads_in asked) reads (NotATrace text) is h) call)
      calls_for asked reads (NotLawful text) is h call = inl (broken_refused reads text (refusal_of (reads_in asked) reads (NotLawful text) is h) call)
      calls_for asked reads ReadFailed is h call = inr (inl (refl, (refusal_of (reads_in asked) reads ReadFailed is h).0))
      calls_for asked reads TooLong is h call = inl (long_refused reads (refusal_of (reads_in asked) reads TooLong is h) call)
      calls_for asked reads Memory is h call = inr (inr (inr refl))

    -- for a generated script
    generated_called : (n : ℕ) (due : Due) → IsDueFor keeping (Generate n) read before after due → IsCalled ⊥ ⊥ due status.Done
    generated_called n (Fulfilled text) h = inl refl
    generated_called n (Upgraded bytes) h = inl refl
    generated_called n (NotCleared text) h = absurd h.run
    generated_called n Memory h = inr (inr (inr refl))
    generated_called n due h = absurd h

    -- for the end of its run
    summary_called : (n : ℕ) (due : Due) → IsDueFor keeping (Summarize n) read before after due → IsCalled ⊥ (SomeRose keeping before after) due status.Done
    summary_called n (Fulfilled text) h = inl refl
    summary_called n (Upgraded bytes) h = inl refl
    summary_called n (NotCleared text) h = inr (inr (inl (refl, clearing_rose (Summarize n) read before after (string_bytes text) h)))
    summary_called n Memory h = inr (inr (inr refl))
    summary_called n due h = absurd h

    -- what runs no script leaves the keepers
    unrun_fulfils : (asked : Asked) → RunsNothing asked → (text : List ℕ) → Fulfils keeping asked read before after text → after ≡ before
    unrun_fulfils (Generate n) none text h = h.1
    unrun_fulfils Upgrade none text h = h.made.1
    unrun_fulfils Check none text h = h.made.2
    unrun_fulfils asked none text h = absurd none

    unrun_clears : (asked : Asked) → RunsNothing asked → (text : List ℕ) → CannotClear keeping asked read before after text → after ≡ before
    unrun_clears (Generate n) none text h = absurd h.run
    unrun_clears Upgrade none text h = absurd h.run
    unrun_clears Check none text h = absurd h.run
    unrun_clears asked none text h = absurd none

    unrun_leaves : (asked : Asked) → RunsNothing asked → (due : Due) → IsDueFor keeping asked read before after due → after ≡ before
    unrun_leaves asked none (Fulfilled text) h = unrun_fulfils asked none (string_bytes text) h
    unrun_leaves asked none (Upgraded bytes) h = unrun_fulfils asked none bytes.items h
    unrun_leaves asked none (NotCleared text) h = unrun_clears asked none (string_bytes text) h
    unrun_leaves asked none BadWords h = absurd h
    unrun_leaves asked none NotJson h = (refused_reads (reads_in asked) NotJson h).kept
    unrun_leaves asked none (NotAScript text) h = (refused_reads (reads_in asked) (NotAScript text) h).kept
    unrun_leaves asked none (NotAnEnvelope text) h = (refused_reads (reads_in asked) (NotAnEnvelope text) h).kept
    unrun_leaves asked none (NotATrace text) h = (refused_reads (reads_in asked) (NotATrace text) h).kept
    unrun_leaves asked none (NotLawful text) h = (refused_reads (reads_in asked) (NotLawful text) h).kept
    unrun_leaves asked none ReadFailed h = (refused_reads (reads_in asked) ReadFailed h).kept
    unrun_leaves asked none TooLong h = (refused_reads (reads_in asked) TooLong h).kept
    unrun_leaves asked none Memory h = h none

    -- what is done with status `Done`
    is_fulfilled : (asked : Asked) (due : Due) → IsDueFor keeping asked read before after due → status_due due ≡ status.Done → Fulfils keeping asked read before after (text_due due)
    is_fulfilled asked (Fulfilled text) h none = h
    is_fulfilled asked (Upgraded bytes) h none = h
    is_fulfilled asked due h none = absurd (cc none)

    -- what is made of told bytes
    of_told : (asked : Asked) (reads : Reads) (bytes earlier text : List ℕ) (written : Option (List ℕ)) → read.old ≡ Some bytes → IsOfSource keeping asked reads read before after text → Appends (Some earlier) written text
        → IsOfTold keeping asked reads bytes earlier read.new written before after
    of_told asked reads bytes earlier text written told h w =
        let whole = subst (λ o. ReadsToEnd o read.new h.bytes) told h.is_read.whole in
        record {
          text = text;
          made = subst (λ b. IsOfBytes keeping asked reads b before after text) (told_bytes bytes h.bytes told h.is_read) h.made;
          all_read = none_left bytes h.bytes read.new whole;
          all_written = grown earlier text written w;
        }

-- THE KEEPERS COME BACK

module _ {K : Type 0} (keeping : Keeping K) (before after : List K) where
  untold_kept : AreKept keeping before after → AreKept (untold keeping) before after
  untold_kept h = record {
    count = h.count;
    each = λ place old new was is. let keeps = h.each place old new was is in (keeps.0, record { told = tt; counted = keeps.1.counted; table = keeps.1.table });
  }

  come_back : (asked : Option Asked) → ComeBack keeping asked before after → AreKept (untold keeping) before after
  come_back None h = untold_kept h
  come_back (Some (Report clients)) h = untold_kept h
  come_back (Some (Generate n)) h = untold_kept h
  come_back (Some (Summarize n)) h = untold_kept h
  come_back (Some (Behind n)) h = h
  come_back (Some Upgrade) h = untold_kept h
  come_back (Some Trace) h = untold_kept h
  come_back (Some Check) h = untold_kept h

  come_back_told : (asked : Option Asked) → ((n : ℕ) → asked ≡ Some (Behind n) → ⊥) → ComeBack keeping asked before after → AreKept keeping before after
  come_back_told None none h = h
  come_back_told (Some (Report clients)) none h = h
  come_back_told (Some (Generate n)) none h = h
  come_back_told (Some (Summarize n)) none h = h
  come_back_told (Some (Behind n)) none h = absurd (none n refl)
  come_back_told (Some Upgrade) none h = h
  come_back_told (Some Trace) none h = h
  come_back_told (Some Check) none h = h

module _ {K : Type 0} (keeping : Keeping K) (t : Traffic K) (served : Clients) (words : List (String Global)) (asked : Option Asked) (asks : (a : Asked) → (asked ≡ Some a) ↔ IsAsked served a words) where
  pub returned : ComeBack keeping asked t.before t.after → t.read.faults ≤ t.read.now → t.written.faults ≤ t.written.now → Returns keeping t served words
  returned kept source_later sink_later = record {
    kept = come_back keeping t.before t.after asked kept;
    told = λ none. come_back_told keeping t.before t.after asked (λ n is. none n ((asks (Behind n)).0 is)) kept;
    source_later = source_later;
    sink_later = sink_later;
  }

-- words for which nothing is read ask for nothing for which something is
pub reads_nothing : (served : Clients) (words : List (String Global)) (asked : Option Asked) → ((a : Asked) → (asked ≡ Some a) ↔ IsAsked served a words) → AskToReadNothing served words → ReadsNothing asked
reads_nothing served words None asks none = tt
reads_nothing served words (Some a) asks none = none a ((asks a).0 refl)

-- WHAT WAS WRITTEN OF IT

below_some : {n m : ℕ} → n < m → 0 < m
below_some h = omega arith

module _ {K : Type 0} (keeping : Keeping K) (t : Traffic K) (served : Clients) (words : List (String Global)) where
  -- words for which it was read, where something was refused
  asked_to_read : (asked : Asked) (due : Due) (r : WasRefused keeping t.read t.before t.after (reads_in asked) due) → IsAsked served asked words → AskToRead served words r.reads
  asked_to_read asked due r a = record { asked = asked; is = a; of = r.is }

  -- a refusal, as the cause of a status
  refusal_cause : (asked : Asked) (due : Due) (Why : Reads → Type 0) (text : List ℕ) → ((reads : Reads) → IsRefusal reads t.read due → Why reads) → IsAsked served asked words → IsRefusedFor (reads_in asked) t.read t.before t.after due → Appends t.written.old t.written.new text
      → Refuses keeping t served words Why text
  refusal_cause asked due Why text why a h w =
      let r = refused_reads keeping t.read t.before t.after (reads_in asked) due h in
      record { reads = r.reads; asked = asked_to_read asked due r a; why = why r.reads r.why; kept = r.kept; told = w }

  -- why a status is told
  due_cause : (asked : Asked) (due : Due) → IsAsked served asked words → IsDueFor keeping asked t.read t.before t.after due → Appends t.written.old t.written.new (text_due due) → Cause keeping t served words (status_due due)
  due_cause asked (Fulfilled text) a h w = (asked, string_bytes text, a, h, w)
  due_cause asked (Upgraded bytes) a h w = (asked, bytes.items, a, h, w)
  due_cause asked (NotCleared text) a h w = (asked, string_bytes text, a, h, w)
  due_cause asked BadWords a h w = absurd h
  due_cause asked Memory a h w = w
  due_cause asked NotJson a h w = refusal_cause asked NotJson (λ reads. HasNoJson reads t.read) (codes "not json\n") (λ reads why. why) a h w
  due_cause asked (NotAScript text) a h w = (string_bytes text, refusal_cause asked (NotAScript text) (λ reads. TellsRule reads t.read (string_bytes text)) (string_bytes text) (λ reads why. why) a h w)
  due_cause asked (NotAnEnvelope text) a h w = (string_bytes text, refusal_cause asked (NotAnEnvelope text) (λ reads. TellsPlace reads t.read (string_bytes text)) (string_bytes text) (λ reads why. why) a h w)
  due_cause asked (NotATrace text) a h w = (string_bytes text, refusal_cause asked (NotATrace text) (λ reads. TellsLine reads t.read (string_bytes text)) (string_bytes text) (λ reads why. why) a h w)
  due_cause asked (NotLawful text) a h w = (string_bytes text, refusal_cause asked (NotLawful text) (λ reads. TellsBroken reads t.read (string_bytes text)) (string_bytes text) (λ reads why. why) a h w)
  due_cause asked ReadFailed a h w = refusal_cause asked ReadFailed (λ reads. Rose t.read.faults t.read.now × ReadsUpTo t.read.old t.read.new limit) [] (λ reads why. why) a h w
  due_cause asked TooLong a h w = refusal_cause asked TooLong (λ reads. IsTooLong t.read) (codes "too long\n") (λ reads why. why) a h w

  -- of what a beginning was written
  is_text_due : (asked : Asked) (due : Due) → 0 < length (text_due due) → IsAsked served asked words → IsDueFor keeping asked t.read t.before t.after due → IsTextDue keeping served words t.read t.before t.after (text_due due)
  is_text_due asked (Fulfilled text) some a h = text_of.fulfilled asked (string_bytes text) a h
  is_text_due asked (Upgraded bytes) some a h = text_of.fulfilled asked bytes.items a h
  is_text_due asked (NotCleared text) some a h = text_of.not_cleared asked (string_bytes text) a h
  is_text_due asked BadWords some a h = absurd h
  is_text_due asked Memory some a h = absurd (omega arith)
  is_text_due asked ReadFailed some a h = absurd (omega arith)
  is_text_due asked NotJson some a h = let r = refused_reads keeping t.read t.before t.after (reads_in asked) NotJson h in text_of.not_json r.reads (asked_to_read asked NotJson r a) r.why r.kept
  is_text_due asked (NotAScript text) some a h =
      let r = refused_reads keeping t.read t.before t.after (reads_in asked) (NotAScript text) h in text_of.not_a_script r.reads (string_bytes text) (asked_to_read asked (NotAScript text) r a) r.why r.kept
  is_text_due asked (NotAnEnvelope text) some a h =
      let r = refused_reads keeping t.read t.before t.after (reads_in asked) (NotAnEnvelope text) h in text_of.not_an_envelope r.reads (string_bytes text) (asked_to_read asked (NotAnEnvelope text) r a) r.why r.kept
  is_text_due asked (NotATrace text) some a h =
      let r = refused_reads keeping t.read t.before t.after (reads_in asked) (NotATrace text) h in text_of.not_a_trace r.reads (string_bytes text) (asked_to_read asked (NotATrace text) r a) r.why r.kept
  is_text_due asked (NotLawful text) some a h =
      let r = refused_reads keeping t.read t.before t.after (reads_in asked) (NotLawful text) h in text_of.broken r.reads (string_bytes text) (asked_to_read asked (NotLawful text) r a) r.why r.kept
  is_text_due asked TooLong some a h = let r = refused_reads keeping t.read t.before t.after (reads_in asked) TooLong h in text_of.too_long r.reads (asked_to_read asked TooLong r a) r.why r.kept

  -- A call was asked for this, this was due, and this was written and told.
  pub record Called (end : Status) : Type 0 where
    pub asked : Option Asked
    pub asks : (a : Asked) → (asked ≡ Some a) ↔ IsAsked served a words
    pub due : Due
    pub is : IsDue keeping asked t.read t.before t.after due
    pub told : IsWritten due t.written end

  module _ (end : Status) (call : Called end) where
    -- what is due for what was asked
    is_for : (a : Asked) → IsAsked served a words → IsDueFor keeping a t.read t.before t.after call.due
    is_for a h = subst (λ o. IsDue keeping o t.read t.before t.after call.due) ((call.asks a).1 h) call.is

    -- THE CAUSE

    pub has_cause : Cause keeping t served words end
    has_cause = by_asked call.asked call.asks call.is call.told
      where
        nothing : ((a : Asked) → (None ≡ Some a) ↔ IsAsked served a words) → AskNothing served words
        nothing asks a h = none-some a ((asks a).1 h)

        by_asked : (asked : Option Asked) → ((a : Asked) → (asked ≡ Some a) ↔ IsAsked served a words) → IsDue keeping asked t.read t.before t.after call.due → IsWritten call.due t.written end → Cause keeping t served words end
        by_asked (Some a) asks is (inl w) = subst (Cause keeping t served words) (sym w.0) (due_cause a call.due ((asks a).0 refl) is w.1)
        by_asked (Some a) asks is (inr w) = subst (Cause keeping t served words) (sym w.0) (w.1, (text_due call.due, is_text_due a call.due (below_some w.2.1) ((asks a).0 refl) is, w.2))
        by_asked None asks is (inl w) =
            subst (Cause keeping t served words) (sym (w.0 ∙ ap status_due is.0)) (nothing asks, is.1, subst (λ due. Appends t.written.old t.written.new (text_due due)) is.0 w.1)
        by_asked None asks is (inr w) =
            subst (Cause keeping t served words) (sym w.0)
            (w.1, (text_due BadWords, text_of.bad_words (nothing asks) is.1, subst (λ due. AppendsPrefix t.written.old t.written.new (text_due due)) is.0 w.2))

    -- WHAT WAS ASKED FOR IS DONE

    done : (a : Asked) → IsAsked served a words → end ≡ status.Done → (text : List ℕ) × Fulfils keeping a t.read t.before t.after text × Appends t.written.old t.written.new text
    done a h none = go call.told
      where
        go : IsWritten call.due t.written end → (text : List ℕ) × Fulfils keeping a t.read t.before t.after text × Appends t.written.old t.written.new text
        go (inl w) = (text_due call.due, is_fulfilled keeping t.read t.before t.after a call.due (is_for a h) (sym w.0 ∙ none), w.1)
        go (inr w) = absurd (let other = sym w.0 ∙ none in cc other)

    pub is_done : IsDone keeping t served words end
    unfolding done
    is_done = record {
      done = done;
      told = λ reads bytes earlier a none left before.
          let so = done a.asked a.is none in
          of_told keeping t.read t.before t.after a.asked reads bytes earlier so.0 t.written.new left (of_source keeping t.read t.before t.after a.asked reads a.of so.0 so.1)
          (subst (λ o. Appends o t.written.new so.0) before so.2);
    }

    -- WHAT IS CALLED FOR IS ANSWERED

    unless : (read_rose keeper_rose : Type 0) (wanted : Status) → IsCalled keeping read_rose keeper_rose call.due wanted → IsUnlessRefused read_rose (Rose t.written.faults t.written.now) keeper_rose wanted end
    unless read_rose keeper_rose wanted h = go call.told h
      where
        go : IsWritten call.due t.written end → IsCalled keeping read_rose keeper_rose call.due wanted → IsUnlessRefused read_rose (Rose t.written.faults t.written.now) keeper_rose wanted end
        go (inl w) (inl same) = inl (w.0 ∙ same)
        go (inl w) (inr (inl failed)) = inr (inl (w.0 ∙ failed.0, failed.1))
        go (inl w) (inr (inr (inl failed))) = inr (inr (inr (inl (w.0 ∙ failed.0, failed.1))))
        go (inl w) (inr (inr (inr refused))) = inr (inr (inr (inr (w.0 ∙ refused))))
        go (inr w) h = inr (inr (inl (w.0, w.1)))

    refused : AskNothing served words → (end ≡ status.Usage) ⊎ (end ≡ status.WriteFailed)
    refused none = by_asked call.asked call.asks call.is call.told
      where
        by_asked : (asked : Option Asked) → ((a : Asked) → (asked ≡ Some a) ↔ IsAsked served a words) → IsDue keeping asked t.read t.before t.after call.due → IsWritten call.due t.written end → (end ≡ status.Usage) ⊎ (end ≡ status.WriteFailed)
        by_asked (Some a) asks is told = absurd (none a ((asks a).0 refl))
        by_asked None asks is (inl w) = inl (w.0 ∙ ap status_due is.0)
        by_asked None asks is (inr w) = inr w.0

    pub answers_all : Answers keeping t served words end
    answers_all = record {
      nothing = refused;
      unrun = λ asked none h. unrun_leaves keeping t.read t.before t.after asked none call.due (is_for asked h);
      complete = λ reads bytes wanted a told calls. unless _ _ wanted (calls_for keeping t.read t.before t.after bytes wanted told a.asked reads call.due a.of (is_for a.asked a.is) calls);
      generates = λ n h. unless _ _ status.Done (generated_called keeping t.read t.before t.after n call.due (is_for (Generate n) h));
      summarizes = λ n h. unless _ _ status.Done (summary_called keeping t.read t.before t.after n call.due (is_for (Summarize n) h));
    }
