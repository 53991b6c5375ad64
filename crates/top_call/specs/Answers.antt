-- What is due for the words, the bytes of the source and the keepers.
use Rattle.std.specs.Prelude.{◌≡◌, ℕ, ◌+◌, ◌<◌, ◌≤◌, List, [], ◌++◌, length, map, codes, decimal, Bool, String, slice_get, All, Option, Some, ◌⊎◌}
use Rattle.std.specs.declared.alloc.Global.{Global}
use Rattle.model_kinds.specs.SixKinds.{six_kinds}
use Rattle.base_outside.specs.Causes.{Rose}
use Rattle.base_outside.specs.Transfers.{ReadsCount}
use Rattle.member_keeper.specs.declared.keeper.Keeper.{Ghosts as Keeping}
use Rattle.script_reading.specs.declared.clients.Clients.{Clients}
use Rattle.script_reading.specs.declared.clients.Clients.TheVariants.{Allowed, Refused, Following}
use Rattle.script_reading.specs.declared.script.Script.{Script}
use Rattle.script_reading.specs.declared.fault.Rule.{Rule}
use Rattle.script_reading.specs.Reading.{Spells, Breaks, HasNoReading}
use Rattle.script_reading.specs.WellFormed.{HasNoClients, IsAllowed}
use Rattle.data_value.specs.DataSpelled.{history_byte, history_spelled}
use Rattle.script_generated.specs.Generated.{generated_script}
use Rattle.script_generated.specs.Texts.{generated_text}
use Rattle.report_lines.specs.Kept as kept
use Rattle.report_lines.specs.Kept.{LoadWhatTheyTook, IsNotCleared, answers_by}
use Rattle.report_lines.specs.Run.{decl_of, in_order, steps_of}
use Rattle.report_followers.specs.Followed.{IsFollowedOver}
use Rattle.member_node.specs.Members.{spelled_groups}
use Rattle.theorem_digests.specs.Digests.{SettlesAgreeByDigests}
use Rattle.trace_judged.specs.Judgements.{IsJudgement}
use Rattle.trace_judged.specs.declared.judging.Judgement.TheVariants as judged
use Rattle.top_call.specs.Asking.{Reads, IsAsked, AskNothing, AskToRead}
use Rattle.top_call.specs.Behind.{IsRunBehind, IsNotClearedBehind}
use Rattle.top_call.specs.Checking.{HasJudgement, TraceCallsFor, judgement_text}
use Rattle.top_call.specs.Passages.{Passage, ReadsWhole, limit}
use Rattle.top_call.specs.Tracing.{BreaksTraced, HasTraced, IsTraceOfScript, TracedCallsFor}
use Rattle.top_call.specs.Upgrading.{EntryCallsFor, HasNoEntry, Upgrades, not_an_envelope_text}
use Rattle.top_call.specs.declared.words.Asked.{Asked}
use Rattle.top_call.specs.declared.words.Asked.TheVariants.{Report, Generate, Summarize, Behind, Upgrade, Trace, Check}
use Rattle.top_call.specs.declared.status.Status.{Status}
use Rattle.top_call.specs.declared.status.Status.TheVariants.{Done, NotJson, NotAScript, ReadFailed, WriteFailed, TooLong, Memory, ClearFailed}

-- ---- what was read

-- The source was read to its end, and its bytes spell this script, which has clients only where these are allowed.
pub record HasScript (clients : Clients) (read : Passage) (script : Script) : Type 0 where
  pub bytes : List ℕ
  pub is_read : ReadsWhole read bytes
  pub spelled : Spells clients bytes script
  pub allowed : All (IsAllowed clients) script.steps

-- A script or a trace was read, and the bytes are no JSON text.
abbrev pub HasNoJson : Reads → Passage → Type 0
HasNoJson (Reads.AScript clients) read = (bytes : List ℕ) × ReadsWhole read bytes × HasNoReading bytes
HasNoJson Reads.AnUnsettledScript read = (bytes : List ℕ) × ReadsWhole read bytes × HasNoReading bytes
HasNoJson Reads.AnEntry read = ⊥
HasNoJson Reads.ATrace read = HasJudgement read judged.NotJson

-- Its bytes are a JSON text that breaks this rule of scripts, and none before it.
abbrev pub HasNoScript : Clients → Passage → Rule → Type 0
HasNoScript clients read broken = (bytes : List ℕ) × ReadsWhole read bytes × Breaks clients bytes broken

-- Its bytes are a JSON text that breaks this rule of scripts that are traced, and none before it.
abbrev pub HasNoTraced : Passage → Rule → Type 0
HasNoTraced read broken = (bytes : List ℕ) × ReadsWhole read bytes × BreaksTraced bytes broken

-- which rule is broken, and at which step
abbrev pub not_a_script_text : Rule → List ℕ
not_a_script_text broken = codes "not a script: step " ++ decimal broken.step ++ codes " rule " ++ decimal broken.number ++ codes "\n"

-- A script was read, the bytes break a rule of scripts, and this text tells the first such rule.
abbrev pub TellsRule : Reads → Passage → List ℕ → Type 0
TellsRule (Reads.AScript clients) read text = (broken : Rule) × HasNoScript clients read broken × (text ≡ not_a_script_text broken)
TellsRule Reads.AnUnsettledScript read text = (broken : Rule) × HasNoTraced read broken × (text ≡ not_a_script_text broken)
TellsRule Reads.AnEntry read text = ⊥
TellsRule Reads.ATrace read text = ⊥

-- A stored entry was read, the bytes are none, and this text tells the place of their first fault.
abbrev pub TellsPlace : Reads → Passage → List ℕ → Type 0
TellsPlace (Reads.AScript clients) read text = ⊥
TellsPlace Reads.AnUnsettledScript read text = ⊥
TellsPlace Reads.AnEntry read text = (place : ℕ) × HasNoEntry read place × (text ≡ not_an_envelope_text place)
TellsPlace Reads.ATrace read text = ⊥

-- A trace was read, and this text tells the first line that has not its form.
abbrev pub TellsLine : Reads → Passage → List ℕ → Type 0
TellsLine (Reads.AScript clients) read text = ⊥
TellsLine Reads.AnUnsettledScript read text = ⊥
TellsLine Reads.AnEntry read text = ⊥
TellsLine Reads.ATrace read text = (line : ℕ) × HasJudgement read (judged.NotATrace line) × (text ≡ judgement_text (judged.NotATrace line))

-- A trace was read, and this text tells the first line that breaks a rule, and the least that it breaks.
abbrev pub TellsBroken : Reads → Passage → List ℕ → Type 0
TellsBroken (Reads.AScript clients) read text = ⊥
TellsBroken Reads.AnUnsettledScript read text = ⊥
TellsBroken Reads.AnEntry read text = ⊥
TellsBroken Reads.ATrace read text = (line : ℕ) × (rule : ℕ) × HasJudgement read (judged.Broken line rule) × (text ≡ judgement_text (judged.Broken line rule))

-- One byte was read more than the limit.
abbrev pub IsTooLong : Passage → Type 0
IsTooLong read = ReadsCount read.old read.new (limit + 1)

-- ---- what was run

-- why a script was not run: what is kept at a place was not cleared
abbrev pub not_cleared_text : ℕ → List ℕ
not_cleared_text place = codes "store failed at " ++ decimal place ++ codes "\n"

-- What is asked for is a script's run: of the one that was read, or of a generated one.
abbrev pub AsksForRun : Asked → Passage → Type 0
AsksForRun (Report clients) read = (script : Script) × HasScript clients read script
AsksForRun (Generate n) read = ⊥
AsksForRun (Summarize n) read = Unit {0}
AsksForRun (Behind n) read = (script : Script) × HasScript Refused read script
AsksForRun Upgrade read = ⊥
AsksForRun Trace read = (script : Script) × HasTraced read script
AsksForRun Check read = ⊥

module _ {K : Type 0} (keeping : Keeping K) where
  -- What the settles of a script's run tell is so, and they leave settled worlds, where digests tell apart what members have. The keepers gave these answers.
  abbrev pub SettlesAgree : Script → List K → (ℕ → List Bool) → Type 0
  SettlesAgree script before given = LoadWhatTheyTook keeping script before
      → SettlesAgreeByDigests (spelled_groups six_kinds history_byte history_spelled) history_byte history_spelled (answers_by given) script.members (map decl_of (in_order script.keys)) (steps_of script.steps)

  -- The text is the report of a script's run over the keepers.
  pub record IsReportOver (script : Script) (before after : List K) (text : List ℕ) : Type 0 where
    pub run : kept.IsReportOver six_kinds history_byte history_spelled keeping script before after text
    pub settles : HasNoClients script → SettlesAgree script before run.given

  -- The text is the report of a script's run over the keepers, with its subscriptions and notices.
  pub record IsWatchOver (script : Script) (before after : List K) (text : List ℕ) : Type 0 where
    pub run : IsFollowedOver six_kinds history_byte history_spelled keeping script before after text
    pub settles : SettlesAgree script before run.given

  -- The text is the final block of a script's run over the keepers.
  pub record IsSummaryOver (script : Script) (before after : List K) (text : List ℕ) : Type 0 where
    pub run : kept.IsSummaryOver six_kinds history_byte history_spelled keeping script before after text
    pub settles : SettlesAgree script before run.given

  -- The text is the report of a script's run whose stores are written behind to the keepers.
  pub record IsReportBehind (script : Script) (before after : List K) (text : List ℕ) : Type 0 where
    pub run : IsRunBehind keeping script before after text
    pub settles : SettlesAgree script before run.given

  -- what a text is that tells of the script's run
  abbrev pub IsOver : Asked → Script → (before after : List K) → List ℕ → Type 0
  IsOver (Report Allowed) script before after text = IsReportOver script before after text
  IsOver (Report Refused) script before after text = IsReportOver script before after text
  IsOver (Report Following) script before after text = IsWatchOver script before after text
  IsOver (Generate n) script before after text = ⊥
  IsOver (Summarize n) script before after text = IsSummaryOver script before after text
  IsOver (Behind n) script before after text = IsReportBehind script before after text
  IsOver Upgrade script before after text = ⊥
  IsOver Trace script before after text = ⊥
  IsOver Check script before after text = ⊥

  -- The bytes spell a script, and the text tells of the script's run over the keepers.
  pub record IsOfScript (asked : Asked) (clients : Clients) (bytes : List ℕ) (before after : List K) (text : List ℕ) : Type 0 where
    pub script : Script
    pub spelled : Spells clients bytes script
    pub allowed : All (IsAllowed clients) script.steps
    pub reported : IsOver asked script before after text

  -- The text is what was asked for of the bytes that were read. To upgrade an entry and to judge a trace leave the keepers as they are.
  abbrev pub IsOfBytes : Asked → Reads → (bytes : List ℕ) → (before after : List K) → List ℕ → Type 0
  IsOfBytes asked (Reads.AScript clients) bytes before after text = IsOfScript asked clients bytes before after text
  IsOfBytes asked Reads.AnUnsettledScript bytes before after text = IsTraceOfScript keeping bytes before after text
  IsOfBytes asked Reads.AnEntry bytes before after text = Upgrades bytes text × (after ≡ before)
  IsOfBytes asked Reads.ATrace bytes before after text = IsJudgement bytes judged.Lawful × (text ≡ judgement_text judged.Lawful) × (after ≡ before)

  -- The source was read to its end, and the text is what was asked for of its bytes.
  pub record IsOfSource (asked : Asked) (reads : Reads) (read : Passage) (before after : List K) (text : List ℕ) : Type 0 where
    pub bytes : List ℕ
    pub is_read : ReadsWhole read bytes
    pub made : IsOfBytes asked reads bytes before after text

  -- Told bytes were all read, and what was asked for of them stands behind what was written before.
  pub record IsOfTold (asked : Asked) (reads : Reads) (bytes written_before : List ℕ) (left written : Option (List ℕ)) (before after : List K) : Type 0 where
    pub text : List ℕ
    pub made : IsOfBytes asked reads bytes before after text
    pub all_read : left ≡ Some []
    pub all_written : written ≡ Some (written_before ++ text)

  -- The text is what was asked for. To generate a script leaves the keepers as they are.
  abbrev pub Fulfils : Asked → Passage → (before after : List K) → List ℕ → Type 0
  Fulfils (Report clients) read before after text = IsOfSource (Report clients) (Reads.AScript clients) read before after text
  Fulfils (Generate n) read before after text = (text ≡ generated_text n) × (after ≡ before)
  Fulfils (Summarize n) read before after text = IsSummaryOver (generated_script n) before after text
  Fulfils (Behind n) read before after text = IsOfSource (Behind n) (Reads.AScript Refused) read before after text
  Fulfils Upgrade read before after text = IsOfSource Upgrade Reads.AnEntry read before after text
  Fulfils Trace read before after text = IsOfSource Trace Reads.AnUnsettledScript read before after text
  Fulfils Check read before after text = IsOfSource Check Reads.ATrace read before after text

  -- the keeper of a place failed to be cleared for the run that was asked for
  abbrev pub FailsAt : Asked → ℕ → (before after : List K) → Type 0
  FailsAt (Report clients) place before after = IsNotCleared keeping place before after
  FailsAt (Generate n) place before after = ⊥
  FailsAt (Summarize n) place before after = IsNotCleared keeping place before after
  FailsAt (Behind n) place before after = IsNotClearedBehind keeping place before after
  FailsAt Upgrade place before after = ⊥
  FailsAt Trace place before after = IsNotCleared keeping place before after
  FailsAt Check place before after = ⊥

  -- A script's run was asked for, and the keeper of a place failed to be cleared for it; this text says so.
  pub record CannotClear (asked : Asked) (read : Passage) (before after : List K) (text : List ℕ) : Type 0 where
    pub place : ℕ
    pub run : AsksForRun asked read
    pub failed : FailsAt asked place before after
    pub told : text ≡ not_cleared_text place

  -- The count of a keeper rose.
  pub record SomeRose (before after : List K) : Type 0 where
    pub place : ℕ
    pub old : K
    pub new : K
    pub was : slice_get before place ≡ Some old
    pub is : slice_get after place ≡ Some new
    pub rose : Rose (keeping.faults old) (keeping.faults new)

  -- The texts that are due, each with its cause. Where no script is run, the keepers stay.
  pub data IsTextDue (served : Clients) (words : List (String Global)) (read : Passage) (before after : List K) : List ℕ → Type 0 where
    fulfilled : (asked : Asked) (text : List ℕ) → IsAsked served asked words → Fulfils asked read before after text → IsTextDue served words read before after text
    not_cleared : (asked : Asked) (text : List ℕ) → IsAsked served asked words → CannotClear asked read before after text → IsTextDue served words read before after text
    bad_words : AskNothing served words → after ≡ before → IsTextDue served words read before after (codes "bad words\n")
    not_json : (reads : Reads) → AskToRead served words reads → HasNoJson reads read → after ≡ before → IsTextDue served words read before after (codes "not json\n")
    not_a_script : (reads : Reads) (text : List ℕ) → AskToRead served words reads → TellsRule reads read text → after ≡ before → IsTextDue served words read before after text
    not_an_envelope : (reads : Reads) (text : List ℕ) → AskToRead served words reads → TellsPlace reads read text → after ≡ before → IsTextDue served words read before after text
    not_a_trace : (reads : Reads) (text : List ℕ) → AskToRead served words reads → TellsLine reads read text → after ≡ before → IsTextDue served words read before after text
    broken : (reads : Reads) (text : List ℕ) → AskToRead served words reads → TellsBroken reads read text → after ≡ before → IsTextDue served words read before after text
    too_long : (reads : Reads) → AskToRead served words reads → IsTooLong read → after ≡ before → IsTextDue served words read before after (codes "too long\n")

-- ---- what bytes call for

-- The status that the bytes of a source call for, where a script is read from it, with clients where these are allowed.
pub data ScriptCallsFor (clients : Clients) (bytes : List ℕ) : Status → Type 0 where
  done : (script : Script) → length bytes ≤ limit → Spells clients bytes script → ScriptCallsFor clients bytes Done
  not_json : length bytes ≤ limit → HasNoReading bytes → ScriptCallsFor clients bytes NotJson
  not_a_script : (broken : Rule) → length bytes ≤ limit → Breaks clients bytes broken → ScriptCallsFor clients bytes NotAScript
  too_long : limit < length bytes → ScriptCallsFor clients bytes TooLong

-- by what is read
abbrev pub CallsFor : Reads → (bytes : List ℕ) → Status → Type 0
CallsFor (Reads.AScript clients) bytes wanted = ScriptCallsFor clients bytes wanted
CallsFor Reads.AnUnsettledScript bytes wanted = TracedCallsFor bytes wanted
CallsFor Reads.AnEntry bytes wanted = EntryCallsFor bytes wanted
CallsFor Reads.ATrace bytes wanted = TraceCallsFor bytes wanted

-- This status, unless a count rose at a read, a write or a keeper's start, or memory was refused.
abbrev pub IsUnlessRefused : Type 0 → Type 0 → Type 0 → Status → Status → Type 0
IsUnlessRefused read_rose write_rose keeper_rose wanted end =
    (end ≡ wanted) ⊎ (((end ≡ ReadFailed) × read_rose) ⊎ (((end ≡ WriteFailed) × write_rose) ⊎ (((end ≡ ClearFailed) × keeper_rose) ⊎ (end ≡ Memory))))
