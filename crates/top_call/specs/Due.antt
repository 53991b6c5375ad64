-- What is to be written, why, and the status.
use Rattle.std.specs.Prelude.{◌≡◌, ℕ, List, [], codes, Option, None, Some, string_bytes, ◌⊎◌}
use Rattle.std.specs.Io.KnownBytes.{Appends}
use Rattle.base_outside.specs.Causes.{Rose}
use Rattle.base_outside.specs.Transfers.{ReadsUpTo, AppendsPrefix}
use Rattle.member_keeper.specs.declared.keeper.Keeper.{Ghosts as Keeping}
use Rattle.script_generated.specs.Texts.{generated_text}
use Rattle.report_lines.specs.Kept.{AreKept}
use Rattle.report_lines.specs.declared.playing.Ending.{Ending}
use Rattle.report_lines.specs.declared.playing.Ending.TheVariants as ending
use Rattle.script_reading.specs.declared.read.ScriptError.{ScriptError}
use Rattle.script_reading.specs.declared.read.ScriptError.TheVariants as error
use Rattle.top_call.specs.Answers.{not_a_script_text, HasNoJson, TellsRule, TellsPlace, TellsLine, TellsBroken, IsTooLong, Fulfils, CannotClear, not_cleared_text}
use Rattle.top_call.specs.Asking.{Reads, RunsNothing, reads_in}
use Rattle.top_call.specs.Behind.{untold}
use Rattle.top_call.specs.Passages.{Passage, limit}
use Rattle.top_call.specs.declared.due.Due.{Due}
use Rattle.top_call.specs.declared.due.Due.TheVariants.{Fulfilled, Upgraded, NotCleared, BadWords, NotJson, NotAScript, NotAnEnvelope, NotATrace, NotLawful, ReadFailed, TooLong, Memory}
use Rattle.top_call.specs.declared.status.Status.{Status}
use Rattle.top_call.specs.declared.status.Status.TheVariants as status
use Rattle.top_call.specs.declared.words.Asked.{Asked}
use Rattle.top_call.specs.declared.words.Asked.TheVariants.{Behind}

abbrev pub text_due : Due → List ℕ
text_due (Fulfilled text) = string_bytes text
text_due (Upgraded bytes) = bytes.items
text_due (NotCleared text) = string_bytes text
text_due BadWords = codes "bad words\n"
text_due NotJson = codes "not json\n"
text_due (NotAScript text) = string_bytes text
text_due (NotAnEnvelope text) = string_bytes text
text_due (NotATrace text) = string_bytes text
text_due (NotLawful text) = string_bytes text
text_due ReadFailed = []
text_due TooLong = codes "too long\n"
text_due Memory = []

abbrev pub status_due : Due → Status
status_due (Fulfilled text) = status.Done
status_due (Upgraded bytes) = status.Done
status_due (NotCleared text) = status.ClearFailed
status_due BadWords = status.Usage
status_due NotJson = status.NotJson
status_due (NotAScript text) = status.NotAScript
status_due (NotAnEnvelope text) = status.NotAnEnvelope
status_due (NotATrace text) = status.NotATrace
status_due (NotLawful text) = status.Broken
status_due ReadFailed = status.ReadFailed
status_due TooLong = status.TooLong
status_due Memory = status.Memory

-- Why there is nothing of what is read, by the source.
abbrev pub IsRefusal : Reads → Passage → Due → Type 0
IsRefusal reads read NotJson = HasNoJson reads read
IsRefusal reads read (NotAScript text) = TellsRule reads read (string_bytes text)
IsRefusal reads read (NotAnEnvelope text) = TellsPlace reads read (string_bytes text)
IsRefusal reads read (NotATrace text) = TellsLine reads read (string_bytes text)
IsRefusal reads read (NotLawful text) = TellsBroken reads read (string_bytes text)
IsRefusal reads read ReadFailed = Rose read.faults read.now × ReadsUpTo read.old read.new limit
IsRefusal reads read TooLong = IsTooLong read
IsRefusal reads read Memory = Unit {0}
IsRefusal reads read due = ⊥

-- Why the bytes were not read.
abbrev pub IsUnread : Passage → Due → Type 0
IsUnread read ReadFailed = Rose read.faults read.now × ReadsUpTo read.old read.new limit
IsUnread read TooLong = IsTooLong read
IsUnread read Memory = Unit {0}
IsUnread read due = ⊥

-- What is due where no script was read of some bytes, unless memory was refused.
abbrev pub IsFaultDue : ScriptError → Due → Type 0
IsFaultDue error Memory = Unit {0}
IsFaultDue error.NotJson NotJson = Unit {0}
IsFaultDue (error.NotAScript step number) (NotAScript text) = string_bytes text ≡ not_a_script_text (record { step = step; number = number })
IsFaultDue error due = ⊥

-- A run that ended so is told so, unless memory was refused.
abbrev pub IsToldBy : Ending → Due → Type 0
IsToldBy (ending.Told text) (Fulfilled told) = told ≡ text
IsToldBy (ending.NotCleared place) (NotCleared text) = string_bytes text ≡ not_cleared_text place
IsToldBy end Memory = Unit {0}
IsToldBy end due = ⊥

-- A generated script is due, unless memory was refused.
abbrev pub IsScriptDue : ℕ → Due → Type 0
IsScriptDue n (Fulfilled text) = string_bytes text ≡ generated_text n
IsScriptDue n Memory = Unit {0}
IsScriptDue n due = ⊥

-- A refusal is due where something is read, and leaves the keepers.
abbrev pub IsRefusedFor : {K : Type 0} → Option Reads → Passage → (before after : List K) → Due → Type 0
IsRefusedFor None read before after due = ⊥
IsRefusedFor (Some reads) read before after due = IsRefusal reads read due × (after ≡ before)

module _ {K : Type 0} (keeping : Keeping K) where
  -- When each is due for what was asked. Where no script is run, the keepers stay.
  abbrev pub IsDueFor : Asked → Passage → (before after : List K) → Due → Type 0
  IsDueFor asked read before after (Fulfilled text) = Fulfils keeping asked read before after (string_bytes text)
  IsDueFor asked read before after (Upgraded bytes) = Fulfils keeping asked read before after bytes.items
  IsDueFor asked read before after (NotCleared text) = CannotClear keeping asked read before after (string_bytes text)
  IsDueFor asked read before after BadWords = ⊥
  IsDueFor asked read before after Memory = RunsNothing asked → after ≡ before
  IsDueFor asked read before after due = IsRefusedFor (reads_in asked) read before after due

  -- When each is due for what was asked, if anything was.
  abbrev pub IsDue : Option Asked → Passage → (before after : List K) → Due → Type 0
  IsDue (Some asked) read before after due = IsDueFor asked read before after due
  IsDue None read before after due = (due ≡ BadWords) × (after ≡ before)

-- The keepers come back, and tell the answers that they gave behind those before. Where stores were written behind, nothing is said of these answers.
abbrev pub ComeBack : {K : Type 0} → Keeping K → Option Asked → (before after : List K) → Type 0
ComeBack keeping (Some (Behind n)) before after = AreKept (untold keeping) before after
ComeBack keeping asked before after = AreKept keeping before after

-- It was written, and its status is told, or a write failed in it.
abbrev pub IsWritten : Due → Passage → Status → Type 0
IsWritten due written end =
    ((end ≡ status_due due) × Appends written.old written.new (text_due due))
    ⊎ ((end ≡ status.WriteFailed) × Rose written.faults written.now × AppendsPrefix written.old written.new (text_due due))
