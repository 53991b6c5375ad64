-- What holds of a call that serves words.
--     IsDone        with status `Done` the text is what was asked for
--     Cause        why a status is answered
--     Answers        what the words and the bytes of the source call for is answered
--     Returns        the keepers come back
use Rattle.std.specs.Prelude.{◌≡◌, ℕ, ◌≤◌, List, [], codes, String, Some, ◌⊎◌}
use Rattle.std.specs.declared.alloc.Global.{Global}
use Rattle.std.specs.Io.KnownBytes.{Appends}
use Rattle.base_outside.specs.Causes.{Rose}
use Rattle.base_outside.specs.Transfers.{ReadsUpTo, AppendsPrefix}
use Rattle.member_keeper.specs.declared.keeper.Keeper.{Ghosts as Keeping}
use Rattle.script_reading.specs.declared.clients.Clients.{Clients}
use Rattle.script_reading.specs.declared.clients.Clients.TheVariants.{Allowed}
use Rattle.report_lines.specs.Kept.{AreKept}
use Rattle.top_call.specs.Answers.{IsOfTold, Fulfils, CannotClear, HasNoJson, IsTooLong, TellsRule, TellsPlace, TellsLine, TellsBroken, SomeRose, IsTextDue, CallsFor, IsUnlessRefused}
use Rattle.top_call.specs.Asking.{Reads, RunsNothing, IsAsked, AskNothing, AskToRead, AskNothingBehind}
use Rattle.top_call.specs.Behind.{untold}
use Rattle.top_call.specs.Passages.{Traffic, limit}
use Rattle.top_call.specs.Status.{code_of}
use Rattle.top_call.specs.declared.status.Status.{Status}
use Rattle.top_call.specs.declared.status.Status.TheVariants as status
use Rattle.top_call.specs.declared.words.Asked.{Asked}
use Rattle.top_call.specs.declared.words.Asked.TheVariants.{Generate, Summarize}

module _ {K : Type 0} (keeping : Keeping K) (t : Traffic K) (served : Clients) (words : List (String Global)) where
  -- A refusal has words for which the source is read; the keepers stay, and this was written.
  pub record Refuses (Why : Reads → Type 0) (text : List ℕ) : Type 0 where
    pub reads : Reads
    pub asked : AskToRead served words reads
    pub why : Why reads
    pub kept : t.after ≡ t.before
    pub told : Appends t.written.old t.written.new text

  -- Why a status is answered, and what was written then. Where no script is run, the keepers stay.
  abbrev pub Cause : Status → Type 0
  Cause status.Done = (asked : Asked) × (text : List ℕ) × IsAsked served asked words × Fulfils keeping asked t.read t.before t.after text × Appends t.written.old t.written.new text
  Cause status.Usage = AskNothing served words × (t.after ≡ t.before) × Appends t.written.old t.written.new (codes "bad words\n")
  Cause status.NotJson = Refuses (λ reads. HasNoJson reads t.read) (codes "not json\n")
  Cause status.NotAScript = (text : List ℕ) × Refuses (λ reads. TellsRule reads t.read text) text
  Cause status.NotAnEnvelope = (text : List ℕ) × Refuses (λ reads. TellsPlace reads t.read text) text
  Cause status.NotATrace = (text : List ℕ) × Refuses (λ reads. TellsLine reads t.read text) text
  Cause status.Broken = (text : List ℕ) × Refuses (λ reads. TellsBroken reads t.read text) text
  Cause status.ReadFailed = Refuses (λ reads. Rose t.read.faults t.read.now × ReadsUpTo t.read.old t.read.new limit) []
  Cause status.WriteFailed = Rose t.written.faults t.written.now × ((text : List ℕ) × IsTextDue keeping served words t.read t.before t.after text × AppendsPrefix t.written.old t.written.new text)
  Cause status.TooLong = Refuses (λ reads. IsTooLong t.read) (codes "too long\n")
  Cause status.Memory = Appends t.written.old t.written.new []
  Cause status.ClearFailed = (asked : Asked) × (text : List ℕ) × IsAsked served asked words × CannotClear keeping asked t.read t.before t.after text × Appends t.written.old t.written.new text

  module _ (end : Status) where
    -- With status `Done` what the words ask for is what the sink's new bytes are. For `plain`, `run`, `watch` and `behind`, the source was read to its
    -- end, its bytes spell a script, and they are the report of its run over the keepers; for `upgrade` they are an entry, and its format 2; for `check` a lawful trace, and `lawful`; for `trace` a script without clients and settles, and the trace of its run.
    pub record IsDone : Type 0 where
      pub done : (asked : Asked) → IsAsked served asked words → end ≡ status.Done → (text : List ℕ) × Fulfils keeping asked t.read t.before t.after text × Appends t.written.old t.written.new text
      -- the same of what is read, where the source tells what it has left and the sink what it took
      pub told : (reads : Reads) (bytes earlier : List ℕ) (a : AskToRead served words reads) → end ≡ status.Done → t.read.old ≡ Some bytes → t.written.old ≡ Some earlier
          → IsOfTold keeping a.asked reads bytes earlier t.read.new t.written.new t.before t.after

    -- What the words call for, and where it is read the bytes of a source that tells them, is answered, unless a call fails or memory is refused.
    pub record Answers : Type 0 where
      pub nothing : AskNothing served words → (end ≡ status.Usage) ⊎ (end ≡ status.WriteFailed)
      pub unrun : (asked : Asked) → RunsNothing asked → IsAsked served asked words → t.after ≡ t.before
      pub complete : (reads : Reads) (bytes : List ℕ) (wanted : Status) → AskToRead served words reads → t.read.old ≡ Some bytes → CallsFor reads bytes wanted
          → IsUnlessRefused (Rose t.read.faults t.read.now) (Rose t.written.faults t.written.now) (SomeRose keeping t.before t.after) wanted end
      pub generates : (n : ℕ) → IsAsked served (Generate n) words → IsUnlessRefused ⊥ (Rose t.written.faults t.written.now) ⊥ status.Done end
      pub summarizes : (n : ℕ) → IsAsked served (Summarize n) words → IsUnlessRefused ⊥ (Rose t.written.faults t.written.now) (SomeRose keeping t.before t.after) status.Done end

  -- Whatever was asked, the keepers come back in their order, and no count falls. What they tell of their answers is told behind what they told, unless stores were written behind.
  pub record Returns : Type 0 where
    pub kept : AreKept (untold keeping) t.before t.after
    pub told : AskNothingBehind served words → AreKept keeping t.before t.after
    pub source_later : t.read.faults ≤ t.read.now
    pub sink_later : t.written.faults ≤ t.written.now

-- The process ended with the number of a status, and all of this holds of the call that answered it.
pub record Exits {K : Type 0} (keeping : Keeping K) (found : List K → Traffic K) (words : List (String Global)) (code : ℕ) : Type 0 where
  pub after : List K
  pub end : Status
  pub is : code ≡ code_of end
  pub done : IsDone keeping (found after) Allowed words end
  pub cause : Cause keeping (found after) Allowed words end
  pub answers : Answers keeping (found after) Allowed words end
