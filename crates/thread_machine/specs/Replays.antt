-- Histories and the machine that made them.
use Rattle.std.specs.Prelude.{◌≡◌, ℕ, List, [], ◌∷◌, ◌++◌, take, slice_get, Bool, Some, count_by}
use Rattle.thread_machine.specs.declared.machine.Machine.{Ghosts}
use Rattle.thread_machine.specs.declared.entry.Entry.{Entry}
use Rattle.thread_machine.specs.Faults.{RoseBy}

module _ {M I F O R : Type 0} (meaning : Ghosts M I F O R) where
  -- A machine that began so may be so after these entries. Between two of them it may have refused inputs
  pub data Replays : M → List (Entry M I F O R) → M → Type 0 where
    begins : (start : M) → Replays start [] start
    refused : (start before after : M) (history : List (Entry M I F O R)) → Replays start history before → meaning.IsUnchanged before after → Replays start history after
    stepped : (start before after : M) (history : List (Entry M I F O R)) (e : Entry M I F O R) → Replays start history before → meaning.Steps before e.input e.fate e.output after → Replays start (history ++ e ∷ []) after

  abbrev pub is_failed : Entry M I F O R → Bool
  is_failed e = meaning.is_fault e.fate

  -- the machine now is a replay of the history from the machine at the start, and has counted each fate that failed
  pub record IsReplay (start : M) (history : List (Entry M I F O R)) (now : M) : Type 0 where
    pub replays : Replays start history now
    pub faults : RoseBy (count_by is_failed history) (meaning.faults start) (meaning.faults now)

  -- the step of one entry, from a replay of those before it
  pub record IsStepAt (start : M) (history : List (Entry M I F O R)) (index : ℕ) (e : Entry M I F O R) : Type 0 where
    pub before : M
    pub after : M
    pub replays : Replays start (take index history) before
    pub steps : meaning.Steps before e.input e.fate e.output after

  -- each entry of a history that leads here is such a step
  abbrev pub EntriesAreSteps : (start now : M) → List (Entry M I F O R) → Type 0
  EntriesAreSteps start now history = (index : ℕ) (e : Entry M I F O R) → Replays start history now → slice_get history index ≡ Some e → IsStepAt start history index e
