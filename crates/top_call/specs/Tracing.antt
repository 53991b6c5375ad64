-- Scripts on a source that are to be traced: which are, what their traces are, and what is due for them.
--     BreaksTraced        the first rule that bytes break: one of scripts, or, for the first settle, rule 16
--     IsTraceOfScript        the bytes spell such a script, and the text is that of its trace
--     TracedCallsFor        the status that they call for
use Rattle.std.specs.Prelude.{◌≡◌, ℕ, ◌+◌, ◌<◌, ◌≤◌, List, ◌∷◌, ◌++◌, length, Bool, true, false, codes, decimal, string_bytes}
use Rattle.model_kinds.specs.SixKinds.{six_kinds}
use Rattle.member_keeper.specs.declared.keeper.Keeper.{Ghosts as Keeping}
use Rattle.script_reading.specs.declared.clients.Clients.TheVariants.{Refused}
use Rattle.script_reading.specs.declared.clients.RunStep.{RunStep}
use Rattle.script_reading.specs.declared.clients.RunStep.TheVariants.{Plain}
use Rattle.script_reading.specs.declared.fault.Rule.{Rule}
use Rattle.script_reading.specs.declared.script.Script.{Script}
use Rattle.script_reading.specs.declared.script.Step.TheVariants.{Settle}
use Rattle.script_reading.specs.Reading.{Spells, Breaks, HasNoReading}
use Rattle.script_reading.specs.WellFormed.{HasNoClients}
use Rattle.data_value.specs.DataSpelled.{history_byte, history_spelled}
use Rattle.trace_played.specs.Traced as traced
use Rattle.trace_played.specs.Traced.{HasNoSettle}
use Rattle.top_call.specs.Passages.{Passage, ReadsWhole, limit}
use Rattle.top_call.specs.declared.due.Due.{Due}
use Rattle.top_call.specs.declared.due.Due.TheVariants.{NotAScript, Memory}
use Rattle.top_call.specs.declared.status.Status.{Status}
use Rattle.top_call.specs.declared.status.Status.TheVariants as status

-- it is a settle
abbrev pub is_a_settle : RunStep → Bool
is_a_settle (Plain Settle) = true
is_a_settle _ = false

-- the rule that the step of this number breaks, if it is a settle
abbrev pub settle_rule : ℕ → Rule
settle_rule step = record { step = step; number = 16 }

-- The first rule that they break: one of scripts without clients, or that of the first settle.
pub data BreaksTraced (bytes : List ℕ) : Rule → Type 0 where
  of_scripts : (broken : Rule) → Breaks Refused bytes broken → BreaksTraced bytes broken
  settles : (script : Script) (before rest : List RunStep) → Spells Refused bytes script → script.steps ≡ before ++ Plain Settle ∷ rest → HasNoSettle before → BreaksTraced bytes (settle_rule (length before + 1))

-- The step of this number, from 1, is the first settle.
pub record IsSettleAt (steps : List RunStep) (number : ℕ) : Type 0 where
  pub before : List RunStep
  pub rest : List RunStep
  pub are : steps ≡ before ++ Plain Settle ∷ rest
  pub none : HasNoSettle before
  pub numbered : number ≡ length before + 1

-- What is due where the step of this number is a settle, unless memory was refused.
abbrev pub IsSettleDue : ℕ → Due → Type 0
IsSettleDue step Memory = Unit {0}
IsSettleDue step (NotAScript text) = string_bytes text ≡ codes "not a script: step " ++ decimal step ++ codes " rule " ++ decimal 16 ++ codes "\n"
IsSettleDue step due = ⊥

-- The bytes spell a script without clients and settles.
pub record SpellsTraced (bytes : List ℕ) (script : Script) : Type 0 where
  pub spelled : Spells Refused bytes script
  pub plain : HasNoClients script
  pub unsettled : HasNoSettle script.steps

-- The source was read to its end, and its bytes spell this script.
pub record HasTraced (read : Passage) (script : Script) : Type 0 where
  pub bytes : List ℕ
  pub is_read : ReadsWhole read bytes
  pub spells : SpellsTraced bytes script

module _ {K : Type 0} (keeping : Keeping K) where
  -- The text is that of the trace of a script's run over the keepers.
  abbrev pub IsTraceOver : Script → (before after : List K) → List ℕ → Type 0
  IsTraceOver = traced.IsTraceOver six_kinds history_byte history_spelled keeping

  -- The bytes spell a script, and the text is that of its trace.
  pub record IsTraceOfScript (bytes : List ℕ) (before after : List K) (text : List ℕ) : Type 0 where
    pub script : Script
    pub spells : SpellsTraced bytes script
    pub traced : IsTraceOver script before after text

-- The status that the bytes of a source call for, where a script that is to be traced is read from it.
pub data TracedCallsFor (bytes : List ℕ) : Status → Type 0 where
  done : (script : Script) → length bytes ≤ limit → SpellsTraced bytes script → TracedCallsFor bytes status.Done
  not_json : length bytes ≤ limit → HasNoReading bytes → TracedCallsFor bytes status.NotJson
  not_a_script : (broken : Rule) → length bytes ≤ limit → BreaksTraced bytes broken → TracedCallsFor bytes status.NotAScript
  too_long : limit < length bytes → TracedCallsFor bytes status.TooLong
