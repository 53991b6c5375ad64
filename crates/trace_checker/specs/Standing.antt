-- What the checker keeps of a key, and what it stands for.
use Rattle.std.specs.Prelude.{◌≡◌, ℕ, ◌+◌, List, length, Option, None, Some, find, slice_get}
use Rattle.std.specs.Str.{bytes_eq}
use Rattle.model_history.specs.Texts.{Text}
use Rattle.model_history.specs.Log.{IsTakenFrom}
use Rattle.model_history.specs.History.{History, versions, IsHistory, IsExactlyPruned}
use Rattle.model_kinds.specs.declared.operation.Op.{Op}
use Rattle.base_vectors.specs.Vectors.{IsNormal, raised, number_at}
use Rattle.data_meaning.specs.declared.record.Action.{Action}
use Rattle.data_meaning.specs.Records.{action_of}
use Rattle.script_reading.specs.declared.script.ScriptKey.{ScriptKey}
use Rattle.model_traces.specs.Traces.{TraceState, recorded}
use Rattle.model_traces.specs.Meaning.{IsConsistent}
use Rattle.trace_checker.specs.declared.key_history.KeyHistory.{KeyHistory}
use Rattle.trace_values.specs.Rows.{AreRows, IsPushed}
use Rattle.trace_values.specs.Standing.{StandForValues}
use Rattle.trace_checker.specs.Rows.{vector_of, IsPut}
use Rattle.trace_checker.specs.Prunes.{ArePrunes, AreDeletes}

-- as in every state that lawful lines lead to
pub record AreKept (made : History Op) (held : ℕ → History Op) : Type 0 where
  pub history : IsHistory made
  pub taken : (i : ℕ) → IsTakenFrom made (held i)
  pub own : (i : ℕ) → held i i ≡ made i
  pub exact : (i : ℕ) → IsExactlyPruned (held i)

-- all records of a key, and what each identity holds of it
pub record StandsForKey (code : KeyHistory) (made : History Op) (held : ℕ → History Op) : Type 0 where
  pub rows : AreRows code.rows.items made
  pub vectors : (i : ℕ) → number_at (vector_of code.held.items i) ≡ versions (held i)
  pub prunes : ArePrunes code.prunes made
  pub deletes : AreDeletes code.deletes made
  pub values : StandForValues code.values made

-- a part of the records made, and what is kept to tell what it means
pub record IsToldBy (code : KeyHistory) (made H : History Op) : Type 0 where
  pub rows : AreRows code.rows.items made
  pub deletes : AreDeletes code.deletes made
  pub values : StandForValues code.values made
  pub history : IsHistory made
  pub taken : IsTakenFrom made H

-- a record of a member was added, whose past is what the member held, and the member holds it
pub record IsAdded (old new : KeyHistory) (at number : ℕ) (action : Action) : Type 0 where
  pub normal : IsNormal (vector_of old.held.items at)
  pub rows : IsPushed old.rows.items new.rows.items at (record { origin = at; number = number; action = action; past = vector_of old.held.items at })
  pub held : IsPut old.held.items new.held.items at (raised (vector_of old.held.items at) at number)
  pub prunes : new.prunes ≡ old.prunes
  pub deletes : new.deletes ≡ old.deletes
  pub values : (made H : History Op) → StandForValues old.values made → AreRows old.rows.items made → IsHistory made → IsTakenFrom made H → H at ≡ made at → number_at (vector_of old.held.items at) ≡ versions H → number ≡ length (made at) + 1
      → StandForValues new.values (recorded made at H (action_of action))

-- of each declared key what a trace came to
pub record StandFor (keys : List ScriptKey) (codes : List KeyHistory) (state : TraceState Op) : Type 0 where
  pub count : length codes ≡ length keys
  pub each : (n : ℕ) (key : ScriptKey) (code : KeyHistory) → slice_get keys n ≡ Some key → slice_get codes n ≡ Some code → StandsForKey code (state.made key.key) (λ i. state.held i key.key)
  pub consistent : IsConsistent state

-- the first of the keys that has the name
abbrev pub IsPlaceOf : List ScriptKey → Text → Option ℕ → Type 0
IsPlaceOf keys name None = find (λ (key : ScriptKey). bytes_eq key.key name) keys ≡ None
IsPlaceOf keys name (Some place) = (key : ScriptKey) × (slice_get keys place ≡ Some key) × (find (λ (key : ScriptKey). bytes_eq key.key name) keys ≡ Some key)
