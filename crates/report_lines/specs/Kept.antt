-- A script's run over keepers: what their answers do to it, and what it does to them.
--     IsRunOver        the text tells of the run, tied to the keepers place by place
--     IsReportOver, IsSummaryOver        it is the report of the run, or its final block alone
--     IsPlayed        how a run ended, and what every end leaves of the keepers
use Rattle.std.specs.Prelude.{◌≡◌, ℕ, ◌<◌, ◌≤◌, List, [], length, get_or, true, Option, Some, IsSome, find, option_map, slice_get, All, Any, ◌⊎◌, string_bytes}
use Rattle.std.specs.Str.{bytes_eq}
use Rattle.model_history.specs.Texts.{Text}
use Rattle.model_history.specs.History.{History}
use Rattle.base_outside.specs.Causes.{Rose}
use Rattle.model_members.specs.DataType.{DataType}
use Rattle.model_members.specs.World.{Store}
use Rattle.model_members.specs.Script.{KeeperAnswers, Playing, none_fails}
use Rattle.model_kinds.specs.declared.kind.Kind.{Kind}
use Rattle.model_kinds.specs.declared.operation.Op.{Op}
use Rattle.model_kinds.specs.declared.shown.Shown.{Shown}
use Rattle.data_codec.specs.Stored.{entry_stored}
use Rattle.member_keeper.specs.Tables.{Table}
use Rattle.member_keeper.specs.declared.keeper.Keeper.{Ghosts as Keeping}
use Rattle.world_places.specs.Keeping.{Given, Keeps}
pub use Rattle.world_places.specs.Keeping.{AtEachPlace, AreKept, IsNotCleared}
use Rattle.script_reading.specs.declared.script.Script.{Script}
use Rattle.script_reading.specs.declared.script.ScriptKey.{ScriptKey}
use Rattle.script_reading.specs.WellFormed.{HasNoClients}
use Rattle.report_lines.specs.declared.playing.Ending.{Ending}
use Rattle.report_lines.specs.declared.playing.Ending.TheVariants.{Told, NotCleared, Memory}
use Rattle.report_lines.specs.Run.{HasNoRestart, ending, IsReport, BeginsReport, IsTheReport, BeginsTheReport, IsSummary, GetsIncludeUpdates, SettlesAreAsTold}

-- THE KEEPERS OF THE PLACES

-- the answers of the model, from those that each place's keeper gave. A call past their end was not made
abbrev pub answers_by : Given → KeeperAnswers
answers_by given place call = get_or (given place) call true

-- the bytes that stand at a name
abbrev pub bytes_at : Table → Text → Option (List ℕ)
bytes_at table name = option_map (λ stored. stored.bytes) (find (λ stored. bytes_eq stored.key name) table)

module _ (history_byte : Kind → History Op → ℕ) (history_spelled : Kind → History Op → List ℕ) where
  -- at each durable key stand the stored bytes of what the store has there, and nothing stands at another name
  pub record HoldsStore (keys : List ScriptKey) (table : Table) (store : Store Op) : Type 0 where
    pub durable : All (λ key. key.durable ≡ true → bytes_at table key.key ≡ option_map (entry_stored history_byte history_spelled key.kind) (store key.key)) keys
    pub others : All (λ stored. Any (λ key. (key.key ≡ stored.key) × (key.durable ≡ true)) keys) table

module _ {K : Type 0} (keeping : Keeping K) where
  -- What a store took is loaded again: each keeper tells its table, or nothing is loaded
  abbrev pub LoadWhatTheyTook : Script → List K → Type 0
  LoadWhatTheyTook script keepers = All (λ keeper. IsSome (keeping.table keeper)) keepers ⊎ HasNoRestart script

  -- no count rose
  abbrev pub NoneRose : List K → List K → Type 0
  NoneRose old new = AtEachPlace (λ place before after. Rose (keeping.faults before) (keeping.faults after) → ⊥) old new

module _ (data_type : DataType Kind Op Shown) (history_byte : Kind → History Op → ℕ) (history_spelled : Kind → History Op → List ℕ) {K : Type 0} (keeping : Keeping K) where
  -- The keepers were called as often as in a run that ended here, and each told table holds its place's store then
  pub record EndsOver (given : Given) (script : Script) (last : Playing Kind Op Shown) (old new : List K) : Type 0 where
    pub called : (place : ℕ) → place < 8 → length (given place) ≡ last.calls place
    pub stored : AtEachPlace (λ place before after. (table : Table) → keeping.table after ≡ Some table → HoldsStore history_byte history_spelled script.keys table (last.world.stores place)) old new

  -- The run of a script without clients: its one end, its majority gets and what its settles tell
  pub record IsTheRun (answers : KeeperAnswers) (script : Script) (last : Playing Kind Op Shown) : Type 0 where
    pub ends : last ≡ ending data_type history_byte history_spelled answers script
    -- majority gets include the majority updates before them
    pub majorities : GetsIncludeUpdates data_type history_byte history_spelled answers script
    -- and what its settles tell is so
    pub settles : SettlesAreAsTold data_type history_byte history_spelled answers script

  -- The text is the report of that run, and where no call failed it is a function of the script
  pub record IsPlainReport (given : Given) (script : Script) (last : Playing Kind Op Shown) (old new : List K) (text : List ℕ) : Type 0 where
    pub run : IsTheRun (answers_by given) script last
    pub reported : IsTheReport data_type history_byte history_spelled (answers_by given) script text
    pub unfailing : NoneRose keeping old new → IsTheReport data_type history_byte history_spelled none_fails script text

  -- The text is the report of a run with these answers, in which the keepers were called
  pub record IsWholeReport (given : Given) (script : Script) (old new : List K) (text : List ℕ) : Type 0 where
    pub reported : IsReport data_type history_byte history_spelled (answers_by given) script text
    pub over : EndsOver given script reported.last old new
    -- where no call failed it is that of a run without failures
    pub unfailing : NoneRose keeping old new → IsReport data_type history_byte history_spelled none_fails script text
    -- of a script without clients it is the one report
    pub plain : HasNoClients script → IsPlainReport given script reported.last old new text

  -- The text is the final block of the run of a script without clients
  pub record IsWholeSummary (given : Given) (script : Script) (old new : List K) (text : List ℕ) : Type 0 where
    pub reported : IsSummary data_type history_byte history_spelled (answers_by given) script text
    pub over : EndsOver given script (ending data_type history_byte history_spelled (answers_by given) script) old new
    pub run : IsTheRun (answers_by given) script (ending data_type history_byte history_spelled (answers_by given) script)
    pub unfailing : NoneRose keeping old new → IsSummary data_type history_byte history_spelled none_fails script text

  -- The text begins as the report of a run, and of the one run where there are no clients
  pub record Begins (answers : KeeperAnswers) (script : Script) (text : List ℕ) : Type 0 where
    pub begun : BeginsReport data_type history_byte history_spelled answers script text
    pub plain : HasNoClients script → BeginsTheReport data_type history_byte history_spelled answers script text

  -- The keepers gave these answers, and the text begins so. It tells of the whole run, if the keepers load what they took
  pub record IsRunOver (begins : KeeperAnswers → Script → List ℕ → Type 0) (tells : Given → Script → List K → List K → List ℕ → Type 0) (script : Script) (old new : List K) (text : List ℕ) : Type 0 where
    pub given : Given
    pub kept : AtEachPlace (λ place. Keeps keeping (given place)) old new
    pub others : (place : ℕ) → length old ≤ place → given place ≡ []
    -- the first answer of each is to the clear at the start, which did not fail
    pub cleared : (place : ℕ) → place < length old → slice_get (given place) 0 ≡ Some true
    pub begun : begins (answers_by given) script text
    pub whole : LoadWhatTheyTook keeping script old → tells given script old new text

  -- the report of a run, which begins with the lines before its first restart
  abbrev pub IsReportOver : Script → List K → List K → List ℕ → Type 0
  IsReportOver = IsRunOver Begins IsWholeReport

  -- the final block of a run alone, of which nothing is told before the run's end
  abbrev pub IsSummaryOver : Script → List K → List K → List ℕ → Type 0
  IsSummaryOver = IsRunOver (λ answers script text. Unit {0}) IsWholeSummary

module _ {S K : Type 0} (keeping : Keeping K) (IsOver : S → List K → List K → List ℕ → Type 0) where
  -- how a script's run ended, where this is said of its text
  abbrev pub EndsSo : Ending → S → List K → List K → Type 0
  EndsSo (Told text) script old new = IsOver script old new (string_bytes text)
  EndsSo (NotCleared place) script old new = IsNotCleared keeping place old new
  EndsSo Memory script old new = Unit {0}

  pub record IsPlayed (script : S) (old new : List K) (end : Ending) : Type 0 where
    pub ends : EndsSo end script old new
    pub kept : AreKept keeping old new

-- it ended before its first step, whatever its steps are
abbrev pub IsUnplayed : {K : Type 0} → Keeping K → List K → List K → Ending → Type 0
IsUnplayed keeping = IsPlayed keeping (λ (steps : Unit {0}) old new text. ⊥) tt
