-- A script's run whose stores are written behind: the keeper of a place stands inside one that gathers what is stored, and gets the last of it at the end.
--     untold        the keepers inside, whose answers are not those that members got
--     IsRunBehind        the text tells of such a run, tied to the keepers inside place by place
--     IsNotClearedBehind        a keeper inside failed to be cleared for it
--     IsPlayedBehind        how it ended, and what every end leaves of the keepers inside
use Rattle.std.specs.Prelude.{◌≡◌, ℕ, ◌<◌, List, [], ◌∷◌, length, false, None, Some, string_bytes}
use Rattle.base_outside.specs.Causes.{Rose}
use Rattle.model_kinds.specs.SixKinds.{six_kinds}
use Rattle.model_kinds.specs.declared.kind.Kind.{Kind}
use Rattle.model_kinds.specs.declared.operation.Op.{Op}
use Rattle.model_kinds.specs.declared.shown.Shown.{Shown}
use Rattle.model_members.specs.Script.{Playing}
use Rattle.member_keeper.specs.Tables.{Table}
use Rattle.member_keeper.specs.declared.keeper.Keeper.{Ghosts as Keeping}
use Rattle.data_value.specs.DataSpelled.{history_byte, history_spelled}
use Rattle.world_places.specs.Keeping.{Given, Keeps, IsCleared}
use Rattle.script_reading.specs.declared.script.Script.{Script}
use Rattle.report_lines.specs.Kept as kept
use Rattle.report_lines.specs.Kept.{AtEachPlace, AreKept, HoldsStore, answers_by}
use Rattle.report_lines.specs.Run.{ending}
use Rattle.report_lines.specs.declared.playing.Ending.{Ending}
use Rattle.report_lines.specs.declared.playing.Ending.TheVariants.{Told, NotCleared, Memory}

-- The same keepers, of whose answers nothing is told: a member is answered by the keeper that stands round its own.
abbrev pub untold : {K : Type 0} → Keeping K → Keeping K
untold keeping = record keeping { answers = λ _. None }

module _ {K : Type 0} (keeping : Keeping K) where
  -- The members' calls were answered as often as in a run that ended here. Each told table holds its place's store then, unless its keeper's count rose
  pub record EndsBehind (given : Given) (script : Script) (last : Playing Kind Op Shown) (before after : List K) : Type 0 where
    pub called : (place : ℕ) → place < 8 → length (given place) ≡ last.calls place
    pub stored : AtEachPlace (λ place old new. (Rose (keeping.faults old) (keeping.faults new) → ⊥) → (table : Table) → keeping.table new ≡ Some table → HoldsStore history_byte history_spelled script.keys table (last.world.stores place)) before after

  -- The text is the report of the run with these answers, and where no count rose it is a function of the script
  pub record IsWholeBehind (given : Given) (script : Script) (before after : List K) (text : List ℕ) : Type 0 where
    pub reported : kept.IsPlainReport six_kinds history_byte history_spelled keeping given script (ending six_kinds history_byte history_spelled (answers_by given) script) before after text
    pub over : EndsBehind given script (ending six_kinds history_byte history_spelled (answers_by given) script) before after

  -- Members got these answers: at each place no more of them are failures than the count of the keeper inside rose by. The text tells of the run with them
  abbrev pub IsRunBehind : Script → List K → List K → List ℕ → Type 0
  IsRunBehind = kept.IsRunOver six_kinds history_byte history_spelled (untold keeping) (kept.Begins six_kinds history_byte history_spelled (untold keeping)) IsWholeBehind

  -- the keepers inside before a place forgot all, the count of the place's rose, and those behind it were not called
  pub record IsNotClearedBehind (place : ℕ) (before after : List K) : Type 0 where
    pub within : place < length before
    pub earlier : AtEachPlace (λ p old new. p < place → IsCleared (untold keeping) old new) before after
    pub failed : AtEachPlace (λ p old new. p ≡ place → Keeps (untold keeping) (false ∷ []) old new) before after
    pub later : AtEachPlace (λ p old new. place < p → new ≡ old) before after

module _ {K : Type 0} (keeping : Keeping K) (IsOver : Script → List K → List K → List ℕ → Type 0) where
  -- how it ended, where this is said of its text
  abbrev pub EndsSo : Ending → Script → List K → List K → Type 0
  EndsSo (Told text) script before after = IsOver script before after (string_bytes text)
  EndsSo (NotCleared place) script before after = IsNotClearedBehind keeping place before after
  EndsSo Memory script before after = Unit {0}

  pub record IsPlayedBehind (script : Script) (before after : List K) (end : Ending) : Type 0 where
    pub ends : EndsSo end script before after
    pub kept : AreKept (untold keeping) before after
