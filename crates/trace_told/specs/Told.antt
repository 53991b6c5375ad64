-- What a recorder tells of what it sees: what is news, of declared keys.
--     Counts, count_lines         how many records of each identity each member holds of each key, by the lines so far
--     is_told, told_of         a line that is told, and those of many lines
--     TellsTrace         what is told of all that is seen of a run is its trace
use Rattle.std.specs.Prelude.{◌≡◌, ℕ, suc, List, [], ◌∷◌, Bool, true, not, ◌&&◌, if◌then◌else◌, is_some, find}
use Rattle.std.specs.Str.{bytes_eq}
use Rattle.model_history.specs.Table.{with_at}
use Rattle.model_history.specs.Texts.{Text}
use Rattle.model_history.specs.Vector.{VersionVector, none_counted}
use Rattle.model_members.specs.DataType.{Replication}
use Rattle.model_members.specs.Node.{KeyDecl, with_text_at}
use Rattle.model_members.specs.Script.{ScriptStep, KeeperAnswers}
use Rattle.model_traces.specs.Traces.{Act, TraceLine}
use Rattle.model_traces.specs.Traces.Act.{Records, Holds, Shows}
use Rattle.model_traces.specs.Runs.{counts_alike, trace_of}
use Rattle.trace_told.specs.Seen.{seen_of}

abbrev pub Counts : Type 0
Counts = ℕ → Text → VersionVector

abbrev pub none_told : Counts
none_told i key = none_counted

-- the same number at each identity
unfoldable pub are_alike : VersionVector → VersionVector → Bool
are_alike held known = counts_alike held known

abbrev pub is_declared : {Kind : Type 0} → List (KeyDecl Kind) → Text → Bool
is_declared keys name = is_some (find (λ decl. bytes_eq decl.name name) keys)

module _ {Op : Type 0} where
  -- how many a member then holds of the key
  abbrev pub counted_after : VersionVector → ℕ → Act Op → VersionVector
  counted_after held i (Records action) = with_at held i (suc (held i))
  counted_after held i (Holds known) = known
  counted_after held i (Shows text) = held

  abbrev pub count_line : Counts → TraceLine Op → Counts
  count_line counts line = with_at counts line.member (with_text_at (counts line.member) line.key (counted_after (counts line.member line.key) line.member line.act))

  abbrev pub count_lines : Counts → List (TraceLine Op) → Counts
  count_lines counts [] = counts
  count_lines counts (line ∷ lines) = count_lines (count_line counts line) lines

  -- what is held is news where the lines so far tell something else
  abbrev pub is_news : VersionVector → Act Op → Bool
  is_news held (Holds known) = not (are_alike held known)
  is_news held _ = true

  module _ {Kind : Type 0} (keys : List (KeyDecl Kind)) where
    abbrev pub is_told : Counts → TraceLine Op → Bool
    is_told counts line = is_declared keys line.key && is_news (counts line.member line.key) line.act

    -- what is told of lines that are seen, one after another
    abbrev pub told_of : Counts → List (TraceLine Op) → List (TraceLine Op)
    told_of counts [] = []
    told_of counts (line ∷ lines) = if is_told counts line then line ∷ told_of (count_line counts line) lines else told_of counts lines

-- what is told of all that is seen of a script's run is its trace
abbrev pub TellsTrace : {Kind Op Shown : Type 0} → Replication Kind Op Shown → (Shown → Text) → ℕ → List (KeyDecl Kind) → KeeperAnswers → List (ScriptStep Op) → Type 0
TellsTrace D value_text members keys answers steps = told_of keys none_told (seen_of D value_text answers members keys steps) ≡ (trace_of D value_text answers members keys steps).lines
