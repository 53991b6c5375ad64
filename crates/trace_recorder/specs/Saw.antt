-- What a recorder has seen, and what it then has told.
use Rattle.std.specs.Prelude.{◌≡◌, ℕ, ◌<◌, List, map, Some, position, slice_get}
use Rattle.std.specs.Str.{bytes_eq}
use Rattle.model_history.specs.Table.{identity_limit}
use Rattle.model_history.specs.Texts.{Text}
use Rattle.model_members.specs.Node.{KeyDecl}
use Rattle.model_kinds.specs.declared.kind.Kind.{Kind}
use Rattle.model_kinds.specs.declared.operation.Op.{Op}
use Rattle.model_traces.specs.Traces.{TraceLine}
use Rattle.base_vectors.specs.Vectors.{number_at}
use Rattle.script_reading.specs.declared.script.ScriptKey.{ScriptKey}
use Rattle.trace_lines.specs.Meant.{key_meant, line_meant}
use Rattle.trace_lines.specs.WellFormed.{IsWellFormed}
use Rattle.trace_told.specs.Told.{Counts, none_told, count_lines, told_of}
use Rattle.trace_recorder.specs.Rows.{vector_at}
use Rattle.trace_recorder.specs.declared.rows.Row.{Row}
use Rattle.trace_recorder.specs.declared.recorder.Recorder.{Recorder}

-- the row of each declared key has these counts
abbrev pub AreCounted : List ScriptKey → List Row → Counts → Type 0
AreCounted keys rows counts =
    (name : Text) (place : ℕ) (row : Row) → position (λ key. bytes_eq key.key name) keys ≡ Some place → slice_get rows place ≡ Some row
    → (i x : ℕ) → x < identity_limit → number_at (vector_at row.held.items i) x ≡ counts i name x

-- it saw these lines, and told what was news
pub record Saw (decls : List (KeyDecl Kind)) (code : Recorder) (seen : List (TraceLine Op)) : Type 0 where
  pub keys : map key_meant code.keys ≡ decls
  pub lines : map line_meant code.lines ≡ told_of decls none_told seen
  pub counted : AreCounted code.keys code.rows.items (count_lines none_told (told_of decls none_told seen))

-- what it has told keeps the bounds of traces
abbrev pub IsFormed : Recorder → Type 0
IsFormed code = IsWellFormed (record { keys = code.keys; lines = code.lines })
