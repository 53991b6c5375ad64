-- The bounds that every trace keeps.
use Rattle.std.specs.Prelude.{◌≢◌, ◌≡◌, ℕ, ◌<◌, ◌≤◌, ◌^◌, length, true, All, AllPairs}
use Rattle.std.specs.Str.{IsUtf8}
use Rattle.model_history.specs.Table.{identity_limit}
use Rattle.base_vectors.specs.Vectors.{IsNormal, number_at}
use Rattle.script_reading.specs.Fields.{is_key_name}
use Rattle.script_reading.specs.WellFormed.{IsOperation}
use Rattle.trace_lines.specs.declared.trace.TraceAct.{TraceAct}
use Rattle.trace_lines.specs.declared.trace.TraceAct.TheVariants as act
use Rattle.trace_lines.specs.declared.trace.TraceLine.{TraceLine}
use Rattle.trace_lines.specs.declared.trace.Trace.{Trace}

abbrev pub IsAct : TraceAct → Type 0
IsAct (act.Record op) = IsOperation op
IsAct (act.Prune id) = id < identity_limit
IsAct (act.Hold known) = IsNormal known × ((i : ℕ) → number_at known i ≤ 2 ^ 62)
IsAct (act.Show text) = IsUtf8 text

pub record IsLine (line : TraceLine) : Type 0 where
  pub member : line.at < identity_limit
  pub key : is_key_name line.key ≡ true
  pub act : IsAct line.act

-- keys within their bounds, names that differ, and lines within their bounds
pub record IsWellFormed (trace : Trace) : Type 0 where
  pub key_count : (1 ≤ length trace.keys) × (length trace.keys ≤ 16)
  pub key_names : AllPairs (λ a b. a.key ≢ b.key) trace.keys
  pub keys : All (λ key. is_key_name key.key ≡ true) trace.keys
  pub lines : All IsLine trace.lines
