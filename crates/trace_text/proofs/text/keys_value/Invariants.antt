use Rattle.std.proofs.Common.{◌≡◌, map, take}
use Rattle.serde_json.specs.View.{view}
use Rattle.trace_lines.specs.Meant.{key_meant}
use Rattle.trace_text.specs.Texts.{key_data}
use Rattle.trace_text.proofs.text.keys_value.Given as goal

abbrev pub invariant-loop-key : goal.invariant-loop-key
invariant-loop-key l = map view l.values.items ≡ map (λ key. key_data (key_meant key)) (take l.key-index l.keys)
