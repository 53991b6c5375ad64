use Rattle.std.proofs.Common.{◌≡◌, ◌≢◌, drop, [], true, length, All, AllPairs}
use Rattle.serde_json.specs.View.{items_view}
use Rattle.script_reading.specs.Fields.{is_key_name}
use Rattle.trace_text.specs.Reading.{keys_after}
use Rattle.trace_text.proofs.keys.all_keys.Given as goal

abbrev pub invariant-loop-value : goal.invariant-loop-value
invariant-loop-value l =
    (length l.keys ≡ l.value-index)
    × AllPairs (λ a b. a.key ≢ b.key) l.keys
    × All (λ k. is_key_name k.key ≡ true) l.keys
    × (keys_after l.keys (items_view (drop l.value-index l.list)) ≡ keys_after [] (items_view l.list))
