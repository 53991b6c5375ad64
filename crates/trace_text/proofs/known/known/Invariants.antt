use Rattle.std.proofs.Common.{◌≡◌, ◌≤◌, drop}
use Rattle.std.specs.FinMap as map
use Rattle.serde_json.specs.View.{items_view}
use Rattle.base_vectors.specs.Kept.{AreSeqs}
use Rattle.trace_text.specs.Acts.{known_after}
use Rattle.trace_text.proofs.known.known.Given as goal

abbrev pub invariant-loop-value : goal.invariant-loop-value
invariant-loop-value l =
    (l.least ≤ 255) × AreSeqs l.known × (known_after l.least l.known (items_view (drop l.value-index l.pairs)) ≡ known_after 0 map.empty (items_view l.pairs))
