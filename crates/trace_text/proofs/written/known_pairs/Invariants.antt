use Rattle.std.proofs.Common.{◌≡◌, map}
use Rattle.serde_json.specs.View.{view}
use Rattle.base_vectors.specs.Vectors.{number_at}
use Rattle.base_vectors.proofs.Readings.{pairs_below}
use Rattle.trace_text.specs.Texts.{pair_data}
use Rattle.trace_text.proofs.written.known_pairs.Given as goal

abbrev pub invariant-loop-number : goal.invariant-loop-number
invariant-loop-number l = map view l.pairs.items ≡ map pair_data (pairs_below (number_at l.known) l.number)
