use Rattle.std.proofs.Common.{arith}
use Rattle.data_markers.proofs.SpellingLoops.{read_is_mark}
use Rattle.data_markers.proofs.spelling.read_marker.Goals as goal

pub returns-clause-mark : goal.returns-clause-mark
returns-clause-mark c = read_is_mark c.args.bytes.now c.read_tagged.result (λ i. omega (arith, c.type_inv.bytes i)) c.read_tagged.ensures
