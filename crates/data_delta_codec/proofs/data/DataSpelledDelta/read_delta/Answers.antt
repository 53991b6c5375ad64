use Rattle.std.proofs.Common.{ℕ, List, drop, arith, length-drop}
use Rattle.data_delta_codec.specs.DataLaws.{delete_read}
use Rattle.data_delta_codec.proofs.data.DataSpelledDelta.read_delta.Goals as goal

-- nothing is read, so that what is left is all that there was
pub returns-then-kind-eq-DELETE : goal.returns-then-kind-eq-DELETE
returns-then-kind-eq-DELETE c =
    let left : List ℕ = drop c.args.place c.args.from.now in
    let within = c.requires.within in
    (left, delete_read c.args.kind c.args.origin left c.if-kind-eq-DELETE.true, omega (arith, length-drop c.args.place c.args.from.now))
