use Rattle.std.proofs.Common.{arith}
use Rattle.data_codec.proofs.Envelopes.{with_value, front_fails, fault_is, whole_is}
use Rattle.data_codec.proofs.reading.read_whole.Goals as goal

pub returns-then-next-total : goal.returns-then-next-total
returns-then-next-total g c =
    let S = g.T.SpelledData in
    fault_is S.is_known S.read_in c.args.bytes.now c.in-Ok.ensures.0 (with_value c.in-Ok.found.0 c.in-Ok.found.1) c.in-Ok.next c.in-Ok.ensures.1 c.in-Ok.ensures.2 c.if-next-total.true

pub returns-else-next-total : goal.returns-else-next-total
returns-else-next-total g c =
    let S = g.T.SpelledData in
    whole_is S.is_known S.read_in S.byte_of S.spelled S.IsSound g.T.Replica.mentioned
    (record { takes = g.met.T.SpelledData.read_is_spelled; again = g.met.T.SpelledData.spelled_is_read; known = g.met.T.SpelledData.byte_is_known })
    c.args.bytes.now c.in-Ok.ensures.0 (with_value c.in-Ok.found.0 c.in-Ok.found.1) c.in-Ok.next (λ i. omega (arith, c.type_inv.bytes i)) c.in-Ok.ensures.1 c.in-Ok.ensures.2 c.if-next-total.false

pub returns-in-Err : goal.returns-in-Err
returns-in-Err g c = (c.in-Err.ensures.0, front_fails g.T.SpelledData.is_known g.T.SpelledData.read_in c.in-Err.ensures.0 c.args.bytes.now c.in-Err.ensures.1, c.in-Err.ensures.2)
