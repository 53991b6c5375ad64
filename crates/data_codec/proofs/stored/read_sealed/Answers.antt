use Rattle.std.proofs.Common.{arith}
use Rattle.data_codec.proofs.Envelopes.{with_value}
use Rattle.data_codec.proofs.Seals.{sealed_fails, sealed_whole, sealed_broken}
use Rattle.data_codec.proofs.stored.read_sealed.Goals as goal

pub returns-in-Err : goal.returns-in-Err
returns-in-Err g c = (c.in-Err.ensures.0, sealed_fails g.T.SpelledData.is_known g.T.SpelledData.read_in c.in-Err.ensures.0 c.args.bytes.now c.in-Err.ensures.1, c.in-Err.ensures.2)

pub returns-in-Ok-read_seal : goal.returns-in-Ok-read_seal
returns-in-Ok-read_seal g c =
    let S = g.T.SpelledData in
    sealed_whole S.is_known S.read_in S.byte_of S.spelled S.IsSound g.T.Replica.mentioned
    (record { takes = g.met.T.SpelledData.read_is_spelled; again = g.met.T.SpelledData.spelled_is_read; known = g.met.T.SpelledData.byte_is_known })
    c.args.bytes.now c.in-Ok.ensures.0 (with_value c.in-Ok.found.0 c.in-Ok.found.1) c.in-Ok.place (λ i. omega (arith, c.type_inv.bytes i)) c.in-Ok.ensures.1 c.in-Ok.ensures.2
    (rw (← c.split_at.ensures.front, ← c.split_at.ensures.back) c.in-Ok-read_seal.ensures)

pub returns-in-Err-read_seal : goal.returns-in-Err-read_seal
returns-in-Err-read_seal g c =
    let S = g.T.SpelledData in
    let e = c.in-Err-read_seal.error in (
      e,
      sealed_broken S.is_known S.read_in S.byte_of S.spelled S.IsSound g.T.Replica.mentioned
          (record { takes = g.met.T.SpelledData.read_is_spelled; again = g.met.T.SpelledData.spelled_is_read; known = g.met.T.SpelledData.byte_is_known })
          e c.args.bytes.now c.in-Ok.ensures.0 (with_value c.in-Ok.found.0 c.in-Ok.found.1) c.in-Ok.place (λ i. omega (arith, c.type_inv.bytes i)) c.in-Ok.ensures.1 c.in-Ok.ensures.2
          (rw (← c.split_at.ensures.front, ← c.split_at.ensures.back) c.in-Err-read_seal.ensures),
      c.among.ensures,
    )
