use Rattle.std.proofs.Common.{◌≡◌, Ok, ap, sym, ◌∙◌, arith}
use Rattle.data_envelope.specs.Words.{parts_of}
use Rattle.data_codec.proofs.Envelopes.{with_value}
use Rattle.data_codec.proofs.Seals.{sealed_takes}
use Rattle.data_codec.proofs.stored.read_second.Goals as goal

pub from_parts-requires : goal.from_parts-requires
from_parts-requires g c =
    let S = g.T.SpelledData in
    let found = sealed_takes S.is_known S.read_in S.byte_of S.spelled S.IsSound g.T.Replica.mentioned
    (record { takes = g.met.T.SpelledData.read_is_spelled; again = g.met.T.SpelledData.spelled_is_read; known = g.met.T.SpelledData.byte_is_known })
    c.args.bytes.now _ (λ i. omega (arith, c.type_inv.bytes i)) c.in-Ok.ensures in
    λ id pruned. (found.0.counted id pruned, found.0.named id pruned)

pub returns-in-Ok : goal.returns-in-Ok
returns-in-Ok g c =
    let same : with_value c.in-Ok.head c.in-Ok.value ≡ parts_of c.from_parts.result = λ j. record { value = sym c.from_parts.ensures.value j; versions = sym c.from_parts.ensures.versions j; marks = sym c.from_parts.ensures.markers j } in
    c.in-Ok.ensures ∙ ap Ok same
