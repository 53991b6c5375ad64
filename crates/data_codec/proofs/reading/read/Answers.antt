use Rattle.std.proofs.Common.{◌≡◌, Ok, ap, sym, subst, ◌∙◌, arith}
use Rattle.data_envelope.specs.Words.{parts_of}
use Rattle.base_bytes.specs.Fields.{Fails}
use Rattle.data_codec.specs.Envelopes.{envelope_of}
use Rattle.data_codec.proofs.Envelopes.{with_value, envelope_takes, envelope_again}
use Rattle.data_codec.proofs.reading.read.Goals as goal

pub from_parts-requires : goal.from_parts-requires
from_parts-requires g c =
    let S = g.T.SpelledData in
    let found = envelope_takes S.is_known S.read_in S.byte_of S.spelled S.IsSound g.T.Replica.mentioned
    (record { takes = g.met.T.SpelledData.read_is_spelled; again = g.met.T.SpelledData.spelled_is_read; known = g.met.T.SpelledData.byte_is_known })
    c.args.bytes.now _ (λ i. omega (arith, c.type_inv.bytes i)) c.in-Ok.ensures in
    λ id pruned. (found.0.counted id pruned, found.0.named id pruned)

pub returns-in-Ok-clause-found : goal.returns-in-Ok-clause-found
returns-in-Ok-clause-found g c =
    let S = g.T.SpelledData in
    let same : with_value c.in-Ok.head c.in-Ok.value ≡ parts_of c.from_parts.result = λ j. record { value = sym c.from_parts.ensures.value j; versions = sym c.from_parts.ensures.versions j; marks = sym c.from_parts.ensures.markers j } in
    let found = envelope_takes S.is_known S.read_in S.byte_of S.spelled S.IsSound g.T.Replica.mentioned
    (record { takes = g.met.T.SpelledData.read_is_spelled; again = g.met.T.SpelledData.spelled_is_read; known = g.met.T.SpelledData.byte_is_known })
    c.args.bytes.now (parts_of c.from_parts.result) (λ i. omega (arith, c.type_inv.bytes i)) (c.in-Ok.ensures ∙ ap Ok same) in
    found

pub returns-in-Ok-clause-only : goal.returns-in-Ok-clause-only
returns-in-Ok-clause-only g c = λ parts is e.
    let S = g.T.SpelledData in
    let same : with_value c.in-Ok.head c.in-Ok.value ≡ parts_of c.from_parts.result = λ j. record { value = sym c.from_parts.ensures.value j; versions = sym c.from_parts.ensures.versions j; marks = sym c.from_parts.ensures.markers j } in
    let again = envelope_again S.is_known S.read_in S.byte_of S.spelled S.IsSound g.T.Replica.mentioned
    (record { takes = g.met.T.SpelledData.read_is_spelled; again = g.met.T.SpelledData.spelled_is_read; known = g.met.T.SpelledData.byte_is_known })
    parts is in
    sym (ap (envelope_of S.is_known S.read_in) e ∙ again) ∙ c.in-Ok.ensures ∙ ap Ok same

pub returns-in-Err-clause-only : goal.returns-in-Err-clause-only
returns-in-Err-clause-only g c = λ parts is e.
    let S = g.T.SpelledData in
    let again = envelope_again S.is_known S.read_in S.byte_of S.spelled S.IsSound g.T.Replica.mentioned
    (record { takes = g.met.T.SpelledData.read_is_spelled; again = g.met.T.SpelledData.spelled_is_read; known = g.met.T.SpelledData.byte_is_known })
    parts is in
    (c.in-Err.ensures.0, subst (Fails c.in-Err.ensures.0) (ap (envelope_of S.is_known S.read_in) e ∙ again) c.in-Err.ensures.1, c.in-Err.ensures.2)
