use Rattle.std.proofs.Common.{sym, arith}
use Rattle.base_vectors.specs.IdSets.{members_in}
use Rattle.data_envelope.specs.Words.{parts_of}
use Rattle.data_codec.proofs.EnvelopePlaces.{head_fails_at, is_known_kind, data_fails_at, are_forgotten, envelope_read}
use Rattle.data_codec.proofs.places.read_at.Goals as goal

pub read_data-requires-clause-known : goal.read_data-requires-clause-known
read_data-requires-clause-known g c =
    is_known_kind g.T.SpelledData.is_known g.T.SpelledData.read_in c.args.from.now c.args.place c.in-Ok.head c.in-Ok.ensures.0 c.in-Ok.middle (members_in c.performed_ids-barred.result) (λ i. omega (arith, c.type_inv.from i)) c.in-Ok.ensures.1 c.in-Ok.ensures.2 c.performed_ids-barred.ensures

pub from_parts-requires : goal.from_parts-requires
from_parts-requires g c =
    are_forgotten g.T.SpelledData.is_known g.T.SpelledData.read_in c.args.from.now c.args.place c.in-Ok.head c.in-Ok.ensures.0 c.in-Ok.middle (members_in c.performed_ids-barred.result) (λ i. omega (arith, c.type_inv.from i)) c.in-Ok.ensures.1 c.in-Ok.ensures.2 c.performed_ids-barred.ensures
    g.T.SpelledData.byte_of g.T.SpelledData.spelled g.T.SpelledData.IsSound g.T.Replica.mentioned
    (record { takes = g.met.T.SpelledData.read_is_spelled; again = g.met.T.SpelledData.spelled_is_read; known = g.met.T.SpelledData.byte_is_known })
    c.in-Ok-read_data.value c.in-Ok-read_data.ensures.0 c.in-Ok-read_data.ensures.1

pub returns-in-Ok-read_data-clause-exact : goal.returns-in-Ok-read_data-clause-exact
returns-in-Ok-read_data-clause-exact g c =
    envelope_read g.T.SpelledData.is_known g.T.SpelledData.read_in c.args.from.now c.args.place c.in-Ok.head c.in-Ok.ensures.0 c.in-Ok.middle (members_in c.performed_ids-barred.result) (λ i. omega (arith, c.type_inv.from i)) c.in-Ok.ensures.1 c.in-Ok.ensures.2 c.performed_ids-barred.ensures
    g.T.SpelledData.byte_of g.T.SpelledData.spelled g.T.SpelledData.IsSound g.T.Replica.mentioned
    (record { takes = g.met.T.SpelledData.read_is_spelled; again = g.met.T.SpelledData.spelled_is_read; known = g.met.T.SpelledData.byte_is_known })
    c.in-Ok-read_data.value c.in-Ok-read_data.ensures.0 c.in-Ok-read_data.ensures.1 (parts_of c.from_parts.result) c.in-Ok-read_data.next
    (λ j. record { value = sym c.from_parts.ensures.value j; versions = sym c.from_parts.ensures.versions j; marks = sym c.from_parts.ensures.markers j }) c.in-Ok-read_data.ensures.2

pub returns-in-Err-read_data-clause-exact : goal.returns-in-Err-read_data-clause-exact
returns-in-Err-read_data-clause-exact g c =
    data_fails_at g.T.SpelledData.is_known g.T.SpelledData.read_in c.args.from.now c.args.place c.in-Ok.head c.in-Ok.ensures.0 c.in-Ok.middle (members_in c.performed_ids-barred.result) (λ i. omega (arith, c.type_inv.from i)) c.in-Ok.ensures.1 c.in-Ok.ensures.2 c.performed_ids-barred.ensures
    c.in-Err-read_data.error c.in-Err-read_data.ensures

pub returns-in-Err-clause-exact : goal.returns-in-Err-clause-exact
returns-in-Err-clause-exact g c = head_fails_at g.T.SpelledData.is_known g.T.SpelledData.read_in c.args.from.now c.args.place c.in-Err.error c.in-Err.ensures
