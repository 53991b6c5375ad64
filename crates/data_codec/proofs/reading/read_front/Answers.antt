use Rattle.std.proofs.Common.{ap, sym, subst, ◌∙◌, arith}
use Rattle.base_bytes.specs.Fields.{Fails}
use Rattle.data_codec.specs.Answers.{refusal}
use Rattle.data_codec.proofs.Envelopes.{head_takes, head_fails, data_fail, ends_so, moved, place_is}
use Rattle.data_codec.proofs.reading.read_front.Goals as goal

pub returns-in-Err : goal.returns-in-Err
returns-in-Err g c = (c.in-Err.error, head_fails g.T.SpelledData.is_known g.T.SpelledData.read_in c.in-Err.error c.args.format c.args.bytes.now c.in-Err.ensures, c.among.ensures)

pub read_data-requires-clause-known : goal.read_data-requires-clause-known
read_data-requires-clause-known g c = (head_takes g.T.SpelledData.is_known c.args.format c.args.bytes.now _ (λ i. omega (arith, c.type_inv.bytes i)) c.in-Ok.ensures).1.known

pub returns-in-Ok-read_data : goal.returns-in-Ok-read_data
returns-in-Ok-read_data g c =
    let S = g.T.SpelledData in
    let place = place_is S.is_known S.read_in S.byte_of S.spelled S.IsSound g.T.Replica.mentioned c.args.format c.args.bytes.now c.in-Ok.found.1.now c.in-Ok.found.0 c.saturating_sub-place.result (λ i. omega (arith, c.type_inv.bytes i)) c.in-Ok.ensures c.saturating_sub-place.ensures in
    let same = moved S.is_known S.read_in c.in-Ok.found.0.kind _ _ _ _ c.performed_ids-barred.ensures place in (
      c.in-Ok-read_data.ensures.0,
      ends_so S.is_known S.read_in c.args.format c.args.bytes.now c.in-Ok.found.1.now c.in-Ok-read_data.ensures.0 c.in-Ok.found.0 c.in-Ok-read_data.value c.in-Ok.ensures (sym same ∙ c.in-Ok-read_data.ensures.1),
      c.in-Ok-read_data.ensures.2,
    )

pub returns-in-Err-read_data : goal.returns-in-Err-read_data
returns-in-Err-read_data g c =
    let S = g.T.SpelledData in
    let place = place_is S.is_known S.read_in S.byte_of S.spelled S.IsSound g.T.Replica.mentioned c.args.format c.args.bytes.now c.in-Ok.found.1.now c.in-Ok.found.0 c.saturating_sub-place.result (λ i. omega (arith, c.type_inv.bytes i)) c.in-Ok.ensures c.saturating_sub-place.ensures in
    let same = moved S.is_known S.read_in c.in-Ok.found.0.kind _ _ _ _ c.performed_ids-barred.ensures place in
    (c.in-Err-read_data.ensures.0, data_fail S.is_known S.read_in c.in-Err-read_data.ensures.0 c.args.format c.args.bytes.now c.in-Ok.found.1.now c.in-Ok.found.0 c.in-Ok.ensures (subst (Fails c.in-Err-read_data.ensures.0) same c.in-Err-read_data.ensures.1), c.of.ensures ∙ ap refusal c.in-Err-read_data.ensures.2)
