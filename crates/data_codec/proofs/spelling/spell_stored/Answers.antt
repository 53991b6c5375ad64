use Rattle.std.proofs.Common.{◌≡◌, ◌++◌, ap, ◌∙◌}
use Rattle.sha1.specs.Sha1.{sha1}
use Rattle.data_envelope.specs.Words.{parts_of}
use Rattle.data_codec.specs.Envelopes.{spelled_in}
use Rattle.data_codec.proofs.Images.{stored_is}
use Rattle.data_codec.proofs.spelling.spell_stored.Goals as goal

pub returns-clause-value : goal.returns-clause-value
returns-clause-value g c =
    let text : c.append_in.new.into.items ≡ spelled_in g.T.SpelledData.byte_of g.T.SpelledData.spelled 2 (parts_of c.args.envelope.now) = rw c.new-bytes.ensures.items at c.in_ok-append_in.ensures.value in
    let seal : c.digest-seal.result ≡ sha1 (spelled_in g.T.SpelledData.byte_of g.T.SpelledData.spelled 2 (parts_of c.args.envelope.now)) = c.digest-seal.ensures ∙ ap sha1 (c.deref.ensures.value ∙ text) in
    c.in_ok-extend_from_slice.ensures.items ∙ (λ i. text i ++ seal i)

pub returns-clause-image : goal.returns-clause-image
returns-clause-image g c = λ log entry stands.
    returns-clause-value g c
    ∙ stored_is g.T.Replica.IsDataOf g.T.Replica.kind_of g.T.SpelledData.byte_of g.T.SpelledData.spelled g.T.SpelledData.history_byte g.T.SpelledData.history_spelled g.met.T.SpelledData.byte_means g.met.T.SpelledData.spelling_means (parts_of c.args.envelope.now) log entry stands
