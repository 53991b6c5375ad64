use Rattle.std.proofs.Common.{◌∙◌}
use Rattle.data_envelope.specs.Words.{parts_of}
use Rattle.data_codec.proofs.Images.{spelled_is}
use Rattle.data_codec.proofs.spelling.spell.Goals as goal

pub returns-clause-image : goal.returns-clause-image
returns-clause-image g c = λ log entry stands.
    let value = rw c.new-bytes.ensures.items at c.in_ok-append.ensures.value in
    value ∙ spelled_is g.T.Replica.IsDataOf g.T.Replica.kind_of g.T.SpelledData.byte_of g.T.SpelledData.spelled g.T.SpelledData.history_byte g.T.SpelledData.history_spelled g.met.T.SpelledData.byte_means g.met.T.SpelledData.spelling_means (parts_of c.args.envelope.now) log entry stands
