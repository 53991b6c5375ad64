use Rattle.std.proofs.Common.{rules}
use Rattle.data_envelope.specs.Words.{parts_of}
use Rattle.data_codec.proofs.Images.{digest_is}
use Rattle.data_codec.proofs.digested.Digested.digest.Goals as goal

pub returns-in-Some-clause-image : goal.returns-in-Some-clause-image
returns-in-Some-clause-image g c = λ log entry stands.
    digest_is g.T.Replica.IsDataOf g.T.Replica.kind_of g.T.SpelledData.byte_of g.T.SpelledData.spelled g.T.SpelledData.history_byte g.T.SpelledData.history_spelled g.met.T.SpelledData.byte_means g.met.T.SpelledData.spelling_means (parts_of c.args.self.now.envelope) log entry stands c.in-Some.kept (search rules)
