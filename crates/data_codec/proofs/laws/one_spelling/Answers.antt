use Rattle.data_codec.proofs.Envelopes.{one_spelling_is}
use Rattle.data_codec.proofs.laws.one_spelling.Goals as goal

pub returns : goal.returns
returns g c = one_spelling_is g.T.SpelledData.is_known g.T.SpelledData.read_in g.T.SpelledData.byte_of g.T.SpelledData.spelled g.T.SpelledData.IsSound g.T.Replica.mentioned
    (record { takes = g.met.T.SpelledData.read_is_spelled; again = g.met.T.SpelledData.spelled_is_read; known = g.met.T.SpelledData.byte_is_known })
