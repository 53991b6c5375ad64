use Rattle.data_codec.proofs.Seals.{one_stored_is, stored_once}
use Rattle.data_codec.proofs.laws.one_stored.Goals as goal

pub returns-clause-prefix : goal.returns-clause-prefix
returns-clause-prefix g c = one_stored_is g.T.SpelledData.is_known g.T.SpelledData.read_in g.T.SpelledData.byte_of g.T.SpelledData.spelled g.T.SpelledData.IsSound g.T.Replica.mentioned
    (record { takes = g.met.T.SpelledData.read_is_spelled; again = g.met.T.SpelledData.spelled_is_read; known = g.met.T.SpelledData.byte_is_known })

pub returns-clause-once : goal.returns-clause-once
returns-clause-once g c = stored_once g.T.SpelledData.is_known g.T.SpelledData.read_in g.T.SpelledData.byte_of g.T.SpelledData.spelled g.T.SpelledData.IsSound g.T.Replica.mentioned
    (record { takes = g.met.T.SpelledData.read_is_spelled; again = g.met.T.SpelledData.spelled_is_read; known = g.met.T.SpelledData.byte_is_known })
