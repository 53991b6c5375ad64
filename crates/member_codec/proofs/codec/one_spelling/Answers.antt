use Rattle.data_codec.specs.Envelopes.{parts_in, envelope_spelled, IsEnvelope}
use Rattle.base_places.specs.Wholes.{one_spelling_is}
use Rattle.member_codec.specs.EntryLaws.{envelope_spells}
use Rattle.member_codec.specs.Groups.{group_in, group_spelled, IsSoundGroup}
use Rattle.member_codec.specs.GroupLaws.{group_spells}
use Rattle.member_codec.specs.Messages.{message_spelled, message_in, IsMessage}
use Rattle.member_codec.specs.MessageLaws.{message_spells}
use Rattle.member_codec.proofs.codec.one_spelling.Goals as goal

pub returns : goal.returns
returns g c =
    one_spelling_is (IsMessage (IsEnvelope g.T.SpelledData.IsSound g.T.Replica.mentioned) (IsSoundGroup g.T.SpelledDelta.IsSoundDelta g.T.Replica.IsOfOrigin)) (message_spelled (envelope_spelled g.T.SpelledData.byte_of g.T.SpelledData.spelled) (group_spelled g.T.SpelledDelta.delta_byte g.T.SpelledDelta.delta_spelled)) (message_in (parts_in g.T.SpelledData.is_known g.T.SpelledData.read_in 1) (group_in g.T.SpelledDelta.is_delta_byte g.T.SpelledDelta.delta_in))
    (message_spells (IsEnvelope g.T.SpelledData.IsSound g.T.Replica.mentioned) (envelope_spelled g.T.SpelledData.byte_of g.T.SpelledData.spelled) (parts_in g.T.SpelledData.is_known g.T.SpelledData.read_in 1)
    (envelope_spells g.T.SpelledData.is_known g.T.SpelledData.read_in g.T.SpelledData.byte_of g.T.SpelledData.spelled g.T.SpelledData.IsSound g.T.Replica.mentioned g.met.T.SpelledData.read_is_spelled g.met.T.SpelledData.spelled_is_read g.met.T.SpelledData.byte_is_known)
    (IsSoundGroup g.T.SpelledDelta.IsSoundDelta g.T.Replica.IsOfOrigin) (group_spelled g.T.SpelledDelta.delta_byte g.T.SpelledDelta.delta_spelled) (group_in g.T.SpelledDelta.is_delta_byte g.T.SpelledDelta.delta_in)
    (group_spells g.T.SpelledDelta.is_delta_byte g.T.SpelledDelta.delta_byte g.T.SpelledDelta.delta_spelled g.T.SpelledDelta.delta_in g.T.SpelledDelta.IsSoundDelta g.T.Replica.IsOfOrigin g.met.T.SpelledDelta.delta_read_is_spelled g.met.T.SpelledDelta.delta_spelled_is_read g.met.T.SpelledDelta.delta_is_known))
