use Rattle.std.proofs.Common.{arith}
use Rattle.data_codec.specs.Envelopes.{parts_in, envelope_spelled, IsEnvelope}
use Rattle.member_codec.specs.EntryLaws.{envelope_spells}
use Rattle.member_codec.specs.Groups.{group_in, group_spelled, IsSoundGroup}
use Rattle.member_codec.specs.GroupLaws.{group_spells}
use Rattle.member_codec.specs.Messages.{message_parts, message_spelled, message_in, IsMessage}
use Rattle.member_codec.specs.MessageLaws.{message_spells}
use Rattle.member_codec.proofs.Whole.{found_of, only_of}
use Rattle.member_codec.proofs.codec.read_message.Goals as goal

pub returns-clause-found : goal.returns-clause-found
returns-clause-found g c =
    found_of (IsMessage (IsEnvelope g.T.SpelledData.IsSound g.T.Replica.mentioned) (IsSoundGroup g.T.SpelledDelta.IsSoundDelta g.T.Replica.IsOfOrigin)) (message_spelled (envelope_spelled g.T.SpelledData.byte_of g.T.SpelledData.spelled) (group_spelled g.T.SpelledDelta.delta_byte g.T.SpelledDelta.delta_spelled)) (message_in (parts_in g.T.SpelledData.is_known g.T.SpelledData.read_in 1) (group_in g.T.SpelledDelta.is_delta_byte g.T.SpelledDelta.delta_in))
    (message_spells (IsEnvelope g.T.SpelledData.IsSound g.T.Replica.mentioned) (envelope_spelled g.T.SpelledData.byte_of g.T.SpelledData.spelled) (parts_in g.T.SpelledData.is_known g.T.SpelledData.read_in 1)
    (envelope_spells g.T.SpelledData.is_known g.T.SpelledData.read_in g.T.SpelledData.byte_of g.T.SpelledData.spelled g.T.SpelledData.IsSound g.T.Replica.mentioned g.met.T.SpelledData.read_is_spelled g.met.T.SpelledData.spelled_is_read g.met.T.SpelledData.byte_is_known)
    (IsSoundGroup g.T.SpelledDelta.IsSoundDelta g.T.Replica.IsOfOrigin) (group_spelled g.T.SpelledDelta.delta_byte g.T.SpelledDelta.delta_spelled) (group_in g.T.SpelledDelta.is_delta_byte g.T.SpelledDelta.delta_in)
    (group_spells g.T.SpelledDelta.is_delta_byte g.T.SpelledDelta.delta_byte g.T.SpelledDelta.delta_spelled g.T.SpelledDelta.delta_in g.T.SpelledDelta.IsSoundDelta g.T.Replica.IsOfOrigin g.met.T.SpelledDelta.delta_read_is_spelled g.met.T.SpelledDelta.delta_spelled_is_read g.met.T.SpelledDelta.delta_is_known))
    message_parts c.args.bytes.now (λ i. omega (arith, c.type_inv.bytes i)) c.read_whole.result c.read_whole.ensures

pub returns-clause-only : goal.returns-clause-only
returns-clause-only g c =
    only_of (IsMessage (IsEnvelope g.T.SpelledData.IsSound g.T.Replica.mentioned) (IsSoundGroup g.T.SpelledDelta.IsSoundDelta g.T.Replica.IsOfOrigin)) (message_spelled (envelope_spelled g.T.SpelledData.byte_of g.T.SpelledData.spelled) (group_spelled g.T.SpelledDelta.delta_byte g.T.SpelledDelta.delta_spelled)) (message_in (parts_in g.T.SpelledData.is_known g.T.SpelledData.read_in 1) (group_in g.T.SpelledDelta.is_delta_byte g.T.SpelledDelta.delta_in))
    (message_spells (IsEnvelope g.T.SpelledData.IsSound g.T.Replica.mentioned) (envelope_spelled g.T.SpelledData.byte_of g.T.SpelledData.spelled) (parts_in g.T.SpelledData.is_known g.T.SpelledData.read_in 1)
    (envelope_spells g.T.SpelledData.is_known g.T.SpelledData.read_in g.T.SpelledData.byte_of g.T.SpelledData.spelled g.T.SpelledData.IsSound g.T.Replica.mentioned g.met.T.SpelledData.read_is_spelled g.met.T.SpelledData.spelled_is_read g.met.T.SpelledData.byte_is_known)
    (IsSoundGroup g.T.SpelledDelta.IsSoundDelta g.T.Replica.IsOfOrigin) (group_spelled g.T.SpelledDelta.delta_byte g.T.SpelledDelta.delta_spelled) (group_in g.T.SpelledDelta.is_delta_byte g.T.SpelledDelta.delta_in)
    (group_spells g.T.SpelledDelta.is_delta_byte g.T.SpelledDelta.delta_byte g.T.SpelledDelta.delta_spelled g.T.SpelledDelta.delta_in g.T.SpelledDelta.IsSoundDelta g.T.Replica.IsOfOrigin g.met.T.SpelledDelta.delta_read_is_spelled g.met.T.SpelledDelta.delta_spelled_is_read g.met.T.SpelledDelta.delta_is_known))
    message_parts c.args.bytes.now c.read_whole.result c.read_whole.ensures
