use Rattle.data_codec.specs.Envelopes.{parts_in}
use Rattle.member_codec.specs.Groups.{group_in}
use Rattle.member_codec.proofs.Bodies.{gossip_fails}
use Rattle.member_codec.proofs.messages.take_gossip.Goals as goal

pub returns-in-Err-clause-exact : goal.returns-in-Err-clause-exact
returns-in-Err-clause-exact g c =
    gossip_fails (parts_in g.T.SpelledData.is_known g.T.SpelledData.read_in 1) (group_in g.T.SpelledDelta.is_delta_byte g.T.SpelledDelta.delta_in) c.args.from.now c.args.place c.in-Err.error c.in-Err.ensures.exact
