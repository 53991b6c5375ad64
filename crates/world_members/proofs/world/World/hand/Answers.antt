use Rattle.std.proofs.Common.{refl}
use Rattle.member_node.specs.declared.input.Input.TheVariants as input
use Rattle.world_places.specs.Channels.{channel_at, message_on}
use Rattle.world_members.specs.Giving.{ChangesAt, gone}
use Rattle.world_places.proofs.Seats.{same_id, same_limit}
use Rattle.world_places.proofs.Lists.{some_there}
use Rattle.world_members.proofs.Answering.{match_each, never_none, was_there, still_seated, outcome_gives, outcome_refuses, taken_so}
use Rattle.world_members.proofs.world.World.hand.Goals as goal

pub returns-in_default : goal.returns-in_default
returns-in_default g c = λ message there. gone c.in_default.ensures (record { views = refl; keys = refl; spare = refl; nodes = refl; links = refl }) c.line.ensures

pub invariant_of-self-clause-seated : goal.invariant_of-self-clause-seated
invariant_of-self-clause-seated g c =
    let world = c.args.self.now in
    let sent = some_there (message_on (channel_at world.links c.args.from c.args.to) c.args.index) c.requires in
    let took = taken_so g.T.SpelledData c.in-Some-index_mut.node c.args.from c.args.index c.take_on-outcome.new.node c.args.to world.links c.take_on-outcome.new.links c.take_on-outcome.result c.take_on-outcome.ensures.ok sent.0 sent.1 in
    still_seated c.args.to c.in-Some.place world c.in-Some.ensures c.index_mut.result.now c.index_mut.ensures.value c.in-Some-index_mut.node c.in-Some-index_mut.is c.take_on-outcome.new.node
    (same_id g.T.SpelledData c.in-Some-index_mut.node c.take_on-outcome.new.node (input.Take c.args.from sent.0) c.args.to world.links c.take_on-outcome.new.links c.take_on-outcome.result took c.take_on-outcome.ensures.err)
    (same_limit g.T.SpelledData c.in-Some-index_mut.node c.take_on-outcome.new.node (input.Take c.args.from sent.0) c.args.to world.links c.take_on-outcome.new.links c.take_on-outcome.result took c.take_on-outcome.ensures.err)

pub returns : goal.returns
returns g c =
    let world = c.args.self.now in
    let at = c.in-Some.ensures in
    let was = was_there c.args.to c.in-Some.place world at c.index_mut.result.now c.index_mut.ensures.value c.in-Some-index_mut.node c.in-Some-index_mut.is in
    let changes : ChangesAt c.args.to c.in-Some.place c.in-Some-index_mut.node c.take_on-outcome.new.node world _ =
    record { views = refl; keys = refl; spare = refl; sound = at.sound; seat = at.seat; within = at.within; was = was; nodes = refl } in
    match_each _ _ c.event_of.result
    (λ event is.
    λ message there.
    outcome_gives g.T.SpelledData c.args.to c.in-Some.place c.in-Some-index_mut.node c.take_on-outcome.new.node world _ changes c.args.head c.take_on-outcome.result c.event_of.result c.event_of.ensures c.take_on-outcome.ensures.full c.take_on-outcome.ensures.err (input.Take c.args.from message)
    (taken_so g.T.SpelledData c.in-Some-index_mut.node c.args.from c.args.index c.take_on-outcome.new.node c.args.to world.links c.take_on-outcome.new.links c.take_on-outcome.result c.take_on-outcome.ensures.ok message there) event is)
    (λ e is. outcome_refuses g.T.SpelledData c.args.to c.in-Some.place c.in-Some-index_mut.node c.take_on-outcome.new.node world _ changes c.args.head c.take_on-outcome.result c.event_of.result c.event_of.ensures c.take_on-outcome.ensures.full c.take_on-outcome.ensures.err e is)

pub unreachable-requires : goal.unreachable-requires
unreachable-requires g c = never_none c.args.to c.in-Some.place c.args.self.now c.in-Some.ensures c.index_mut.result.now c.index_mut.ensures.value c.in-None.is
