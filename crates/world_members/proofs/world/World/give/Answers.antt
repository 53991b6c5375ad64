use Rattle.std.proofs.Common.{refl}
use Rattle.world_members.specs.Giving.{ChangesAt, gone}
use Rattle.world_places.proofs.Seats.{same_id, same_limit}
use Rattle.world_members.proofs.Answering.{match_each, never_none, was_there, still_seated, outcome_gives, outcome_refuses}
use Rattle.world_members.proofs.world.World.give.Goals as goal

pub returns-in_default : goal.returns-in_default
returns-in_default g c = gone c.in_default.ensures (record { views = refl; keys = refl; spare = refl; nodes = refl; links = refl }) c.line.ensures

pub invariant_of-self-clause-seated : goal.invariant_of-self-clause-seated
invariant_of-self-clause-seated g c =
    still_seated c.args.at c.in-Some.place c.args.self.now c.in-Some.ensures c.index_mut.result.now c.index_mut.ensures.value c.in-Some-index_mut.node c.in-Some-index_mut.is c.step_on-outcome.new.node
    (same_id g.T.SpelledData c.in-Some-index_mut.node c.step_on-outcome.new.node c.args.input.now c.args.at c.args.self.now.links c.step_on-outcome.new.links c.step_on-outcome.result c.step_on-outcome.ensures.ok c.step_on-outcome.ensures.err)
    (same_limit g.T.SpelledData c.in-Some-index_mut.node c.step_on-outcome.new.node c.args.input.now c.args.at c.args.self.now.links c.step_on-outcome.new.links c.step_on-outcome.result c.step_on-outcome.ensures.ok c.step_on-outcome.ensures.err)

pub returns : goal.returns
returns g c =
    let world = c.args.self.now in
    let at = c.in-Some.ensures in
    let was = was_there c.args.at c.in-Some.place world at c.index_mut.result.now c.index_mut.ensures.value c.in-Some-index_mut.node c.in-Some-index_mut.is in
    let changes : ChangesAt c.args.at c.in-Some.place c.in-Some-index_mut.node c.step_on-outcome.new.node world _ =
    record { views = refl; keys = refl; spare = refl; sound = at.sound; seat = at.seat; within = at.within; was = was; nodes = refl } in
    match_each _ _ c.event_of.result
    (λ event is.
    outcome_gives g.T.SpelledData c.args.at c.in-Some.place c.in-Some-index_mut.node c.step_on-outcome.new.node world _ changes c.args.head c.step_on-outcome.result c.event_of.result c.event_of.ensures c.step_on-outcome.ensures.full c.step_on-outcome.ensures.err c.args.input.now
    c.step_on-outcome.ensures.ok event is)
    (λ e is. outcome_refuses g.T.SpelledData c.args.at c.in-Some.place c.in-Some-index_mut.node c.step_on-outcome.new.node world _ changes c.args.head c.step_on-outcome.result c.event_of.result c.event_of.ensures c.step_on-outcome.ensures.full c.step_on-outcome.ensures.err e is)

pub unreachable-requires : goal.unreachable-requires
unreachable-requires g c = never_none c.args.at c.in-Some.place c.args.self.now c.in-Some.ensures c.index_mut.result.now c.index_mut.ensures.value c.in-None.is
