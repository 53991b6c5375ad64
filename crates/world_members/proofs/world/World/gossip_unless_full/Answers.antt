use Rattle.std.proofs.Common.{◌∙◌, sym, ap}
use Rattle.world_members.specs.Settling.{met_full}
use Rattle.world_members.proofs.Settled.{skips_gossip, told_gossip, halts_gossip_call}
use Rattle.world_members.proofs.Answering.{match_err}
use Rattle.world_members.proofs.world.World.gossip_unless_full.Goals as goal

pub returns-then-met_full : goal.returns-then-met_full
returns-then-met_full g c =
    skips_gossip g.T.SpelledData c.args.self.now c.args.self.now c.args.lead c.args.at c.args.events.now (ap met_full (sym c.as_slice.ensures) ∙ sym c.met_full.ensures ∙ c.if-met_full.true)

pub returns-in_err-event : goal.returns-in_err-event
returns-in_err-event g c =
    match_err _ _ c.from_residual.result c.from_residual.ensures.0
    (halts_gossip_call g.T.SpelledData c.args.self.now c.ask.new.self c.args.lead c.args.at c.args.events.now (ap met_full (sym c.as_slice.ensures) ∙ sym c.met_full.ensures ∙ c.if-met_full.false) c.in_err-event.ensures)

pub returns : goal.returns
returns g c =
    told_gossip g.T.SpelledData c.args.self.now c.ask.new.self c.args.lead c.args.at c.args.events.now (ap met_full (sym c.as_slice.ensures) ∙ sym c.met_full.ensures ∙ c.if-met_full.false) c.in_ok-event.event c.in_ok-event.ensures
    c.push.new.self c.push.result c.push.ensures.ok
