use Rattle.std.proofs.Common.{◌∙◌, sym, ap}
use Rattle.model_members.specs.View.{leader}
use Rattle.world_members.specs.Settling.{met_full}
use Rattle.world_members.proofs.Settled.{skips_tick, told_tick, halts_tick_call}
use Rattle.world_members.proofs.Answering.{match_err}
use Rattle.world_members.proofs.world.World.tick_leader.Goals as goal

pub returns-then-met_full : goal.returns-then-met_full
returns-then-met_full g c = skips_tick g.T.SpelledData c.args.self.now c.args.self.now c.args.events.now (ap met_full (sym c.as_slice.ensures) ∙ sym c.met_full.ensures ∙ c.if-met_full.true)

pub returns-in_err-event : goal.returns-in_err-event
returns-in_err-event g c =
    match_err _ _ c.from_residual.result c.from_residual.ensures.0
    (halts_tick_call g.T.SpelledData c.args.self.now c.ask.new.self c.leader-lead.result (c.leader-lead.ensures ∙ ap leader c.last.ensures.last) c.args.events.now (ap met_full (sym c.as_slice.ensures) ∙ sym c.met_full.ensures ∙ c.if-met_full.false) c.in_err-event.ensures)

pub returns : goal.returns
returns g c =
    told_tick g.T.SpelledData c.args.self.now c.ask.new.self c.leader-lead.result (c.leader-lead.ensures ∙ ap leader c.last.ensures.last) c.args.events.now (ap met_full (sym c.as_slice.ensures) ∙ sym c.met_full.ensures ∙ c.if-met_full.false)
    c.in_ok-event.event c.in_ok-event.ensures c.push.new.self c.push.result c.push.ensures.ok
