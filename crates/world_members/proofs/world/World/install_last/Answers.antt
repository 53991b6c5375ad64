use Rattle.std.proofs.Common.{◌∙◌, sym, ap}
use Rattle.model_members.specs.View.{View}
use Rattle.world_members.specs.Settling.{met_full}
use Rattle.world_members.proofs.Settled.{skips_upto_date, skips_install, told_install, halts_install}
use Rattle.world_members.proofs.Answering.{match_err}
use Rattle.world_members.proofs.world.World.install_last.Goals as goal
use Rattle.world_members.proofs.world.World.install_last.Goals.{then-not-is_behind-via-then-not-is_behind, then-not-is_behind-via-else-not-is_behind+then-met_full}

pub returns-then-not-is_behind : goal.returns-then-not-is_behind
returns-then-not-is_behind g c =
    elim c.then-not-is_behind.branch [
      | then-not-is_behind-via-then-not-is_behind w ↦ skips_upto_date g.T.SpelledData c.args.self.now c.args.self.now c.args.at c.is_behind.result c.is_behind.ensures c.args.events.now w.if-not-is_behind.true
      | then-not-is_behind-via-else-not-is_behind+then-met_full w ↦
          skips_install g.T.SpelledData c.args.self.now c.args.self.now c.args.at c.is_behind.result c.is_behind.ensures c.args.events.now w.if-not-is_behind.false
          (ap met_full (sym w.as_slice.ensures) ∙ sym w.met_full.ensures ∙ w.if-met_full.true)
    ]

pub returns-in_err-event : goal.returns-in_err-event
returns-in_err-event g c =
    match_err _ _ c.from_residual.result c.from_residual.ensures.0
    (halts_install g.T.SpelledData c.args.self.now c.ask.new.self c.args.at c.is_behind.result c.is_behind.ensures c.args.events.now c.if-not-is_behind.false
    (ap met_full (sym c.as_slice.ensures) ∙ sym c.met_full.ensures ∙ c.if-met_full.false) c.number-number.result (c.number-number.ensures.number ∙ ap (λ (v : View). v.number) c.last.ensures.last) c.in_err-event.ensures)

pub returns : goal.returns
returns g c =
    told_install g.T.SpelledData c.args.self.now c.ask.new.self c.args.at c.is_behind.result c.is_behind.ensures c.args.events.now c.if-not-is_behind.false
    (ap met_full (sym c.as_slice.ensures) ∙ sym c.met_full.ensures ∙ c.if-met_full.false) c.number-number.result (c.number-number.ensures.number ∙ ap (λ (v : View). v.number) c.last.ensures.last)
    c.in_ok-event.event c.in_ok-event.ensures c.push.new.self c.push.result c.push.ensures.ok
