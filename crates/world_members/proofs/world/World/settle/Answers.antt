use Rattle.std.proofs.Common.{◌∙◌, sym, ap}
use Rattle.world_members.specs.Settling.{met_full, sent_in, last_blocked}
use Rattle.world_members.proofs.Settled.{halts_installs, halts_sweeps, halts_tick_1, halts_sweep_1, halts_tick_2, ticks_twice, remains_settle, halts_sweep_2, halts_counting, plays_stopped, plays_settled}
use Rattle.world_members.proofs.Answering.{match_err}
use Rattle.world_members.proofs.world.World.settle.Goals as goal

pub returns-in_err-install_all : goal.returns-in_err-install_all
returns-in_err-install_all g c = match_err _ _ c.from_residual.result c.from_residual.ensures.0 (remains_settle g.T.SpelledData c.args.self.now _ _ c.new-events.ensures (halts_installs g.T.SpelledData c.args.self.now _ _ c.in_err-install_all.ensures))

pub returns-in_err-sweep_twice : goal.returns-in_err-sweep_twice
returns-in_err-sweep_twice g c = match_err _ _ c.from_residual-in_err-sweep_twice.result c.from_residual-in_err-sweep_twice.ensures.0 (remains_settle g.T.SpelledData c.args.self.now _ _ c.new-events.ensures (halts_sweeps g.T.SpelledData c.args.self.now _ _ _ c.in_ok-install_all.ensures _ c.in_err-sweep_twice.ensures))

pub returns-in_err-tick_leader : goal.returns-in_err-tick_leader
returns-in_err-tick_leader g c = match_err _ _ c.from_residual-in_err-tick_leader.result c.from_residual-in_err-tick_leader.ensures.0 (remains_settle g.T.SpelledData c.args.self.now _ _ c.new-events.ensures (halts_tick_1 g.T.SpelledData c.args.self.now _ _ _ c.in_ok-install_all.ensures _ _ c.in_ok-sweep_twice.ensures _ c.in_err-tick_leader.ensures))

pub returns-in_err-sweep : goal.returns-in_err-sweep
returns-in_err-sweep g c = match_err _ _ c.from_residual-in_err-sweep.result c.from_residual-in_err-sweep.ensures.0 (remains_settle g.T.SpelledData c.args.self.now _ _ c.new-events.ensures (halts_sweep_1 g.T.SpelledData c.args.self.now _ _ _ c.in_ok-install_all.ensures _ _ c.in_ok-sweep_twice.ensures _ _ c.in_ok-tick_leader.ensures _ c.in_err-sweep.ensures))

pub returns-in_err-tick_leader-2 : goal.returns-in_err-tick_leader-2
returns-in_err-tick_leader-2 g c = match_err _ _ c.from_residual-in_err-tick_leader-2.result c.from_residual-in_err-tick_leader-2.ensures.0 (remains_settle g.T.SpelledData c.args.self.now _ _ c.new-events.ensures (halts_tick_2 g.T.SpelledData c.args.self.now _ _ _ c.in_ok-install_all.ensures _ _ c.in_ok-sweep_twice.ensures _ _ c.in_ok-tick_leader.ensures _ _ c.in_ok-sweep.ensures _ c.in_err-tick_leader-2.ensures))

pub returns-in_err-sweep-2 : goal.returns-in_err-sweep-2
returns-in_err-sweep-2 g c = match_err _ _ c.from_residual-in_err-sweep-2.result c.from_residual-in_err-sweep-2.ensures.0 (halts_sweep_2 g.T.SpelledData c.args.self.now _ _ _ _ c.sweep-2.new.events c.new-events.ensures (ticks_twice g.T.SpelledData c.args.self.now _ _ _ c.in_ok-install_all.ensures _ _ c.in_ok-sweep_twice.ensures _ _ c.in_ok-tick_leader.ensures _ _ c.in_ok-sweep.ensures _ _ c.in_ok-tick_leader-2.ensures) c.in_err-sweep-2.ensures)

pub returns-then-met_full : goal.returns-then-met_full
returns-then-met_full g c = plays_stopped g.T.SpelledData c.args.self.now _ _ _ _ _ c.new-events.ensures (ticks_twice g.T.SpelledData c.args.self.now _ _ _ c.in_ok-install_all.ensures _ _ c.in_ok-sweep_twice.ensures _ _ c.in_ok-tick_leader.ensures _ _ c.in_ok-sweep.ensures _ _ c.in_ok-tick_leader-2.ensures) c.in_ok-sweep-2.ensures (ap met_full (sym c.as_slice-2.ensures) ∙ sym c.met_full.ensures ∙ c.if-met_full.true) c.line.result c.line.ensures

pub returns-in_err-messages : goal.returns-in_err-messages
returns-in_err-messages g c = match_err _ _ c.from_residual-in_err-messages.result c.from_residual-in_err-messages.ensures.0 (halts_counting g.T.SpelledData c.args.self.now _ _ _ _ _ c.new-events.ensures (ticks_twice g.T.SpelledData c.args.self.now _ _ _ c.in_ok-install_all.ensures _ _ c.in_ok-sweep_twice.ensures _ _ c.in_ok-tick_leader.ensures _ _ c.in_ok-sweep.ensures _ _ c.in_ok-tick_leader-2.ensures) c.in_ok-sweep-2.ensures)

pub returns : goal.returns
returns g c =
    plays_settled g.T.SpelledData c.args.self.now _ _ _ _ _ c.new-events.ensures (ticks_twice g.T.SpelledData c.args.self.now _ _ _ c.in_ok-install_all.ensures _ _ c.in_ok-sweep_twice.ensures _ _ c.in_ok-tick_leader.ensures _ _ c.in_ok-sweep.ensures _ _ c.in_ok-tick_leader-2.ensures) c.in_ok-sweep-2.ensures (ap met_full (sym c.as_slice-2.ensures) ∙ sym c.met_full.ensures ∙ c.if-met_full.false)
    c.in_ok-messages.messages c.last_blocked-blocked.result (c.in_ok-messages.ensures ∙ ap sent_in c.as_slice-3.ensures) (c.last_blocked-blocked.ensures ∙ ap last_blocked c.as_slice.ensures) c.line-2.result c.line-2.ensures
