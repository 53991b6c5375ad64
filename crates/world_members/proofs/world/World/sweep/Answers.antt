use Rattle.std.proofs.Common.{◌∙◌, ap}
use Rattle.std.specs.Prelude.{fold}
use Rattle.model_members.specs.View.{leader}
use Rattle.model_members.specs.Script.{exchange, sweep}
use Rattle.member_node.specs.Steps.{replication}
use Rattle.world_members.proofs.SettleParts.{none_called, one_called, halts_call, all_called, sweep_is, settles_as, halts_so, halts_before, goes_exchange, goes_sweep}
use Rattle.world_members.proofs.Standings.{as_it_was}
use Rattle.world_members.proofs.Answering.{match_err}
use Rattle.world_members.proofs.world.World.sweep.Goals as goal

pub loop-id-init : goal.loop-id-init
loop-id-init g c = none_called g.T.SpelledData (exchange (replication g.T.Replica g.T.SpelledData) c.leader-lead.result) (goes_exchange (replication g.T.Replica g.T.SpelledData) c.leader-lead.result) c.deref-id-items.result.now c.args.self.now c.args.events.now

pub loop-id-preserved : goal.loop-id-preserved
loop-id-preserved g c =
    one_called g.T.SpelledData (exchange (replication g.T.Replica g.T.SpelledData) c.leader-lead.result) (goes_exchange (replication g.T.Replica g.T.SpelledData) c.leader-lead.result) c.deref-id-items.result.now c.args.self.now c.args.events.now c.loop-id.id-index c.id-item.result c.loop-id-test.true c.id-item.is
    c.loop-id.self c.exchange.new.self c.loop-id.events c.loop-id.invariant c.exchange.new.events c.in_ok-exchange.ensures

pub returns-in_err-ids : goal.returns-in_err-ids
returns-in_err-ids g c =
    match_err _ _ c.from_residual.result c.from_residual.ensures.0 (halts_before g.T.SpelledData (sweep (replication g.T.Replica g.T.SpelledData)) (goes_sweep (replication g.T.Replica g.T.SpelledData)) c.args.self.now c.args.self.now c.args.events.now (as_it_was g.T.SpelledData c.args.self.now))

pub returns-in_err-exchange : goal.returns-in_err-exchange
returns-in_err-exchange g c =
    match_err _ _ c.from_residual-in_err-exchange.result c.from_residual-in_err-exchange.ensures.0
    (halts_so g.T.SpelledData (λ p. fold (exchange (replication g.T.Replica g.T.SpelledData) c.leader-lead.result) p c.deref-id-items.result.now) (sweep (replication g.T.Replica g.T.SpelledData)) c.args.self.now c.exchange.new.self c.args.events.now
    (λ kinds members decls p m told. sweep_is g.T.SpelledData c.args.self.now c.deref-id-items.result.now c.leader-lead.result (c.leader-lead.ensures ∙ ap leader c.last.ensures.last) (c.deref-id-items.ensures.value ∙ c.in_ok-ids.ensures) kinds members decls p m)
    (halts_call g.T.SpelledData (exchange (replication g.T.Replica g.T.SpelledData) c.leader-lead.result) (goes_exchange (replication g.T.Replica g.T.SpelledData) c.leader-lead.result) c.deref-id-items.result.now c.args.self.now c.args.events.now c.loop-id.id-index c.id-item.result c.loop-id-test.true c.id-item.is
    c.loop-id.self c.exchange.new.self c.loop-id.events c.loop-id.invariant c.in_err-exchange.ensures))

pub returns : goal.returns
returns g c =
    settles_as g.T.SpelledData (λ p. fold (exchange (replication g.T.Replica g.T.SpelledData) c.leader-lead.result) p c.deref-id-items.result.now) (sweep (replication g.T.Replica g.T.SpelledData)) c.args.self.now c.loop-id.self c.args.events.now
    (λ kinds members decls p m told. sweep_is g.T.SpelledData c.args.self.now c.deref-id-items.result.now c.leader-lead.result (c.leader-lead.ensures ∙ ap leader c.last.ensures.last) (c.deref-id-items.ensures.value ∙ c.in_ok-ids.ensures) kinds members decls p m) c.loop-id.events
    (all_called g.T.SpelledData (exchange (replication g.T.Replica g.T.SpelledData) c.leader-lead.result) (goes_exchange (replication g.T.Replica g.T.SpelledData) c.leader-lead.result) c.deref-id-items.result.now c.args.self.now c.args.events.now c.loop-id.id-index c.loop-id.self c.loop-id.events c.loop-id-test.false c.loop-id.invariant)
