use Rattle.std.proofs.Common.{◌∙◌}
use Rattle.std.specs.Prelude.{fold}
use Rattle.model_members.specs.Script.{install_last}
use Rattle.member_node.specs.Steps.{replication}
use Rattle.world_members.specs.Settling.{installs}
use Rattle.world_members.proofs.SettleParts.{none_called, one_called, halts_call, all_called, installs_are, settles_as, halts_so, halts_before, goes_install, goes_installs}
use Rattle.world_members.proofs.Standings.{as_it_was}
use Rattle.world_members.proofs.Answering.{match_err}
use Rattle.world_members.proofs.world.World.install_all.Goals as goal

pub loop-id-init : goal.loop-id-init
loop-id-init g c = none_called g.T.SpelledData (install_last (replication g.T.Replica g.T.SpelledData)) (goes_install (replication g.T.Replica g.T.SpelledData)) c.deref-id-items.result.now c.args.self.now c.args.events.now

pub loop-id-preserved : goal.loop-id-preserved
loop-id-preserved g c =
    one_called g.T.SpelledData (install_last (replication g.T.Replica g.T.SpelledData)) (goes_install (replication g.T.Replica g.T.SpelledData)) c.deref-id-items.result.now c.args.self.now c.args.events.now c.loop-id.id-index c.id-item.result c.loop-id-test.true c.id-item.is
    c.loop-id.self c.install_last.new.self c.loop-id.events c.loop-id.invariant c.install_last.new.events c.in_ok-install_last.ensures

pub returns-in_err-ids : goal.returns-in_err-ids
returns-in_err-ids g c =
    match_err _ _ c.from_residual.result c.from_residual.ensures.0 (halts_before g.T.SpelledData (installs (replication g.T.Replica g.T.SpelledData)) (goes_installs (replication g.T.Replica g.T.SpelledData)) c.args.self.now c.args.self.now c.args.events.now (as_it_was g.T.SpelledData c.args.self.now))

pub returns-in_err-install_last : goal.returns-in_err-install_last
returns-in_err-install_last g c =
    match_err _ _ c.from_residual-in_err-install_last.result c.from_residual-in_err-install_last.ensures.0
    (halts_so g.T.SpelledData (λ p. fold (install_last (replication g.T.Replica g.T.SpelledData)) p c.deref-id-items.result.now) (installs (replication g.T.Replica g.T.SpelledData)) c.args.self.now c.install_last.new.self c.args.events.now
    (λ kinds members decls p m told. installs_are g.T.SpelledData c.args.self.now c.deref-id-items.result.now (c.deref-id-items.ensures.value ∙ c.in_ok-ids.ensures) kinds members decls p m)
    (halts_call g.T.SpelledData (install_last (replication g.T.Replica g.T.SpelledData)) (goes_install (replication g.T.Replica g.T.SpelledData)) c.deref-id-items.result.now c.args.self.now c.args.events.now c.loop-id.id-index c.id-item.result c.loop-id-test.true c.id-item.is
    c.loop-id.self c.install_last.new.self c.loop-id.events c.loop-id.invariant c.in_err-install_last.ensures))

pub returns : goal.returns
returns g c =
    settles_as g.T.SpelledData (λ p. fold (install_last (replication g.T.Replica g.T.SpelledData)) p c.deref-id-items.result.now) (installs (replication g.T.Replica g.T.SpelledData)) c.args.self.now c.loop-id.self c.args.events.now
    (λ kinds members decls p m told. installs_are g.T.SpelledData c.args.self.now c.deref-id-items.result.now (c.deref-id-items.ensures.value ∙ c.in_ok-ids.ensures) kinds members decls p m) c.loop-id.events
    (all_called g.T.SpelledData (install_last (replication g.T.Replica g.T.SpelledData)) (goes_install (replication g.T.Replica g.T.SpelledData)) c.deref-id-items.result.now c.args.self.now c.args.events.now c.loop-id.id-index c.loop-id.self c.loop-id.events c.loop-id-test.false c.loop-id.invariant)
