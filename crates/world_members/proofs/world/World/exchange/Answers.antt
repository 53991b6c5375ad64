use Rattle.std.proofs.Common.{◌∙◌, ap}
use Rattle.member_node.specs.Steps.{replication}
use Rattle.world_members.specs.Settling.{sent_in, exchanges}
use Rattle.world_members.proofs.Settled.{halts_gossip, halts_gossiped, halts_status, halts_statused, halts_answer, exchange_ends}
use Rattle.world_members.proofs.Standings.{as_it_was}
use Rattle.world_members.proofs.SettleParts.{halts_before, goes_exchange}
use Rattle.world_members.proofs.Answering.{match_err}
use Rattle.world_members.proofs.world.World.exchange.Goals as goal

pub returns-in_err-before : goal.returns-in_err-before
returns-in_err-before g c =
    match_err _ _ c.from_residual.result c.from_residual.ensures.0
    (halts_before g.T.SpelledData (exchanges (replication g.T.Replica g.T.SpelledData) c.args.lead c.args.at) (goes_exchange (replication g.T.Replica g.T.SpelledData) c.args.lead c.args.at) c.args.self.now c.args.self.now c.args.events.now
    (as_it_was g.T.SpelledData c.args.self.now))

pub returns-in_err-gossip_unless_full : goal.returns-in_err-gossip_unless_full
returns-in_err-gossip_unless_full g c =
    match_err _ _ c.from_residual-in_err-gossip_unless_full.result c.from_residual-in_err-gossip_unless_full.ensures.0 (halts_gossip g.T.SpelledData c.args.lead c.args.at _ _ _ c.gossip_unless_full.new.events c.in_err-gossip_unless_full.ensures)

pub returns-in_err-first : goal.returns-in_err-first
returns-in_err-first g c = match_err _ _ c.from_residual-in_err-first.result c.from_residual-in_err-first.ensures.0 (halts_gossiped g.T.SpelledData c.args.lead c.args.at _ _ _ _ c.in_ok-gossip_unless_full.ensures)

pub returns-in_err-deliver_last : goal.returns-in_err-deliver_last
returns-in_err-deliver_last g c =
    match_err _ _ c.from_residual-in_err-deliver_last.result c.from_residual-in_err-deliver_last.ensures.0
    (halts_status g.T.SpelledData c.args.lead c.args.at _ _ _ _ c.in_ok-gossip_unless_full.ensures c.in_ok-before.before (c.in_ok-before.ensures ∙ ap sent_in c.as_slice.ensures) _ c.in_err-deliver_last.ensures)

pub returns-in_err-second : goal.returns-in_err-second
returns-in_err-second g c =
    match_err _ _ c.from_residual-in_err-second.result c.from_residual-in_err-second.ensures.0
    (halts_statused g.T.SpelledData c.args.lead c.args.at _ _ _ _ c.in_ok-gossip_unless_full.ensures c.in_ok-before.before (c.in_ok-before.ensures ∙ ap sent_in c.as_slice.ensures) _ _ c.in_ok-deliver_last.ensures)

pub returns-in_err-deliver_last-2 : goal.returns-in_err-deliver_last-2
returns-in_err-deliver_last-2 g c =
    match_err _ _ c.from_residual-in_err-deliver_last-2.result c.from_residual-in_err-deliver_last-2.ensures.0
    (halts_answer g.T.SpelledData c.args.lead c.args.at _ _ _ _ c.in_ok-gossip_unless_full.ensures c.in_ok-before.before (c.in_ok-before.ensures ∙ ap sent_in c.as_slice.ensures) _ _ c.in_ok-deliver_last.ensures
    c.in_ok-first.first (c.in_ok-first.ensures ∙ ap sent_in c.as_slice-2.ensures) _ c.in_err-deliver_last-2.ensures)

pub returns : goal.returns
returns g c =
    exchange_ends g.T.SpelledData c.args.lead c.args.at _ _ _ _ c.in_ok-gossip_unless_full.ensures c.in_ok-before.before (c.in_ok-before.ensures ∙ ap sent_in c.as_slice.ensures) _ _ c.in_ok-deliver_last.ensures
    c.in_ok-first.first (c.in_ok-first.ensures ∙ ap sent_in c.as_slice-2.ensures) _ _ c.in_ok-deliver_last-2.ensures c.in_ok-second.second (c.in_ok-second.ensures ∙ ap sent_in c.as_slice-3.ensures) _
    c.deliver_last-3.new.events c.deliver_last-3.result c.deliver_last-3.ensures
