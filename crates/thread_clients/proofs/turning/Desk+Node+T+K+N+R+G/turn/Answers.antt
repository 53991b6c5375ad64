use Rattle.std.proofs.Common.{inr}
use Rattle.thread_clients.proofs.Turned.{full_here}
use Rattle.thread_clients.proofs.turning.Desk+Node+T+K+N+R+G.turn.Goals as goal

pub returns-in-Err-HistoryFull-clause-ok : goal.returns-in-Err-HistoryFull-clause-ok
returns-in-Err-HistoryFull-clause-ok g c = inr (full_here _ g.N.Section.ids c.args.session.now c.turn.new.session c.in-Err-HistoryFull.ensures.err (c.turn.ensures.full cc))
