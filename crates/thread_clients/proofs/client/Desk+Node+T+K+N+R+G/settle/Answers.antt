use Rattle.std.proofs.Common.{◌∙◌, sym}
use Rattle.thread_cluster.proofs.Lists.{on_err_always}
use Rattle.thread_cluster.proofs.Growing.{goes_on_self}
use Rattle.thread_clients.proofs.Turned.{takes_on}
use Rattle.thread_clients.proofs.Settled.{settled_end, settled_turn, settled_quiet}
use Rattle.thread_clients.proofs.Stopped.{left_pending, left_taking}
use Rattle.thread_clients.proofs.client.Desk+Node+T+K+N+R+G.settle.Goals as goal

pub returns-in-Pending-clause-ok : goal.returns-in-Pending-clause-ok
returns-in-Pending-clause-ok g c =
    settled_end _ g.N.Section.ids c.args.command.now c.args.output.now.reply c.args.output.now.posts c.args.session.now c.end.new.session c.in-Pending.op c.in_ok-end.field-0
    c.in-Pending.is c.in_ok-end.ensures.ok

pub returns-then-is_quiet-clause-ok : goal.returns-then-is_quiet-clause-ok
returns-then-is_quiet-clause-ok g c =
    let quiet = c.is_quiet.ensures c.if-is_quiet.true in
    settled_quiet _ g.N.Section.ids c.args.command.now c.args.output.now.reply c.args.output.now.posts c.args.session.now c.in_default.not-Pending quiet.0 (sym c.as_slice.ensures ∙ quiet.1)

pub returns-then-is_quiet-clause-goes_on : goal.returns-then-is_quiet-clause-goes_on
returns-then-is_quiet-clause-goes_on g c = goes_on_self c.args.session.now

pub returns-in_err-turn-clause-goes_on : goal.returns-in_err-turn-clause-goes_on
returns-in_err-turn-clause-goes_on g c = takes_on g.N.Section.ids c.args.session.now c.turn.new.session c.in_err-turn.ensures.takes

pub returns-in_err-end-clause-err : goal.returns-in_err-end-clause-err
returns-in_err-end-clause-err g c =
    on_err_always _ _ (left_pending _ g.N.Section.ids c.args.command.now.at c.args.output.now.reply c.in-Pending.op c.args.session.now c.end.new.session c.in-Pending.is c.in_err-end.ensures.err)

pub returns-in_err-turn-clause-err : goal.returns-in_err-turn-clause-err
returns-in_err-turn-clause-err g c = on_err_always _ _ (left_taking _ g.N.Section.ids c.args.command.now.at c.args.output.now.reply c.args.session.now c.turn.new.session c.in_err-turn.ensures.takes)

pub returns-clause-ok : goal.returns-clause-ok
returns-clause-ok g c =
    settled_turn _ g.N.Section.ids c.args.command.now c.args.output.now.reply c.args.output.now.posts c.args.session.now c.turn.new.session c.in_default.not-Pending c.in_ok-turn.ensures.ok

pub returns-clause-goes_on : goal.returns-clause-goes_on
returns-clause-goes_on g c = takes_on g.N.Section.ids c.args.session.now c.turn.new.session c.in_ok-turn.ensures.takes
