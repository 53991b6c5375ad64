use Rattle.std.proofs.Common.{refl}
use Rattle.thread_cluster.proofs.Lists.{on_err_always}
use Rattle.thread_cluster.proofs.Growing.{goes_on_trans, sees_trans}
use Rattle.thread_clients.proofs.Ended.{receipt_on, timed_out_now, closed_now, left_now}
use Rattle.thread_clients.specs.Stopping.IsCutOff.{uncalled, gave_up}
use Rattle.thread_clients.proofs.ending.Desk+Node+T+K+N+R+G.give_up.Goals as goal

pub returns-then-is_timed_out-clause-ok : goal.returns-then-is_timed_out-clause-ok
returns-then-is_timed_out-clause-ok g c =
    timed_out_now _ g.N.Section.ids c.args.at c.args.op c.args.session.now c.ask.new.session c.in-Ok.receipt c.in-Ok.ensures.call.ok (c.is_timed_out.ensures.0 c.if-is_timed_out.true)

pub returns-then-is_timed_out-clause-goes_on : goal.returns-then-is_timed_out-clause-goes_on
returns-then-is_timed_out-clause-goes_on g c = receipt_on _ g.N.Section.ids c.args.at c.args.op c.args.session.now c.ask.new.session c.in-Ok.receipt c.in-Ok.ensures.call.ok

pub returns-in_ok-seen-in-Err-HistoryFull-clause-ok : goal.returns-in_ok-seen-in-Err-HistoryFull-clause-ok
returns-in_ok-seen-in-Err-HistoryFull-clause-ok g c =
    left_now _ g.N.Section.ids c.args.at c.args.op c.args.session.now c.ask.new.session c.look-in-Err-HistoryFull.new.session c.in_ok-seen-in-Err-HistoryFull.seen c.left.result
    c.in-Err-HistoryFull.ensures.call.err (c.ask.ensures.call.full cc) c.in_ok-seen-in-Err-HistoryFull.ensures.ok c.left.ensures

pub returns-in_ok-seen-in-Err-HistoryFull-clause-goes_on : goal.returns-in_ok-seen-in-Err-HistoryFull-clause-goes_on
returns-in_ok-seen-in-Err-HistoryFull-clause-goes_on g c =
    goes_on_trans c.args.session.now c.ask.new.session c.look-in-Err-HistoryFull.new.session c.in-Err-HistoryFull.ensures.call.err.goes_on c.in_ok-seen-in-Err-HistoryFull.ensures.sees.goes_on

pub returns-in_err-seen-in-Err-HistoryFull-clause-goes_on : goal.returns-in_err-seen-in-Err-HistoryFull-clause-goes_on
returns-in_err-seen-in-Err-HistoryFull-clause-goes_on g c =
    goes_on_trans c.args.session.now c.ask.new.session c.look-in-Err-HistoryFull.new.session c.in-Err-HistoryFull.ensures.call.err.goes_on c.in_err-seen-in-Err-HistoryFull.ensures.sees.goes_on

pub returns-in_err-seen-in-Ok-clause-goes_on : goal.returns-in_err-seen-in-Ok-clause-goes_on
returns-in_err-seen-in-Ok-clause-goes_on g c =
    goes_on_trans c.args.session.now c.ask.new.session c.look.new.session (receipt_on _ g.N.Section.ids c.args.at c.args.op c.args.session.now c.ask.new.session c.in-Ok.receipt c.in-Ok.ensures.call.ok) c.in_err-seen-in-Ok.ensures.sees.goes_on

pub returns-in_ok-seen-in-Ok-clause-ok : goal.returns-in_ok-seen-in-Ok-clause-ok
returns-in_ok-seen-in-Ok-clause-ok g c =
    closed_now _ g.N.Section.ids c.args.at c.args.op c.args.session.now c.ask.new.session c.look.new.session c.in-Ok.receipt c.in-Ok.receipt.output.reply c.in_ok-seen-in-Ok.seen c.closed.result c.in-Ok.ensures.call.ok refl
    (λ e. let yes = c.is_timed_out.ensures.1 e in let no = c.if-is_timed_out.false in cc) c.in_ok-seen-in-Ok.ensures.ok c.closed.ensures

pub returns-in_ok-seen-in-Ok-clause-goes_on : goal.returns-in_ok-seen-in-Ok-clause-goes_on
returns-in_ok-seen-in-Ok-clause-goes_on g c =
    goes_on_trans c.args.session.now c.ask.new.session c.look.new.session (receipt_on _ g.N.Section.ids c.args.at c.args.op c.args.session.now c.ask.new.session c.in-Ok.receipt c.in-Ok.ensures.call.ok) c.in_ok-seen-in-Ok.ensures.sees.goes_on

pub returns-in_err-seen-in-Ok-clause-err : goal.returns-in_err-seen-in-Ok-clause-err
returns-in_err-seen-in-Ok-clause-err g c = on_err_always _ _ (gave_up c.ask.new.session c.in-Ok.receipt c.in-Ok.ensures.call.ok c.in_err-seen-in-Ok.ensures.sees)

pub returns-in_err-seen-in-Err-HistoryFull-clause-err : goal.returns-in_err-seen-in-Err-HistoryFull-clause-err
returns-in_err-seen-in-Err-HistoryFull-clause-err g c =
    on_err_always _ _ (uncalled (sees_trans c.args.session.now c.ask.new.session c.look-in-Err-HistoryFull.new.session c.in-Err-HistoryFull.ensures.call.err c.in_err-seen-in-Err-HistoryFull.ensures.sees))

pub returns-in-Err-Memory-clause-err : goal.returns-in-Err-Memory-clause-err
returns-in-Err-Memory-clause-err g c = uncalled c.in-Err-Memory.ensures.call.err
