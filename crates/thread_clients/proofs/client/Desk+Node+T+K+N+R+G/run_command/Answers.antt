use Rattle.thread_cluster.proofs.Lists.{on_err_always}
use Rattle.thread_cluster.proofs.Growing.{goes_on_trans}
use Rattle.thread_clients.proofs.Settled.{adds_line, made_reply, made_refusal, runs_here, made_on}
use Rattle.thread_clients.specs.Stopping.IsBegun.{unmade, made}
use Rattle.thread_clients.proofs.client.Desk+Node+T+K+N+R+G.run_command.Goals as goal

pub answered-requires-clause-runs : goal.answered-requires-clause-runs
answered-requires-clause-runs g c = runs_here _ g.N.Section.ids c.args.self.now.cluster.now.views c.args.command.now c.args.session.now c.call-result.new.session c.in-Ok.receipt c.in-Ok.ensures.called.ok

pub returns-in_err-answered-in-Ok-clause-goes_on : goal.returns-in_err-answered-in-Ok-clause-goes_on
returns-in_err-answered-in-Ok-clause-goes_on g c =
    goes_on_trans c.args.session.now c.call-result.new.session c.answered.new.session
    (made_on _ g.N.Section.ids c.args.self.now.cluster.now.views c.args.command.now c.args.session.now c.call-result.new.session c.in-Ok.receipt c.in-Ok.ensures.called.ok) c.in_err-answered-in-Ok.ensures.goes_on

pub returns-in_err-refused-in-Err-clause-goes_on : goal.returns-in_err-refused-in-Err-clause-goes_on
returns-in_err-refused-in-Err-clause-goes_on g c = c.in-Err.ensures.called.err.goes_on

pub returns-in_ok-answered-in-Ok-clause-ok : goal.returns-in_ok-answered-in-Ok-clause-ok
returns-in_ok-answered-in-Ok-clause-ok g c =
    adds_line c.args.lines.now.items c.answered.new.lines.items c.in_ok-answered-in-Ok.ensures.ok
    (λ line is. made_reply _ g.N.Section.ids c.args.self.now.cluster.now.views c.args.command.now c.args.client line c.args.session.now c.call-result.new.session c.answered.new.session c.in-Ok.receipt c.in-Ok.ensures.called.ok is c.facts.ensures.timed)

pub returns-in_ok-answered-in-Ok-clause-goes_on : goal.returns-in_ok-answered-in-Ok-clause-goes_on
returns-in_ok-answered-in-Ok-clause-goes_on g c =
    goes_on_trans c.args.session.now c.call-result.new.session c.answered.new.session
    (made_on _ g.N.Section.ids c.args.self.now.cluster.now.views c.args.command.now c.args.session.now c.call-result.new.session c.in-Ok.receipt c.in-Ok.ensures.called.ok) c.in_ok-answered-in-Ok.ensures.goes_on

pub returns-in_ok-refused-in-Err-clause-ok : goal.returns-in_ok-refused-in-Err-clause-ok
returns-in_ok-refused-in-Err-clause-ok g c =
    adds_line c.args.lines.now.items c.refused.new.lines.items c.in_ok-refused-in-Err.ensures
    (λ line is. made_refusal _ g.N.Section.ids c.args.self.now.cluster.now.views c.args.command.now c.args.client line c.args.session.now c.call-result.new.session c.in-Err.error c.in-Err.ensures.called is c.facts-in-Err.ensures.timed)

pub returns-in_ok-refused-in-Err-clause-goes_on : goal.returns-in_ok-refused-in-Err-clause-goes_on
returns-in_ok-refused-in-Err-clause-goes_on g c = c.in-Err.ensures.called.err.goes_on

pub returns-in_err-answered-in-Ok-clause-err : goal.returns-in_err-answered-in-Ok-clause-err
returns-in_err-answered-in-Ok-clause-err g c = on_err_always _ _ (made c.call-result.new.session c.in-Ok.receipt c.in-Ok.ensures.called.ok c.in_err-answered-in-Ok.ensures.err)

pub returns-in_err-refused-in-Err-clause-err : goal.returns-in_err-refused-in-Err-clause-err
returns-in_err-refused-in-Err-clause-err g c = on_err_always _ _ (unmade c.in-Err.ensures.called.err)
