use Rattle.thread_cluster.proofs.Lists.{if_ok, on_err, on_err_always}
use Rattle.thread_cluster.proofs.Growing.{goes_on_trans}
use Rattle.thread_clients.proofs.Turned.{takes_on}
use Rattle.thread_clients.proofs.Ended.{found_end, gave_up, waited_some, waited_none}
use Rattle.thread_clients.specs.Stopping.IsLeftOpen.{taking}
use Rattle.thread_clients.proofs.Stopped.{left_open}
use Rattle.thread_clients.proofs.ending.Desk+Node+T+K+N+R+G.end.Goals as goal

pub returns-in_err-result-clause-goes_on : goal.returns-in_err-result-clause-goes_on
returns-in_err-result-clause-goes_on g c = takes_on g.N.Section.ids c.args.session.now c.wait_for.new.session c.in_err-result.ensures.takes

pub returns-in_err-result-clause-err : goal.returns-in_err-result-clause-err
returns-in_err-result-clause-err g c = on_err_always _ _ (taking c.in_err-result.ensures.takes)

pub returns-in-None-clause-err : goal.returns-in-None-clause-err
returns-in-None-clause-err g c =
    on_err c.give_up.result _ _
    (left_open _ g.N.Section.ids c.args.at c.args.op c.args.session.now c.wait_for.new.session c.give_up.new.session c.in_ok-result.ensures.takes
    (waited_none _ g.N.Section.ids c.args.at c.args.op c.args.session.now c.wait_for.new.session c.in_ok-result.field-0 c.in-None.is c.in_ok-result.ensures.ok) c.facts.ensures.timed)
    c.give_up.ensures.err

pub returns-in-Some-clause-ok : goal.returns-in-Some-clause-ok
returns-in-Some-clause-ok g c =
    found_end _ g.N.Section.ids c.args.at c.args.op c.args.session.now c.wait_for.new.session c.in-Some.result
    (waited_some _ g.N.Section.ids c.args.at c.args.op c.args.session.now c.wait_for.new.session c.in_ok-result.field-0 c.in-Some.result c.in-Some.is c.in_ok-result.ensures.ok)

pub returns-in-Some-clause-goes_on : goal.returns-in-Some-clause-goes_on
returns-in-Some-clause-goes_on g c = takes_on g.N.Section.ids c.args.session.now c.wait_for.new.session c.in_ok-result.ensures.takes

pub returns-in-None-clause-ok : goal.returns-in-None-clause-ok
returns-in-None-clause-ok g c =
    if_ok c.give_up.result _ _
    (λ end up. gave_up _ g.N.Section.ids c.args.at c.args.op c.args.session.now c.wait_for.new.session c.give_up.new.session end
    (waited_none _ g.N.Section.ids c.args.at c.args.op c.args.session.now c.wait_for.new.session c.in_ok-result.field-0 c.in-None.is c.in_ok-result.ensures.ok) c.facts.ensures.timed up)
    c.give_up.ensures.ok

pub returns-in-None-clause-goes_on : goal.returns-in-None-clause-goes_on
returns-in-None-clause-goes_on g c =
    goes_on_trans c.args.session.now c.wait_for.new.session c.give_up.new.session (takes_on g.N.Section.ids c.args.session.now c.wait_for.new.session c.in_ok-result.ensures.takes) c.give_up.ensures.goes_on
