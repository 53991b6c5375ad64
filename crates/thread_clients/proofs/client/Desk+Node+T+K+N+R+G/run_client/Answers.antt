use Rattle.std.proofs.Common.{arith}
use Rattle.thread_cluster.proofs.Lists.{on_err_always}
use Rattle.thread_cluster.proofs.Growing.{goes_on_self, goes_on_trans}
use Rattle.thread_clients.proofs.Walking.{path_none, path_next, path_told}
use Rattle.thread_clients.specs.Commands.{commands_of}
use Rattle.thread_clients.proofs.Stopped.{stopped_here, stopped_at}
use Rattle.thread_clients.proofs.client.Desk+Node+T+K+N+R+G.run_client.Goals as goal

pub loop-repeated-init : goal.loop-repeated-init
loop-repeated-init g c = record {
  path = path_none _ g.N.Section.ids c.args.self.now.cluster.now.views c.args.client c.args.session.now c.in_ok-lines.lines.items c.args.commands.now c.in_ok-lines.ensures;
  goes_on = goes_on_self c.args.session.now;
  table = c.requires;
}

pub returns-in_err-run_times-clause-goes_on : goal.returns-in_err-run_times-clause-goes_on
returns-in_err-run_times-clause-goes_on g c = goes_on_trans c.args.session.now c.loop-repeated.session c.run_times.new.session c.loop-repeated.invariant.goes_on c.in_err-run_times.ensures.goes_on

pub returns-in_err-run_times-clause-err : goal.returns-in_err-run_times-clause-err
returns-in_err-run_times-clause-err g c =
    on_err_always _ _
    (stopped_at _ g.N.Section.ids c.args.self.now.cluster.now.views c.args.client c.args.commands.now c.as_slice-repeated-items.result.now c.loop-repeated.repeated-index c.repeated-item.result c.args.session.now c.loop-repeated.session c.run_times.new.session
    c.loop-repeated.lines.items c.as_slice-repeated-items.ensures c.loop-repeated-test.true c.repeated-item.is c.loop-repeated.invariant.path c.in_err-run_times.ensures.err)

pub returns-in_err-lines-clause-goes_on : goal.returns-in_err-lines-clause-goes_on
returns-in_err-lines-clause-goes_on g c = goes_on_self c.args.session.now

pub returns-in_err-lines-clause-err : goal.returns-in_err-lines-clause-err
returns-in_err-lines-clause-err g c = on_err_always _ _ (stopped_here _ g.N.Section.ids c.args.self.now.cluster.now.views c.args.client (commands_of c.args.commands.now) c.args.session.now)

pub loop-repeated-preserved : goal.loop-repeated-preserved
loop-repeated-preserved g c = record {
  path = path_next _ g.N.Section.ids c.args.self.now.cluster.now.views c.args.client c.args.commands.now c.as_slice-repeated-items.result.now c.loop-repeated.repeated-index c.repeated-item.result c.args.session.now c.loop-repeated.session c.run_times.new.session
      c.loop-repeated.lines.items c.run_times.new.lines.items c.as_slice-repeated-items.ensures c.loop-repeated-test.true c.repeated-item.is c.loop-repeated.invariant.path c.in_ok-run_times.ensures.ok;
  goes_on = goes_on_trans c.args.session.now c.loop-repeated.session c.run_times.new.session c.loop-repeated.invariant.goes_on c.in_ok-run_times.ensures.goes_on;
  table = c.in_ok-run_times.ensures.table;
}

pub returns-clause-ok : goal.returns-clause-ok
returns-clause-ok g c =
    path_told _ g.N.Section.ids c.args.self.now.cluster.now.views c.args.client c.args.commands.now c.as_slice-repeated-items.result.now c.loop-repeated.repeated-index c.args.session.now c.loop-repeated.session c.loop-repeated.lines.items
    c.from_vec.result c.as_slice-repeated-items.ensures (let a = c.loop-repeated-test.false in omega arith) c.loop-repeated.invariant.path c.from_vec.ensures
