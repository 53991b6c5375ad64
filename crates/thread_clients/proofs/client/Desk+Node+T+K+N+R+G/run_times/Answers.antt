use Rattle.std.proofs.Common.{◌≡◌, ◌-◌, ◌++◌, ◌∷◌, [], suc, replicate, ap, ◌∙◌, arith}
use Rattle.thread_cluster.proofs.Lists.{on_err_always}
use Rattle.thread_cluster.proofs.Growing.{goes_on_self, goes_on_trans}
use Rattle.thread_clients.proofs.Walking.{further_none, further_again, further_all}
use Rattle.thread_clients.proofs.Stopped.{begun_none, stops_after}
use Rattle.thread_clients.proofs.client.Desk+Node+T+K+N+R+G.run_times.Goals as goal

pub loop-time-init : goal.loop-time-init
loop-time-init g c = record {
  further = further_none _ g.N.Section.ids c.args.self.now.cluster.now.views c.args.client c.args.session.now c.args.lines.now.items;
  goes_on = goes_on_self c.args.session.now;
  table = c.requires;
}

pub returns-in_err-run_command-clause-goes_on : goal.returns-in_err-run_command-clause-goes_on
returns-in_err-run_command-clause-goes_on g c = goes_on_trans c.args.session.now c.loop-time.session c.run_command.new.session c.loop-time.invariant.goes_on c.in_err-run_command.ensures.goes_on

pub returns-in_err-reserve-clause-err : goal.returns-in_err-reserve-clause-err
returns-in_err-reserve-clause-err g c =
    let n = c.loop-time._time in
    let times = c.args.repeated.now.times in
    let less = c.loop-time-test.true in
    let command = c.args.repeated.now.command in
    let views = c.args.self.now.cluster.now.views in
    on_err_always _ _
    (stops_after _ g.N.Section.ids views c.args.client n (times - n) times command c.args.session.now c.loop-time.session c.loop-time.session c.args.lines.now.items c.loop-time.lines.items
    (omega arith) c.loop-time.invariant.further (λ later. begun_none _ g.N.Section.ids views (replicate (times - n) command ++ later) c.loop-time.session))

pub returns-in_err-run_command-clause-err : goal.returns-in_err-run_command-clause-err
returns-in_err-run_command-clause-err g c =
    let n = c.loop-time._time in
    let times = c.args.repeated.now.times in
    let less = c.loop-time-test.true in
    let views = c.args.self.now.cluster.now.views in
    on_err_always _ _
    (stops_after _ g.N.Section.ids views c.args.client n (suc (times - suc n)) times c.args.repeated.now.command c.args.session.now c.loop-time.session c.run_command.new.session c.args.lines.now.items c.loop-time.lines.items
    (omega arith) c.loop-time.invariant.further (λ later. c.in_err-run_command.ensures.err))

pub loop-time-preserved : goal.loop-time-preserved
loop-time-preserved g c =
    let adds = c.in_ok-run_command.ensures.ok in
    record {
      further = further_again _ g.N.Section.ids c.args.self.now.cluster.now.views c.args.client c.loop-time._time c.args.repeated.now.command c.args.session.now c.loop-time.session c.run_command.new.session
          c.args.lines.now.items c.loop-time.lines.items c.run_command.new.lines.items adds.line c.loop-time.invariant.further adds.is (adds.added ∙ ap (λ ls. ls ++ adds.line ∷ []) c.reserve.ensures.items);
      goes_on = goes_on_trans c.args.session.now c.loop-time.session c.run_command.new.session c.loop-time.invariant.goes_on c.in_ok-run_command.ensures.goes_on;
      table = c.in_ok-run_command.ensures.table;
    }

pub returns-clause-ok : goal.returns-clause-ok
returns-clause-ok g c =
    let all : c.loop-time._time ≡ c.args.repeated.now.times = let a = c.loop-time-test.false in let b = c.loop-time.auto._time-end in omega arith in
    further_all _ g.N.Section.ids c.args.self.now.cluster.now.views c.args.client c.loop-time._time c.args.repeated.now.times c.args.repeated.now.command c.args.session.now c.loop-time.session c.args.lines.now.items c.loop-time.lines.items all c.loop-time.invariant.further
