use Rattle.std.proofs.Common.{refl}
use Rattle.thread_clients.proofs.Turned.{takes_self, takes_seen, takes_trans}
use Rattle.thread_clients.proofs.Waiting.{waited_more, is_unfinished, found_now}
use Rattle.thread_clients.proofs.Waiting.Waited.{not_yet}
use Rattle.thread_clients.specs.Turns.HasLooked.{none_yet, once_more}
use Rattle.thread_clients.proofs.turning.Desk+Node+T+K+N+R+G.wait_for.Goals as goal

pub loop-turn-init : goal.loop-turn-init
loop-turn-init g c = record { looked = none_yet; waited = not_yet refl; takes = takes_self g.N.Section.ids c.args.session.now; table = c.requires.table }

pub returns-in_err-turn-clause-takes : goal.returns-in_err-turn-clause-takes
returns-in_err-turn-clause-takes g c = takes_trans g.N.Section.ids c.args.session.now c.loop-turn.session c.turn.new.session c.loop-turn.invariant.takes c.in_err-turn.ensures.takes

pub returns-in_err-result-clause-takes : goal.returns-in_err-result-clause-takes
returns-in_err-result-clause-takes g c =
    let before = takes_trans g.N.Section.ids c.args.session.now c.loop-turn.session c.turn.new.session c.loop-turn.invariant.takes c.in_ok-turn.ensures.takes in
    takes_trans g.N.Section.ids c.args.session.now c.turn.new.session c.look.new.session before (takes_seen g.N.Section.ids c.turn.new.session c.look.new.session c.in_err-result.ensures.sees)

pub returns-in-Finished-clause-takes : goal.returns-in-Finished-clause-takes
returns-in-Finished-clause-takes g c =
    let before = takes_trans g.N.Section.ids c.args.session.now c.loop-turn.session c.turn.new.session c.loop-turn.invariant.takes c.in_ok-turn.ensures.takes in
    takes_trans g.N.Section.ids c.args.session.now c.turn.new.session c.look.new.session before (takes_seen g.N.Section.ids c.turn.new.session c.look.new.session c.in_ok-result.ensures.sees)

pub returns-in-Finished-clause-ok : goal.returns-in-Finished-clause-ok
returns-in-Finished-clause-ok g c =
    found_now _ g.N.Section.ids c.args.at c.args.op c.args.session.now c.loop-turn.session c.turn.new.session c.look.new.session c.in_ok-result.field-0 c.in-Finished.result
    c.loop-turn.invariant.takes c.in_ok-turn.ensures.ok c.in_ok-result.ensures.ok c.in-Finished.is

pub loop-turn-preserved : goal.loop-turn-preserved
loop-turn-preserved g c =
    let before = takes_trans g.N.Section.ids c.args.session.now c.loop-turn.session c.turn.new.session c.loop-turn.invariant.takes c.in_ok-turn.ensures.takes in record {
      looked = once_more c.loop-turn._turn c.loop-turn.session c.turn.new.session c.look.new.session c.in_ok-result.field-0
          c.loop-turn.invariant.looked c.in_ok-turn.ensures.ok c.in_ok-result.ensures.ok (is_unfinished c.in_ok-result.field-0 c.in_default.not-Finished);
      waited = waited_more _ g.N.Section.ids c.args.at c.args.op c.loop-turn._turn c.args.session.now c.loop-turn.session c.turn.new.session c.look.new.session c.in_ok-result.field-0
          c.loop-turn.invariant.takes c.in_ok-turn.ensures.ok c.in_ok-result.ensures.ok (is_unfinished c.in_ok-result.field-0 c.in_default.not-Finished) c.loop-turn.invariant.waited;
      takes = takes_trans g.N.Section.ids c.args.session.now c.turn.new.session c.look.new.session before (takes_seen g.N.Section.ids c.turn.new.session c.look.new.session c.in_ok-result.ensures.sees);
      table = c.in_ok-result.ensures.table;
    }
