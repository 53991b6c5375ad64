use Rattle.std.proofs.Common.{replicate, ◌≡◌, ◌∙◌, ap, map, false, arith, length}
use Rattle.std.proofs.lemmas.Iterator.Adapters.{YieldsList-from_vec}
use Rattle.std.proofs.lemmas.Iterator.Consumers.{YieldsList-end}
use Rattle.thread_clients.specs.Playing.{job_of}
use Rattle.thread_clients.proofs.Beside.{pushed_more, all_yielded}
use Rattle.thread_clients.proofs.clients.jobs_of.Goals as goal

pub loop-session-init : goal.loop-session-init
loop-session-init g c = record {
  items = c.requires.empty;
  room = let a = c.args.jobs.ok.0 in let b = ap length c.requires.empty in let r = c.requires.room in let n = c.into_iter-session-iterator.ensures.into_iter_gives.1 in omega arith;
}

pub push_reserved-requires : goal.push_reserved-requires
push_reserved-requires g c = let r = c.loop-session.invariant.room in let s = c.in-Some.ensures.steps.1 in omega arith

pub loop-session-preserved : goal.loop-session-preserved
loop-session-preserved g c = record {
  items = pushed_more job_of c.loop-session.jobs.items c.push_reserved.new.self.items c.loop-session.yielded c.in-Some.session _ c.loop-session.invariant.items c.push_reserved.ensures.items (ap (λ ls. record { session = c.in-Some.session; lines = ls; complete = false; apart = replicate 16 0 }) c.new.ensures);
  room = let l = c.push_reserved.ensures.len in let k = c.push_reserved.ensures.capacity in let r = c.loop-session.invariant.room in let s = c.in-Some.ensures.steps.1 in omega arith;
}

pub returns : goal.returns
returns g c =
    let items = c.args.sessions.items in
    let ends = YieldsList-end (YieldsList-from_vec items c.into_iter-session-iterator.ensures.into_iter_gives.0 (c.into_iter-session-iterator.ensures.into_iter_gives.1 ∙ c.args.sessions.ok.0)) c.loop-session.yielded c.loop-session.session-iterator c.loop-session.yielded_by c.next.result c.next.new.self c.in-None.is c.next.ensures.steps in
    let whole : c.loop-session.yielded ≡ items = all_yielded c.loop-session.yielded items ends.0 in
    c.loop-session.invariant.items ∙ ap (map job_of) whole
