use Rattle.std.proofs.Common.{◌≡◌, ◌∙◌, ap, map, refl, arith, length}
use Rattle.std.proofs.lemmas.Iterator.Adapters.{YieldsList-from_vec}
use Rattle.std.proofs.lemmas.Iterator.Consumers.{YieldsList-end}
use Rattle.thread_clients.specs.Playing.{session_of}
use Rattle.thread_clients.proofs.Beside.{pushed_more, all_yielded}
use Rattle.thread_clients.proofs.clients.sessions_of.Goals as goal

pub loop-job-init : goal.loop-job-init
loop-job-init g c = record {
  items = c.requires.empty;
  room = let a = c.args.sessions.ok.0 in let b = ap length c.requires.empty in let r = c.requires.room in let n = c.into_iter-job-iterator.ensures.into_iter_gives.1 in omega arith;
}

pub push_reserved-requires : goal.push_reserved-requires
push_reserved-requires g c = let r = c.loop-job.invariant.room in let s = c.in-Some.ensures.steps.1 in omega arith

pub loop-job-preserved : goal.loop-job-preserved
loop-job-preserved g c = record {
  items = pushed_more session_of c.loop-job.sessions.items c.push_reserved.new.self.items c.loop-job.yielded c.in-Some.job _ c.loop-job.invariant.items c.push_reserved.ensures.items refl;
  room = let l = c.push_reserved.ensures.len in let k = c.push_reserved.ensures.capacity in let r = c.loop-job.invariant.room in let s = c.in-Some.ensures.steps.1 in omega arith;
}

pub returns : goal.returns
returns g c =
    let items = c.args.jobs.items in
    let ends = YieldsList-end (YieldsList-from_vec items c.into_iter-job-iterator.ensures.into_iter_gives.0 (c.into_iter-job-iterator.ensures.into_iter_gives.1 ∙ c.args.jobs.ok.0)) c.loop-job.yielded c.loop-job.job-iterator c.loop-job.yielded_by c.next.result c.next.new.self c.in-None.is c.next.ensures.steps in
    let whole : c.loop-job.yielded ≡ items = all_yielded c.loop-job.yielded items ends.0 in
    c.loop-job.invariant.items ∙ ap (map session_of) whole
