use Rattle.thread_cluster.specs.Sites.{place_of}
use Rattle.thread_cluster.proofs.Calling.{call_gone, call_answered, call_stopped}
use Rattle.thread_cluster.proofs.Growing.{sees_self}
use Rattle.thread_cluster.proofs.calls.Cluster+Node+T+K+N.ask.Goals as goal

pub returns-in_default-clause-call : goal.returns-in_default-clause-call
returns-in_default-clause-call g c = call_gone _ (λ m i h. h) g.N.Section.ids c.args.id c.args.input c.args.session.now c.args.session.now c.in_default.ensures.none (sees_self c.args.session.now)

pub returns-in-Ok-clause-call : goal.returns-in-Ok-clause-call
returns-in-Ok-clause-call g c =
    call_answered _ (λ m i h. h) g.N.Section.ids c.args.id c.args.input c.args.session.now c.call.new.session (place_of c.in-Some.site) c.in-Some.ensures.some c.in-Ok.receipt c.in-Ok.ensures.ok

pub returns-in-Err-clause-call : goal.returns-in-Err-clause-call
returns-in-Err-clause-call g c =
    call_stopped _ (λ m i h. h) g.N.Section.ids c.args.id c.args.input c.args.session.now c.call.new.session c.in-Err.error c.stopped.result c.stopped.ensures
    (record { place = place_of c.in-Some.site; here = c.in-Some.ensures.some; cause = c.in-Err.ensures.cause }) c.in-Err.ensures.err
