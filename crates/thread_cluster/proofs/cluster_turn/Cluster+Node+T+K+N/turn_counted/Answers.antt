use Rattle.thread_cluster.proofs.Calling.{full_somewhere, stopped_not_gone, stopped_not_view}
use Rattle.thread_cluster.proofs.cluster_turn.Cluster+Node+T+K+N.turn_counted.Goals as goal

pub returns-in-Err-clause-full : goal.returns-in-Err-clause-full
returns-in-Err-clause-full g c = λ e.
    let told = c.stopped.ensures in
    full_somewhere _ (λ m i h. h) g.N.Section.ids c.turn_all.new.session c.in-Err.error c.in-Err.ensures.cause cc

pub returns-in-Err-clause-only : goal.returns-in-Err-clause-only
returns-in-Err-clause-only g c =
    let told = c.stopped.ensures in
    (λ e. stopped_not_gone c.in-Err.error cc, λ e. stopped_not_view c.in-Err.error cc)
