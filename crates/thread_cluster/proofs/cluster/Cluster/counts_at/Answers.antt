use Rattle.std.proofs.Common.{subst}
use Rattle.thread_cluster.specs.Books.{IsCounted}
use Rattle.thread_cluster.proofs.Growing.{sees_self}
use Rattle.thread_cluster.proofs.Telling.{none_some}
use Rattle.thread_cluster.proofs.cluster.Cluster.counts_at.Goals as goal

pub returns-in_default-clause-sees : goal.returns-in_default-clause-sees
returns-in_default-clause-sees g c = sees_self c.args.session.now

pub returns-in_default-clause-counted : goal.returns-in_default-clause-counted
returns-in_default-clause-counted g c = λ i one. absurd (none_some (g.N.Section.ids c.args.place) i c.in_default.ensures.none one)

pub returns-clause-counted : goal.returns-clause-counted
returns-clause-counted g c = λ i one.
    subst (λ w. IsCounted g.M.Member.posted g.M.Member.taken g.N.Section.ids w c.counts.new.session.seen.known c.counts.result) c.in-Some.ensures.some c.counts.ensures.counted
