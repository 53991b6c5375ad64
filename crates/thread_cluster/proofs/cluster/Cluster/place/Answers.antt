use Rattle.std.proofs.lemmas.Bool.{both_ways}
use Rattle.thread_cluster.proofs.Books.{nowhere_listed}
use Rattle.thread_cluster.proofs.cluster.Cluster.place.Goals as goal

pub returns-clause-none : goal.returns-clause-none
returns-clause-none g c =
    nowhere_listed g.N.Section.ids c.args.self.now.ids c.args.id c.args.self.now.listed
    (λ is. both_ways _ c.if-is_one.false (c.is_one.ensures.1 is))
    (λ is. both_ways _ c.if-is_one-2.false (c.is_one-2.ensures.1 is))
    (λ is. both_ways _ c.if-is_one-3.false (c.is_one-3.ensures.1 is))
    (λ is. both_ways _ c.if-is_one-4.false (c.is_one-4.ensures.1 is))
    (λ is. both_ways _ c.if-is_one-5.false (c.is_one-5.ensures.1 is))
    (λ is. both_ways _ c.if-is_one-6.false (c.is_one-6.ensures.1 is))
    (λ is. both_ways _ c.if-is_one-7.false (c.is_one-7.ensures.1 is))
    (λ is. both_ways _ c.if-is_one-8.false (c.is_one-8.ensures.1 is))
