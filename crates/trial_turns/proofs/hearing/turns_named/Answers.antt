use Rattle.std.proofs.Common.{subst}
use Rattle.thread_section.specs.Places.{AreIdentities}
use Rattle.thread_section.proofs.Beginning.{apart_of, are_new}
use Rattle.trial_turns.proofs.hearing.turns_named.Goals as goal

pub new-cluster-requires-clause-apart : goal.new-cluster-requires-clause-apart
new-cluster-requires-clause-apart g c = apart_of c.args.views g.N.Section.ids c.requires.ids c.last.ensures.sound

pub new-cluster-requires-clause-new : goal.new-cluster-requires-clause-new
new-cluster-requires-clause-new g c =
    let are = c.named-cells.ensures in
    are_new c.args.views c.args.seats.now.spare.items g.N.Section.ids c.requires.ids g.N.Name.table c.args.unnamed.opening c.requires.placed c.last.ensures.sound c.identities-ids.result
    (subst (λ view. AreIdentities view c.identities-ids.result) c.last.ensures.last c.identities-ids.ensures) c.named-cells.result.0 are.p0 are.p1 are.p2 are.p3 are.p4 are.p5 are.p6 are.p7
