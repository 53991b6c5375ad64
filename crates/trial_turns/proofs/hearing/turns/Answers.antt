use Rattle.std.proofs.Common.{ap, sym, subst}
use Rattle.world_places.specs.Parts.{ArePlaced}
use Rattle.thread_section.proofs.Beginning.{placed_of}
use Rattle.trial_turns.proofs.hearing.turns.Goals as goal

pub turns_named-requires-clause-placed : goal.turns_named-requires-clause-placed
turns_named-requires-clause-placed g c =
    let parts = c.into_parts-views.result in
    let are = c.into_parts-views.ensures in
    subst (λ ms. ArePlaced parts.views ms parts.seats.spare.items) (sym (ap (λ o. o.machines) c.in-Ok.ensures.ok)) (placed_of c.args.world parts.members are.members parts.seats.spare are.spare parts.views are.views)
