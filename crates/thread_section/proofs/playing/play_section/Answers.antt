use Rattle.std.proofs.Common.{◌∙◌, ap, sym, subst, map}
use Rattle.member_node.specs.Members.{AreDistinct}
use Rattle.thread_machine.specs.Machines.{machine_at}
use Rattle.world_places.specs.Parts.{ArePlaced}
use Rattle.thread_section.proofs.Beginning.{placed_of, back_as_before, made_of}
use Rattle.thread_section.proofs.playing.play_section.Goals as goal

pub play_unnamed-requires-clause-keys : goal.play_unnamed-requires-clause-keys
play_unnamed-requires-clause-keys g c κs within = subst (λ keys. AreDistinct (map (λ decl. decl.key) keys.items)) (sym c.into_parts-views.ensures.keys) c.args.world.distinct

pub play_unnamed-requires-clause-placed : goal.play_unnamed-requires-clause-placed
play_unnamed-requires-clause-placed g c κs within =
    let parts = c.into_parts-views.result in
    let are = c.into_parts-views.ensures in
    subst (λ ms. ArePlaced parts.views ms parts.seats.spare.items) (sym (ap (λ o. o.machines) c.in-Ok.ensures.ok)) (placed_of c.args.world parts.members are.members parts.seats.spare are.spare parts.views are.views)

pub keepers_of-requires-clause-keys : goal.keepers_of-requires-clause-keys
keepers_of-requires-clause-keys g c = subst (λ keys. AreDistinct (map (λ decl. decl.key) keys.items)) (sym c.into_parts-views.ensures.keys) c.args.world.distinct

pub keepers_of-requires-clause-placed : goal.keepers_of-requires-clause-placed
keepers_of-requires-clause-placed g c =
    let parts = c.into_parts-views.result in
    let are = c.into_parts-views.ensures in
    subst (λ ms. ArePlaced parts.views ms parts.seats.spare.items) (sym c.in-Err.ensures.err) (placed_of c.args.world parts.members are.members parts.seats.spare are.spare parts.views are.views)

pub returns-in-Ok : goal.returns-in-Ok
returns-in-Ok g c =
    let parts = c.into_parts-views.result in
    let are = c.into_parts-views.ensures in
    c.play_unnamed.ensures.of c.args.world (made_of c.args.world parts.members are.members parts.views c.in-Ok.unnamed.opening.machines _ are.views (ap (λ o. o.machines) c.in-Ok.ensures.ok) are.links are.keys are.spare)

pub returns-in-Err : goal.returns-in-Err
returns-in-Err g c =
    let parts = c.into_parts-views.result in
    let are = c.into_parts-views.ensures in
    back_as_before c.args.world c.in-Err.members (λ place. ap (λ ms. machine_at ms place) c.in-Err.ensures.err ∙ are.members place) parts.seats.spare are.spare c.keepers_of.result.items c.keepers_of.ensures
