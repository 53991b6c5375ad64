use Rattle.std.proofs.Common.{◌∙◌, sym, ap, subst, map}
use Rattle.std.specs.Prelude.{slice_get}
use Rattle.member_node.specs.Members.{AreDistinct}
use Rattle.thread_machine.specs.Machines.{machine_at}
use Rattle.world_places.specs.Places.{item_at, first_keeper}
use Rattle.thread_section.proofs.Running.{world_back}
use Rattle.thread_section.proofs.giving.keepers_of.Goals as goal

pub returns : goal.returns
returns g c = λ place.
    ap (λ ks. slice_get ks place) c.into_keepers.ensures ∙ world_back c.from_parts.result place
    ∙ ap (λ o. first_keeper o (item_at c.from_parts.result.spare.items place)) (c.from_parts.ensures.members place ∙ ap (λ ms. machine_at ms place) c.parts_of.ensures.members)
    ∙ ap (λ s. first_keeper (machine_at c.args.members place) (item_at s.items place)) (c.from_parts.ensures.spare ∙ ap (λ s. s.spare) c.parts_of.ensures.rest.2)

pub from_parts-requires-clause-distinct : goal.from_parts-requires-clause-distinct
from_parts-requires-clause-distinct g c = subst (λ keys. AreDistinct (map (λ decl. decl.key) keys.items)) (sym c.parts_of.ensures.rest.1) c.requires.keys
