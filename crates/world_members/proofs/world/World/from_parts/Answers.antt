use Rattle.std.proofs.Common.{◌∙◌, sym, ◌≡◌, vec_len}
use Rattle.world_places.proofs.Seats.{all_put, are_seated}
use Rattle.world_members.proofs.world.World.from_parts.Goals as goal

pub returns-clause-members : goal.returns-clause-members
returns-clause-members g c =
    let eight : vec_len c.put-8.new.items ≡ 8 = c.put-8.ensures.len ∙ c.put-7.ensures.len ∙ c.put-6.ensures.len ∙ c.put-5.ensures.len ∙ c.put-4.ensures.len ∙ c.put-3.ensures.len ∙ c.put-2.ensures.len ∙ c.put.ensures.len ∙ c.args.parts.seats.eight_nodes in
    all_put c.args.parts.seats.nodes.items c.put.new.items.items c.put-2.new.items.items c.put-3.new.items.items c.put-4.new.items.items c.put-5.new.items.items c.put-6.new.items.items c.put-7.new.items.items c.put-8.new.items.items c.args.parts.members c.put.ensures.others c.put-2.ensures.others c.put-3.ensures.others c.put-4.ensures.others c.put-5.ensures.others c.put-6.ensures.others c.put-7.ensures.others c.put-8.ensures.others (sym c.put-8.new.items.ok.0 ∙ eight) c.put.ensures.put c.put-2.ensures.put c.put-3.ensures.put c.put-4.ensures.put c.put-5.ensures.put c.put-6.ensures.put c.put-7.ensures.put c.put-8.ensures.put

pub invariant_of-result-clause-seated : goal.invariant_of-result-clause-seated
invariant_of-result-clause-seated g c =
    let eight : vec_len c.put-8.new.items ≡ 8 = c.put-8.ensures.len ∙ c.put-7.ensures.len ∙ c.put-6.ensures.len ∙ c.put-5.ensures.len ∙ c.put-4.ensures.len ∙ c.put-3.ensures.len ∙ c.put-2.ensures.len ∙ c.put.ensures.len ∙ c.args.parts.seats.eight_nodes in
    are_seated c.args.parts.views c.args.parts.members c.put-8.new.items.items c.args.parts.seats.spare.items (all_put c.args.parts.seats.nodes.items c.put.new.items.items c.put-2.new.items.items c.put-3.new.items.items c.put-4.new.items.items c.put-5.new.items.items c.put-6.new.items.items c.put-7.new.items.items c.put-8.new.items.items c.args.parts.members c.put.ensures.others c.put-2.ensures.others c.put-3.ensures.others c.put-4.ensures.others c.put-5.ensures.others c.put-6.ensures.others c.put-7.ensures.others c.put-8.ensures.others (sym c.put-8.new.items.ok.0 ∙ eight) c.put.ensures.put c.put-2.ensures.put c.put-3.ensures.put c.put-4.ensures.put c.put-5.ensures.put c.put-6.ensures.put c.put-7.ensures.put c.put-8.ensures.put) c.requires.placed
