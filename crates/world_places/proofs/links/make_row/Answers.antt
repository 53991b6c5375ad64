use Rattle.std.proofs.Common.{◌≡◌, ◌∙◌, sym, arith, rules, length}
use Rattle.world_places.specs.Channels.{channel_of}
use Rattle.world_places.proofs.Made.{nothing_made, something_made}
use Rattle.world_places.proofs.links.make_row.Goals as goal

pub returns-in_ok-row-clause-ok : goal.returns-in_ok-row-clause-ok
returns-in_ok-row-clause-ok g c =
    let none : length c.args.row.now.items ≡ 0 = grind (arith, rules) in
    c.in_ok-row.ensures ∙ sym (nothing_made (channel_of {M = g.row.M.Denot}) c.args.row.now.items none)

pub returns-else-is_empty-clause-ok : goal.returns-else-is_empty-clause-ok
returns-else-is_empty-clause-ok g c = sym (something_made (channel_of {M = g.row.M.Denot}) c.args.row.now.items (λ none. grind (arith, rules)))
