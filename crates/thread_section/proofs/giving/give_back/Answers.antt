use Rattle.thread_section.proofs.Running.{given_back, placed_after}
use Rattle.thread_section.proofs.giving.give_back.Goals as goal

pub keepers_of-requires-clause-placed : goal.keepers_of-requires-clause-placed
keepers_of-requires-clause-placed g c = placed_after g.T.SpelledData g.met.K.Keeper.tells_alike _ (λ old input fate output new s. s) (λ old new u. u) c.args.views c.args.cells.table.machines c.machines_of.result c.args.rest.seats.spare.items c.machines_of.ensures c.requires.placed

pub returns : goal.returns
returns g c = record {
  of = given_back g.T.SpelledData g.met.K.Keeper.tells_alike _ (λ old input fate output new s. s) (λ old new u. u) c.args.views c.args.cells.table.machines c.machines_of.result c.args.rest c.keepers_of.result.items c.machines_of.ensures c.keepers_of.ensures;
}
