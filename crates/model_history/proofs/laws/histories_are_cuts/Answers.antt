use Rattle.model_history.proofs.Bridge.{taken_is_cut, cut_of_part, cut_is_history, taken_cut, versions_cut, versions-union, pruned_cut, part_is_pruned_cut}
use Rattle.model_history.proofs.laws.histories_are_cuts.Goals as goal

pub returns-clause-cut : goal.returns-clause-cut
returns-clause-cut g c = λ log H history taken. (taken_is_cut log H history taken, cut_of_part log H taken.part)

pub returns-clause-history : goal.returns-clause-history
returns-clause-history g c = λ log held is_cut. (cut_is_history log held is_cut, taken_cut log held is_cut, versions_cut log held is_cut)

pub returns-clause-joined : goal.returns-clause-joined
returns-clause-joined g c = versions-union

pub returns-clause-pruned : goal.returns-clause-pruned
returns-clause-pruned g c = pruned_cut

pub returns-clause-exact : goal.returns-clause-exact
returns-clause-exact g c = part_is_pruned_cut
