use Rattle.model_history.proofs.Bridge.{consistent_cut, exact_pruned_cut}
use Rattle.model_history.proofs.laws.cuts_by_histories.Goals as goal

pub returns-clause-consistent : goal.returns-clause-consistent
returns-clause-consistent g c = consistent_cut

pub returns-clause-pruned : goal.returns-clause-pruned
returns-clause-pruned g c = exact_pruned_cut
