use Rattle.model_kinds.proofs.PrunesOfKinds.{shown_alike, deleted_alike}
use Rattle.model_kinds.proofs.laws.prunes_show_nothing_new.Goals as goal

pub returns-clause-shown : goal.returns-clause-shown
returns-clause-shown c = shown_alike

pub returns-clause-deleted : goal.returns-clause-deleted
returns-clause-deleted c = deleted_alike
