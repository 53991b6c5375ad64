use Rattle.model_members.proofs.FailedStores.{update_told, take_told, install_told, tick_told}
use Rattle.model_members.proofs.laws.failed_stores_are_told.Goals as goal

pub returns-clause-update : goal.returns-clause-update
returns-clause-update g c = update_told

pub returns-clause-take : goal.returns-clause-take
returns-clause-take g c = take_told

pub returns-clause-install : goal.returns-clause-install
returns-clause-install g c = install_told

pub returns-clause-tick : goal.returns-clause-tick
returns-clause-tick g c = tick_told
