use Rattle.std.proofs.Common.{refl}
use Rattle.theorem_operations.proofs.SmallRuns as runs
use Rattle.theorem_operations.proofs.borders.borders_of_quorums.Goals as goal

pub returns-clause-begun_after_success : goal.returns-clause-begun_after_success
returns-clause-begun_after_success c = refl

pub returns-clause-begun_before_success : goal.returns-clause-begun_before_success
returns-clause-begun_before_success c = refl

pub returns-clause-one_on_an_old_view : goal.returns-clause-one_on_an_old_view
returns-clause-one_on_an_old_view c = (refl, refl)

pub returns-clause-cap_lowers_nothing : goal.returns-clause-cap_lowers_nothing
returns-clause-cap_lowers_nothing c = (refl, refl)

pub returns-clause-cap_raises : goal.returns-clause-cap_raises
returns-clause-cap_raises c = (refl, refl)

pub returns-clause-quorum_premises : goal.returns-clause-quorum_premises
returns-clause-quorum_premises c = runs.quorum_premises

pub returns-clause-finishing_premises : goal.returns-clause-finishing_premises
returns-clause-finishing_premises c = runs.finishing_premises

pub returns-clause-script_premises : goal.returns-clause-script_premises
returns-clause-script_premises c = runs.script_premises
