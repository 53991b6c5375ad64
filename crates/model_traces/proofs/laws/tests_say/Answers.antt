use Rattle.model_traces.proofs.Tests.{covers_says, none_says, closed_says, exactly_says}
use Rattle.model_traces.proofs.laws.tests_say.Goals as goal

pub returns-clause-covers : goal.returns-clause-covers
returns-clause-covers g c = covers_says

pub returns-clause-none : goal.returns-clause-none
returns-clause-none g c = none_says

pub returns-clause-closed : goal.returns-clause-closed
returns-clause-closed g c = closed_says

pub returns-clause-exactly_pruned : goal.returns-clause-exactly_pruned
returns-clause-exactly_pruned g c = exactly_says
