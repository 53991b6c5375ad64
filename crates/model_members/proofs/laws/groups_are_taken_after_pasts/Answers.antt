use Rattle.model_members.proofs.Judgements.{wanted_exactly, stale_exactly, missing_first}
use Rattle.model_members.proofs.laws.groups_are_taken_after_pasts.Goals as goal

pub returns-clause-wanted : goal.returns-clause-wanted
returns-clause-wanted g c = wanted_exactly

pub returns-clause-stale : goal.returns-clause-stale
returns-clause-stale g c = stale_exactly

pub returns-clause-missing : goal.returns-clause-missing
returns-clause-missing g c = λ log entry group i history of_log. missing_first log entry group history of_log i
