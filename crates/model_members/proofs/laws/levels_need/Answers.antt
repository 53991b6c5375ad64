use Rattle.model_members.proofs.Levels.{all_needed, majority_needed}
use Rattle.model_members.proofs.laws.levels_need.Goals as goal

pub returns-clause-all : goal.returns-clause-all
returns-clause-all c = all_needed

pub returns-clause-majority : goal.returns-clause-majority
returns-clause-majority c = majority_needed
