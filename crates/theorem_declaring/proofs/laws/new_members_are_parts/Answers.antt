use Rattle.theorem_declaring.proofs.Loading.{new_uses, new_alike}
use Rattle.theorem_declaring.proofs.laws.new_members_are_parts.Goals as goal

pub returns-clause-uses : goal.returns-clause-uses
returns-clause-uses g c = λ part all i view store is_part no_others. new_uses part all i view store is_part no_others

pub returns-clause-same : goal.returns-clause-same
returns-clause-same g c = λ part all i view store is_part no_others. new_alike part all i view store is_part no_others
