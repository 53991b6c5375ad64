use Rattle.theorem_declaring.proofs.Growing.{nothing_is_part, knows_with_key, grown}
use Rattle.theorem_declaring.proofs.laws.parts_grow.Goals as goal

pub returns-clause-first : goal.returns-clause-first
returns-clause-first g c = λ all. nothing_is_part all

pub returns-clause-knows : goal.returns-clause-knows
returns-clause-knows g c = λ keys new name. knows_with_key new keys name

pub returns-clause-next : goal.returns-clause-next
returns-clause-next g c = λ keys node k new uses rising has unknown. grown keys node new k uses rising has unknown
