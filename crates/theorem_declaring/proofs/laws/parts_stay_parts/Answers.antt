use Rattle.theorem_declaring.proofs.Stores.{speaks_of_part, stays_part}
use Rattle.theorem_declaring.proofs.laws.parts_stay_parts.Goals as goal

pub returns-clause-stay : goal.returns-clause-stay
returns-clause-stay g c = λ D keys node input fate uses speaks. stays_part D keys node input fate uses speaks

pub returns-clause-speak : goal.returns-clause-speak
returns-clause-speak g c = λ keys from message. speaks_of_part keys from message
