use Rattle.theorem_declaring.proofs.Stores.{makes_same}
use Rattle.theorem_declaring.proofs.laws.parts_make_the_same_steps.Goals as goal

pub returns : goal.returns
returns g c = λ D keys node input fate uses speaks. makes_same D keys node input fate uses speaks
