use Rattle.theorem_sections.proofs.RunOrder.{histories_lead}
use Rattle.theorem_sections.proofs.laws.histories_are_runs.Goals as goal

pub returns : goal.returns
returns g c = λ D world histories placed all order. histories_lead D world histories placed all order
