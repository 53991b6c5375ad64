use Rattle.theorem_sections.proofs.NextDue.{next_stands}
use Rattle.theorem_sections.proofs.laws.next_after_sections.Goals as goal

pub returns : goal.returns
returns g c = λ D before clients moves end section from to.
    let s = next_stands D before clients moves end section from to in record { idle = s.idle; pending = s.busy }
