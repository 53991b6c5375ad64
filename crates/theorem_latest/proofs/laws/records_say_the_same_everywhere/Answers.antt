use Rattle.theorem_latest.proofs.Staying.{touches_stay, timestamps_stay}
use Rattle.theorem_latest.proofs.laws.records_say_the_same_everywhere.Goals as goal

pub returns-clause-touches : goal.returns-clause-touches
returns-clause-touches g c = λ operations e log H history taken k x there. touches_stay log H history taken x (k, there) operations e

pub returns-clause-timestamp : goal.returns-clause-timestamp
returns-clause-timestamp g c = λ assigned log H history taken k x there. timestamps_stay log H history taken x (k, there) assigned
