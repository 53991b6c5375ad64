use Rattle.theorem_settling.proofs.SettlesOfScripts.{settles_agree}
use Rattle.theorem_settling.proofs.laws.settle_theorem_of_scripts.Goals as goal

pub returns : goal.returns
returns g c = λ D answers members keys steps some few ok. settles_agree D answers members keys steps some few ok
