use Rattle.theorem_explained.proofs.laws.runs_go_on_from_their_settles.Goals as goal

pub returns : goal.returns
returns c = λ members keys answers front rest lines last settled. record { early = settled.early; late = settled.late; before = settled.p; plays = settled.plays; told = settled.told; so = settled.so; goes_on = settled.goes_on }
