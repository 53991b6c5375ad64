use Rattle.theorem_explained.proofs.laws.gets_are_explained_by_their_own_step.Goals as goal

pub returns : goal.returns
returns g c = λ D answers members keys steps r n line means get. record { within = get.within; event = get.event; rest = get.rest; of_step = get.way; tells = get.tells }
