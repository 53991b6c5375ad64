use Rattle.std.proofs.Common.{refl}
use Rattle.model_meanings.proofs.CounterLaws.{share_equation}
use Rattle.model_meanings.proofs.EquationsOfMeanings.{timestamp_equation, touches_equation}
use Rattle.model_meanings.proofs.laws.meanings_by_pasts.Goals as goal

pub returns-clause-share : goal.returns-clause-share
returns-clause-share g c = share_equation

pub returns-clause-timestamp : goal.returns-clause-timestamp
returns-clause-timestamp g c = λ assigned H history k x there. timestamp_equation assigned H history x (k, there)

pub returns-clause-touches : goal.returns-clause-touches
returns-clause-touches g c = λ operations e H history k x there. touches_equation operations e H history x (k, there)

pub returns-clause-live : goal.returns-clause-live
returns-clause-live g c = λ operations e H x. refl
