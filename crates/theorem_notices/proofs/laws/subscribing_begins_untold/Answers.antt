use Rattle.model_members.specs.Script.{opening}
use Rattle.theorem_watching.specs.Watching.{beginning}
use Rattle.theorem_notices.specs.Notices.{moment}
use Rattle.theorem_notices.proofs.Desks.{all_order, subscribed_untold}
use Rattle.theorem_notices.proofs.laws.subscribing_begins_untold.Goals as goal

pub returns : goal.returns
returns g c = λ D answers members keys before s e. subscribed_untold (moment D answers members keys before) s.at s.key s.client (all_order D (beginning (opening answers members keys)) before (λ i. (tt, tt)) s.at) e
