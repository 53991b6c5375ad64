use Rattle.theorem_notices.proofs.Following.{notices_follow}
use Rattle.theorem_notices.proofs.laws.notices_follow_what_is_held.Goals as goal

pub returns : goal.returns
returns g c = λ D answers members keys before steps some few ok s told was goes. notices_follow D members keys answers before steps some few ok s told was goes
