use Rattle.theorem_digests.proofs.ByDigests.{distinct_tell}
use Rattle.theorem_digests.proofs.laws.distinct_digests_tell.Goals as goal

pub returns : goal.returns
returns g c = λ D few_steps byte_of history_spelled same members keys events world is_run distinct. distinct_tell D few_steps byte_of history_spelled same members keys events world is_run distinct
