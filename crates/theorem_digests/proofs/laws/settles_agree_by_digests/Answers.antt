use Rattle.theorem_digests.proofs.ByDigests.{agree_by_digests}
use Rattle.theorem_digests.proofs.laws.settles_agree_by_digests.Goals as goal

pub returns : goal.returns
returns g c = λ D few_steps byte_of history_spelled same stays answers members keys steps some few ok. agree_by_digests D few_steps byte_of history_spelled same stays answers members keys steps some few ok
