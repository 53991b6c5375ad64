use Rattle.theorem_notices.proofs.WorkedNotices.{notices_are_met}
use Rattle.theorem_notices.proofs.laws.notices_are_met.Goals as goal

pub returns : goal.returns
returns c = notices_are_met
