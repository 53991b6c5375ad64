use Rattle.member_desk.proofs.Subscribing.{ended_untold, others_without}
use Rattle.member_desk.proofs.laws.unsubscribing_ends_one.Goals as goal

pub returns-clause-ended : goal.returns-clause-ended
returns-clause-ended g c = λ desk key client in_order. ended_untold desk in_order key client

pub returns-clause-others : goal.returns-clause-others
returns-clause-others g c = λ desk key other client number in_order apart. others_without desk in_order key client other number apart
