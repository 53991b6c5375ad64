use Rattle.member_desk.proofs.Subscribing.{new_untold, standing_stays, others_with}
use Rattle.member_desk.proofs.laws.subscribing_touches_one.Goals as goal

pub returns-clause-fresh : goal.returns-clause-fresh
returns-clause-fresh g c = λ desk key client in_order isnt. new_untold desk in_order key client isnt

pub returns-clause-standing : goal.returns-clause-standing
returns-clause-standing g c = λ desk key client in_order is. standing_stays desk in_order key client is

pub returns-clause-others : goal.returns-clause-others
returns-clause-others g c = λ desk key other client number in_order apart. others_with desk in_order key client other number apart
