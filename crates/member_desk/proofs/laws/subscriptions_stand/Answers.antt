use Rattle.member_desk.proofs.Following.{stands_with, stands_without}
use Rattle.member_desk.proofs.laws.subscriptions_stand.Goals as goal

pub returns-clause-with_one : goal.returns-clause-with_one
returns-clause-with_one g c = λ data_type kinds logs desk model key client stands. stands_with data_type kinds logs key client desk model stands

pub returns-clause-without_one : goal.returns-clause-without_one
returns-clause-without_one g c = λ data_type kinds logs desk model key client stands. stands_without data_type kinds logs key client desk model stands
