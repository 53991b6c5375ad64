use Rattle.member_desk.proofs.After.{said_at_flushes}
use Rattle.member_desk.proofs.Succeeding.{tellings_differ, last_told}
use Rattle.member_desk.proofs.laws.notices_follow_what_is_found.Goals as goal

pub returns-clause-said : goal.returns-clause-said
returns-clause-said g c = λ shows desk key client told flushes in_order is. said_at_flushes shows key client desk told flushes in_order is

pub returns-clause-differ : goal.returns-clause-differ
returns-clause-differ g c = λ shows key told found. tellings_differ shows key told found

pub returns-clause-last : goal.returns-clause-last
returns-clause-last g c = λ shows key told found. last_told shows key told found
