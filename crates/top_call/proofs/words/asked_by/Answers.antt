use Rattle.top_call.proofs.words.asked_by.Goals as goal

pub returns-in-gen-clause-counted : goal.returns-in-gen-clause-counted
returns-in-gen-clause-counted c = let is = (c.count.ensures c.in_ok-n-in-len2.n).0 c.in_ok-n-in-len2.was in (is.1, is.2)

pub returns-in-sum-clause-counted : goal.returns-in-sum-clause-counted
returns-in-sum-clause-counted c = let is = (c.count.ensures c.in_ok-n-in-len2.n).0 c.in_ok-n-in-len2.was in (is.1, is.2)

pub returns-in-behind-clause-counted : goal.returns-in-behind-clause-counted
returns-in-behind-clause-counted c = let is = (c.count.ensures c.in_ok-n-in-len2.n).0 c.in_ok-n-in-len2.was in (is.1, c.if-n-le-MOST_PERIOD.true)
