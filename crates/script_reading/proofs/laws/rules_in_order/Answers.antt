use Rattle.script_reading.proofs.RuleOrder.{least_of}
use Rattle.script_reading.proofs.laws.rules_in_order.Goals as goal

pub returns-clause-whole : goal.returns-clause-whole
returns-clause-whole g clients d broken h zeroth = (least_of clients d broken h).whole zeroth

pub returns-clause-holds : goal.returns-clause-holds
returns-clause-holds g clients d broken h later = (least_of clients d broken h).holds later

pub returns-clause-step : goal.returns-clause-step
returns-clause-step g clients d broken h later = (least_of clients d broken h).step later
