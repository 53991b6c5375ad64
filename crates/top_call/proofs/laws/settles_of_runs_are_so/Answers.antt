use Rattle.top_call.proofs.EachRun.{settles_are_so, tells_settle}
use Rattle.top_call.proofs.laws.settles_of_runs_are_so.Goals as goal

pub returns-clause-here : goal.returns-clause-here
returns-clause-here c = λ answers members keys steps some few ok lines p plays. settles_are_so answers members keys some few steps ok lines p plays

pub returns-clause-told : goal.returns-clause-told
returns-clause-told c = λ answers members keys front rest some few ok lines last plays. tells_settle answers members keys some few front rest ok lines last plays
