use Rattle.thread_run_order.proofs.Seeing.{follows_all}
use Rattle.thread_run_order.proofs.laws.calls_follow_what_was_seen.Goals as goal

pub returns : goal.returns
returns g c = λ histories xs order p input old new receipt call entry is. follows_all g.M.Machine histories xs order p input old new receipt call entry is
