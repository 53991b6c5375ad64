use Rattle.thread_run_order.proofs.Finishing.{takes_nothing}
use Rattle.thread_run_order.proofs.passing.takes_some.Goals as goal

pub returns-in_default : goal.returns-in_default
returns-in_default g c _ = record { none = takes_nothing c.args.entry.now.input c.in_default.not-Take }
