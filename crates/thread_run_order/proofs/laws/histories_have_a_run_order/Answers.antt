use Rattle.thread_run_order.proofs.Merging.{have_run_order, rise_all}
use Rattle.thread_run_order.proofs.laws.histories_have_a_run_order.Goals as goal

pub returns : goal.returns
returns g c = λ histories n rises none. have_run_order histories (λ p. rise_all (histories p) (rises p)) n none
