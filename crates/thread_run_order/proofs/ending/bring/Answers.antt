use Rattle.std.proofs.lemmas.Result.{on_ok_weaker}
use Rattle.thread_run_order.proofs.ending.bring.Goals as goal

pub returns : goal.returns
returns g c = on_ok_weaker c.post_members.result (λ sent. record { mid = c.pass_all.new.links; passed = c.in_ok-pass_all.ensures; sent = sent }) c.post_members.ensures
