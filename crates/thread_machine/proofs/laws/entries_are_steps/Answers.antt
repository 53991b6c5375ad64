use Rattle.thread_machine.proofs.Replaying.{step_at}
use Rattle.thread_machine.proofs.laws.entries_are_steps.Goals as goal

pub returns : goal.returns
returns g c = λ start now history index e replays is. step_at g.M.Machine start now history index e replays is
