use Rattle.trace_checker.proofs.Recording.{nothing_kept}
use Rattle.trace_checker.proofs.key_history.KeyHistory.new.Goals as goal

pub returns : goal.returns
returns c = nothing_kept _ c.new.ensures.items c.new-2.ensures.items c.new-3.ensures c.new-4.ensures c.new-5.ensures
