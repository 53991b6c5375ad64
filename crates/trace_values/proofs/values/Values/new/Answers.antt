use Rattle.trace_values.proofs.Keeping.{nothing_stands}
use Rattle.trace_values.proofs.values.Values.new.Goals as goal

pub returns : goal.returns
returns c = nothing_stands _ c.new.ensures.items c.new-2.ensures.items c.new-3.ensures.items
