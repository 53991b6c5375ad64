use Rattle.std.proofs.Common.{◌∙◌}
use Rattle.world_desks.proofs.FlushesTold.{told_flushed}
use Rattle.world_desks.proofs.flushed.flushed_in.Goals as goal

pub returns : goal.returns
returns c = λ told all. c.flushed.ensures ∙ told_flushed c.args.events.now told all
