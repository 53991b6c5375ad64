use Rattle.std.proofs.Common.{◌∙◌, subst}
use Rattle.thread_cell.specs.Entries.{history_at}
use Rattle.world_places.proofs.Seats.{last_sound}
use Rattle.thread_run_order.specs.Finishing.{ArePassed}
use Rattle.thread_run_order.proofs.Finishing.{ok_there}
use Rattle.thread_run_order.proofs.Left.{left_of, keepers_left}
use Rattle.thread_run_order.proofs.ending.finish.Goals as goal

pub returns-in-Ok-clause-ok : goal.returns-in-Ok-clause-ok
returns-in-Ok-clause-ok g c =
    let parts = c.args.parts in
    let brought = ok_there _ _ _ c.in-Ok.is c.bring-outcome.ensures in
    left_of {keeping = g.K.Keeper} parts (last_sound parts.views c.last.ensures.sound) (history_at c.args.histories) c.requires.given c.requires.placed brought.mid c.bring-outcome.new.links
    (subst (λ v. ArePassed {keeping = g.K.Keeper} v (history_at c.args.histories) parts.links brought.mid) c.last.ensures.last brought.passed) brought.sent
    c.from_parts-world.result c.from_parts-world.ensures.views c.from_parts-world.ensures.members c.from_parts-world.ensures.links c.from_parts-world.ensures.keys c.from_parts-world.ensures.spare

pub returns-in-Err-clause-err : goal.returns-in-Err-clause-err
returns-in-Err-clause-err g c =
    c.into_keepers.ensures ∙ keepers_left {keeping = g.K.Keeper} c.args.parts c.from_parts-world.result c.from_parts-world.ensures.members c.from_parts-world.ensures.spare
