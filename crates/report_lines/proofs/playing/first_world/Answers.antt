use Rattle.std.proofs.Common.{map, ap, subst, ◌∙◌}
use Rattle.world_members.specs.Steps.{RefusesStart}
use Rattle.report_lines.specs.Run.{decl_of, in_order}
use Rattle.report_lines.proofs.Orders.{distinct_keys}
use Rattle.report_lines.proofs.Runs.{not_cleared}
use Rattle.report_lines.proofs.playing.first_world.Goals as goal

pub start-requires-clause-distinct : goal.start-requires-clause-distinct
start-requires-clause-distinct g c = distinct_keys c.args.keys.now c.in-Ok.decls.items (c.in-Ok.ensures ∙ ap (λ keys. map decl_of (in_order keys)) c.as_slice.ensures) c.requires.names

pub returns-in-Err-ClearFailed : goal.returns-in-Err-ClearFailed
returns-in-Err-ClearFailed g c =
    not_cleared g.K.Keeper c.args.keepers.items c.in-Err-ClearFailed.keepers.items c.in-Err-ClearFailed.place
    (subst (RefusesStart g.K.Keeper c.args.keepers.items) c.in-Err-ClearFailed.field-0-is c.in-Err-ClearFailed.ensures)
