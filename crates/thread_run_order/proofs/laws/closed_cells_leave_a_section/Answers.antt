use Rattle.std.proofs.Common.{◌∙◌, subst}
use Rattle.member_views.specs.Sound.{AreViews}
use Rattle.world_places.proofs.Seats.{last_sound}
use Rattle.thread_run_order.proofs.Closing.{closed_section}
use Rattle.thread_run_order.proofs.Places.{none_past}
use Rattle.thread_run_order.proofs.laws.closed_cells_leave_a_section.Goals as goal

pub returns : goal.returns
returns g c =
    closed_section _ c.args.world.now g.N.Section.ids c.args.cells.now c.args.closed.now.machines c.args.closed.now.histories c.requires.identities c.requires.starts c.requires.replayed c.requires.knew c.requires.whole c.requires.hear c.requires.given
    (λ place past. c.requires.identities place ∙ none_past _ (last_sound c.args.world.now.views (subst AreViews c.views.ensures c.last.ensures.sound)) place past)
