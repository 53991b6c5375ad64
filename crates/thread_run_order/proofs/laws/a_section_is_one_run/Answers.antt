use Rattle.std.proofs.Common.{◌∙◌, ap, subst}
use Rattle.member_views.specs.Sound.{IsView, AreViews, last_view}
use Rattle.world_places.proofs.Seats.{last_sound}
use Rattle.thread_run_order.proofs.Together.{one_run}
use Rattle.thread_run_order.proofs.laws.a_section_is_one_run.Goals as goal

pub returns : goal.returns
returns g c =
    λ kinds members decls p m histories nows section xs order.
    one_run g.T.SpelledData g.met.K.Keeper.tells_alike _ (λ old input fate output new s. s) (λ old new u. u) kinds members decls c.args.world.now (last_sound c.args.world.now.views (subst AreViews c.views.ensures c.last.ensures.sound)) p m histories nows section xs order
