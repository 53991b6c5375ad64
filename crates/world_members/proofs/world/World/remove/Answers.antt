use Rattle.std.proofs.Common.{refl, sym, subst, ◌∙◌}
use Rattle.member_views.specs.Sound.{last_view}
use Rattle.member_views.specs.Changes.{RefusesRemoval}
use Rattle.world_places.specs.Keeping.{AreSeated}
use Rattle.world_places.proofs.Starting.{none_of}
use Rattle.world_members.proofs.Standings.{same_itself}
use Rattle.world_places.proofs.Seats.{last_sound}
use Rattle.world_members.proofs.Removing.{plays_removed, plays_gone, plays_last, seated_after, some_keeper}
use Rattle.world_members.proofs.world.World.remove.Goals as goal

pub returns-in_default : goal.returns-in_default
returns-in_default g c =
    plays_gone g.T.SpelledData c.args.id c.args.self.now c.args.self.now (same_itself c.args.self.now) (sym c.place_in.ensures.place ∙ none_of c.place_in.result c.in_default.not-Some) c.line.result c.line.ensures

pub invariant_of-self-clause-seated : goal.invariant_of-self-clause-seated
invariant_of-self-clause-seated g c =
    subst (λ vs. AreSeated vs c.stop.new.nodes.items c.stop.new.spare.items) (sym c.in-Ok.ensures.ok)
    (seated_after c.args.self.now.views c.args.id c.in-Some.place (sym c.in-Some.ensures.place) (last_sound c.args.self.now.views c.place_in.ensures.sound) c.in-Ok.ensures.able c.args.self.now.nodes.items c.stop.new.nodes.items c.args.self.now.spare.items c.stop.new.spare.items c.args.self.now.seated
    c.stop.ensures.left (some_keeper c.args.self.now.views c.args.self.now.nodes.items c.args.self.now.spare.items c.args.self.now.seated c.in-Some.place c.in-Some.ensures.within))

pub returns-in-Ok : goal.returns-in-Ok
returns-in-Ok g c =
    plays_removed g.T.SpelledData c.args.id c.in-Some.place c.args.self.now _ (sym c.in-Some.ensures.place) (last_sound c.args.self.now.views c.place_in.ensures.sound) c.in-Ok.ensures.able
    (record { views = c.in-Ok.ensures.ok; keys = refl; links = refl; others = c.stop.ensures.left.others; spares = c.stop.ensures.left.spares }) c.stop.ensures.left c.in-Ok.view c.in-Ok.ensures.number c.line-in-Ok.result c.line-in-Ok.ensures

pub returns-in-Err-LastMember : goal.returns-in-Err-LastMember
returns-in-Err-LastMember g c =
    plays_last g.T.SpelledData c.args.id c.args.self.now _ (record { views = c.in-Err-LastMember.ensures.err; keys = refl; nodes = refl; spare = refl; links = refl })
    (subst (λ e. RefusesRemoval (last_view c.args.self.now.views) c.args.id e) c.in-Err-LastMember.field-0-is c.in-Err-LastMember.ensures.refused) c.line-in-Err-LastMember.result c.line-in-Err-LastMember.ensures
