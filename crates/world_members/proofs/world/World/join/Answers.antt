use Rattle.std.proofs.Common.{refl, sym, subst}
use Rattle.model_members.specs.View.{with_joined}
use Rattle.member_views.specs.Sound.{last_view}
use Rattle.member_views.specs.Changes.{RefusesJoin}
use Rattle.member_keeper.specs.declared.keeper.KeeperError.TheVariants.{Failed, Memory}
use Rattle.world_places.specs.Keeping.{AreSeated}
use Rattle.world_places.specs.Seating.{ActsAt, RefusesSeat}
use Rattle.world_places.proofs.Seats.{undone_is, two_now, sound_before}
use Rattle.world_members.proofs.Joining.{plays_taken, plays_many, plays_failed, remains_join, seated_spared, plays_anew, seated_joined, anew_as, joined_last, is_next_view, spare_there, free_there}
use Rattle.world_members.proofs.world.World.join.Goals as goal

pub returns-in-Err-PlaceTaken : goal.returns-in-Err-PlaceTaken
returns-in-Err-PlaceTaken g c =
    plays_taken g.T.SpelledData c.args.place c.args.self.now _ (record { views = c.in-Err-PlaceTaken.ensures.err; keys = refl; nodes = refl; spare = refl; links = refl })
    (subst (λ e. RefusesJoin (last_view c.args.self.now.views) c.args.place e) c.in-Err-PlaceTaken.field-0-is c.in-Err-PlaceTaken.ensures.refused) c.line.result c.line.ensures

pub returns-in-Err-TooManyIdentities : goal.returns-in-Err-TooManyIdentities
returns-in-Err-TooManyIdentities g c =
    plays_many g.T.SpelledData c.args.place c.args.self.now _ (record { views = c.in-Err-TooManyIdentities.ensures.err; keys = refl; nodes = refl; spare = refl; links = refl })
    (subst (λ e. RefusesJoin (last_view c.args.self.now.views) c.args.place e) c.in-Err-TooManyIdentities.field-0-is c.in-Err-TooManyIdentities.ensures.refused) c.line-in-Err-TooManyIdentities.result c.line-in-Err-TooManyIdentities.ensures

pub undo-requires : goal.undo-requires
undo-requires g c = two_now c.args.self.now.views c.join.new.self (with_joined (last_view c.args.self.now.views) c.args.place) c.in-Ok.ensures.ok c.last.ensures.sound refl

pub undo-requires-in-Err-Memory : goal.undo-requires-in-Err-Memory
undo-requires-in-Err-Memory g c = two_now c.args.self.now.views c.join.new.self (with_joined (last_view c.args.self.now.views) c.args.place) c.in-Ok.ensures.ok c.last.ensures.sound refl

pub invariant_of-self-in-Ok-seat_anew-clause-seated : goal.invariant_of-self-in-Ok-seat_anew-clause-seated
invariant_of-self-in-Ok-seat_anew-clause-seated g c =
    subst (λ vs. AreSeated vs c.seat_anew.new.nodes.items c.seat_anew.new.spare.items) (sym c.in-Ok.ensures.ok)
    (seated_joined c.args.self.now.views c.args.place (sound_before c.args.self.now.views c.join.new.self (with_joined (last_view c.args.self.now.views) c.args.place) c.in-Ok.ensures.ok c.last.ensures.sound refl) (is_next_view c.args.self.now.views c.join.new.self (with_joined (last_view c.args.self.now.views) c.args.place) c.in-Ok.ensures.ok c.last.ensures.sound) c.in-Ok.ensures.able c.args.self.now.keys.items c.args.self.now.nodes.items c.seat_anew.new.nodes.items c.args.self.now.spare.items c.seat_anew.new.spare.items c.args.self.now.seated (anew_as c.in-Ok.given.0 (last_view c.args.self.now.views).given c.last.result.now (with_joined (last_view c.args.self.now.views) c.args.place) c.deref.result.now c.args.self.now.keys.items c.args.place c.args.self.now.nodes.items c.seat_anew.new.nodes.items c.args.self.now.spare.items c.seat_anew.new.spare.items c.in-Ok.ensures.identity (joined_last c.args.self.now.views c.join.new.self (with_joined (last_view c.args.self.now.views) c.args.place) c.in-Ok.ensures.ok c.last.result.now c.last.ensures.last) c.deref.ensures.value c.in-Ok-seat_anew.ensures.seats) c.requires)

pub returns-in-Ok-seat_anew : goal.returns-in-Ok-seat_anew
returns-in-Ok-seat_anew g c =
    plays_anew g.T.SpelledData g.met.K.Keeper.tells_alike c.args.place c.requires c.args.self.now _ (sound_before c.args.self.now.views c.join.new.self (with_joined (last_view c.args.self.now.views) c.args.place) c.in-Ok.ensures.ok c.last.ensures.sound refl) (is_next_view c.args.self.now.views c.join.new.self (with_joined (last_view c.args.self.now.views) c.args.place) c.in-Ok.ensures.ok c.last.ensures.sound) c.in-Ok.ensures.able
    (let anew = (anew_as c.in-Ok.given.0 (last_view c.args.self.now.views).given c.last.result.now (with_joined (last_view c.args.self.now.views) c.args.place) c.deref.result.now c.args.self.now.keys.items c.args.place c.args.self.now.nodes.items c.seat_anew.new.nodes.items c.args.self.now.spare.items c.seat_anew.new.spare.items c.in-Ok.ensures.identity (joined_last c.args.self.now.views c.join.new.self (with_joined (last_view c.args.self.now.views) c.args.place) c.in-Ok.ensures.ok c.last.result.now c.last.ensures.last) c.deref.ensures.value c.in-Ok-seat_anew.ensures.seats) in record { views = c.in-Ok.ensures.ok; keys = refl; links = refl; others = anew.others; spares = anew.spares }) (anew_as c.in-Ok.given.0 (last_view c.args.self.now.views).given c.last.result.now (with_joined (last_view c.args.self.now.views) c.args.place) c.deref.result.now c.args.self.now.keys.items c.args.place c.args.self.now.nodes.items c.seat_anew.new.nodes.items c.args.self.now.spare.items c.seat_anew.new.spare.items c.in-Ok.ensures.identity (joined_last c.args.self.now.views c.join.new.self (with_joined (last_view c.args.self.now.views) c.args.place) c.in-Ok.ensures.ok c.last.result.now c.last.ensures.last) c.deref.ensures.value c.in-Ok-seat_anew.ensures.seats) c.in-Ok.given.1 c.in-Ok.given.0 c.in-Ok.ensures.number c.in-Ok.ensures.identity c.line-in-Ok-seat_anew.result c.line-in-Ok-seat_anew.ensures

pub invariant_of-self-in-Err-Failed-clause-seated : goal.invariant_of-self-in-Err-Failed-clause-seated
invariant_of-self-in-Err-Failed-clause-seated g c =
    seated_spared (RefusesSeat g.K.Keeper Failed) c.args.place c.args.self.now.views c.undo.new.self c.args.self.now.nodes c.seat_anew.new.nodes c.args.self.now.spare.items c.seat_anew.new.spare.items (spare_there c.args.self.now.views c.args.place c.in-Ok.ensures.able c.args.self.now.nodes.items c.args.self.now.spare.items c.args.self.now.seated c.requires).0 (spare_there c.args.self.now.views c.args.place c.in-Ok.ensures.able c.args.self.now.nodes.items c.args.self.now.spare.items c.args.self.now.seated c.requires).1 (subst (λ e. ActsAt (RefusesSeat g.K.Keeper e) c.args.place c.args.self.now.spare.items c.seat_anew.new.spare.items) c.in-Err-Failed.field-0-is c.in-Err-Failed.ensures.refuses) (undone_is c.args.self.now.views c.join.new.self (with_joined (last_view c.args.self.now.views) c.args.place) c.in-Ok.ensures.ok c.undo.new.self c.undo.ensures) c.in-Err-Failed.ensures.nodes_stay c.args.self.now.seated

pub returns-in-Err-Failed : goal.returns-in-Err-Failed
returns-in-Err-Failed g c =
    plays_failed g.T.SpelledData c.args.place c.args.self.now _ (RefusesSeat g.K.Keeper Failed) (record { views = (undone_is c.args.self.now.views c.join.new.self (with_joined (last_view c.args.self.now.views) c.args.place) c.in-Ok.ensures.ok c.undo.new.self c.undo.ensures); keys = refl; nodes = c.in-Err-Failed.ensures.nodes_stay; links = refl; acts = (subst (λ e. ActsAt (RefusesSeat g.K.Keeper e) c.args.place c.args.self.now.spare.items c.seat_anew.new.spare.items) c.in-Err-Failed.field-0-is c.in-Err-Failed.ensures.refuses) }) (spare_there c.args.self.now.views c.args.place c.in-Ok.ensures.able c.args.self.now.nodes.items c.args.self.now.spare.items c.args.self.now.seated c.requires).0 (free_there c.args.self.now.views c.args.place c.in-Ok.ensures.able c.args.self.now.nodes.items c.args.self.now.spare.items c.args.self.now.seated c.requires) (spare_there c.args.self.now.views c.args.place c.in-Ok.ensures.able c.args.self.now.nodes.items c.args.self.now.spare.items c.args.self.now.seated c.requires).1 g.met.K.Keeper.tells_alike ((subst (λ e. ActsAt (RefusesSeat g.K.Keeper e) c.args.place c.args.self.now.spare.items c.seat_anew.new.spare.items) c.in-Err-Failed.field-0-is c.in-Err-Failed.ensures.refuses).there (spare_there c.args.self.now.views c.args.place c.in-Ok.ensures.able c.args.self.now.nodes.items c.args.self.now.spare.items c.args.self.now.seated c.requires).0 (spare_there c.args.self.now.views c.args.place c.in-Ok.ensures.able c.args.self.now.nodes.items c.args.self.now.spare.items c.args.self.now.seated c.requires).1).2 c.in-Ok.ensures.able c.requires c.line-in-Err-Failed.result c.line-in-Err-Failed.ensures

pub invariant_of-self-in-Err-Memory-clause-seated : goal.invariant_of-self-in-Err-Memory-clause-seated
invariant_of-self-in-Err-Memory-clause-seated g c =
    seated_spared (RefusesSeat g.K.Keeper Memory) c.args.place c.args.self.now.views c.undo-in-Err-Memory.new.self c.args.self.now.nodes c.seat_anew.new.nodes c.args.self.now.spare.items c.seat_anew.new.spare.items (spare_there c.args.self.now.views c.args.place c.in-Ok.ensures.able c.args.self.now.nodes.items c.args.self.now.spare.items c.args.self.now.seated c.requires).0 (spare_there c.args.self.now.views c.args.place c.in-Ok.ensures.able c.args.self.now.nodes.items c.args.self.now.spare.items c.args.self.now.seated c.requires).1 (subst (λ e. ActsAt (RefusesSeat g.K.Keeper e) c.args.place c.args.self.now.spare.items c.seat_anew.new.spare.items) c.in-Err-Memory.field-0-is c.in-Err-Memory.ensures.refuses) (undone_is c.args.self.now.views c.join.new.self (with_joined (last_view c.args.self.now.views) c.args.place) c.in-Ok.ensures.ok c.undo-in-Err-Memory.new.self c.undo-in-Err-Memory.ensures) c.in-Err-Memory.ensures.nodes_stay c.args.self.now.seated

pub returns-in-Err-Memory : goal.returns-in-Err-Memory
returns-in-Err-Memory g c =
    let does = ((subst (λ e. ActsAt (RefusesSeat g.K.Keeper e) c.args.place c.args.self.now.spare.items c.seat_anew.new.spare.items) c.in-Err-Memory.field-0-is c.in-Err-Memory.ensures.refuses).there (spare_there c.args.self.now.views c.args.place c.in-Ok.ensures.able c.args.self.now.nodes.items c.args.self.now.spare.items c.args.self.now.seated c.requires).0 (spare_there c.args.self.now.views c.args.place c.in-Ok.ensures.able c.args.self.now.nodes.items c.args.self.now.spare.items c.args.self.now.seated c.requires).1).2 in
    remains_join g.T.SpelledData c.args.place c.args.self.now _ (RefusesSeat g.K.Keeper Memory) (record { views = (undone_is c.args.self.now.views c.join.new.self (with_joined (last_view c.args.self.now.views) c.args.place) c.in-Ok.ensures.ok c.undo-in-Err-Memory.new.self c.undo-in-Err-Memory.ensures); keys = refl; nodes = c.in-Err-Memory.ensures.nodes_stay; links = refl; acts = (subst (λ e. ActsAt (RefusesSeat g.K.Keeper e) c.args.place c.args.self.now.spare.items c.seat_anew.new.spare.items) c.in-Err-Memory.field-0-is c.in-Err-Memory.ensures.refuses) }) (spare_there c.args.self.now.views c.args.place c.in-Ok.ensures.able c.args.self.now.nodes.items c.args.self.now.spare.items c.args.self.now.seated c.requires).0 (free_there c.args.self.now.views c.args.place c.in-Ok.ensures.able c.args.self.now.nodes.items c.args.self.now.spare.items c.args.self.now.seated c.requires) (spare_there c.args.self.now.views c.args.place c.in-Ok.ensures.able c.args.self.now.nodes.items c.args.self.now.spare.items c.args.self.now.seated c.requires).1 does.0 does.1
