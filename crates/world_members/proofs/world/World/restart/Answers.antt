use Rattle.std.proofs.Common.{refl, sym, subst, ◌∙◌, ap, Some, None}
use Rattle.std.specs.Prelude.{Ok, Err}
use Rattle.model_members.specs.View.{with_replaced}
use Rattle.member_views.specs.Sound.{last_view}
use Rattle.member_views.specs.Changes.{RefusesReplacement}
use Rattle.world_places.specs.Keeping.{AreSeated}
use Rattle.world_places.proofs.Starting.{none_of}
use Rattle.world_places.proofs.Seats.{last_sound, undone_is}
use Rattle.world_members.proofs.Joining.{is_next_view, joined_last}
use Rattle.world_members.proofs.Restarting.{member_there, seated_replaced, seated_back, plays_restarted, plays_gone, plays_many, remains_restart, then_there, came_back, same_id, same_limit, plays_back}
use Rattle.world_members.proofs.world.World.restart.Goals as goal

pub returns-in_default : goal.returns-in_default
returns-in_default g c =
    plays_gone g.T.SpelledData c.args.id c.args.self.now _ (record { views = refl; keys = refl; nodes = refl; spare = refl; links = refl }) (sym c.place_in.ensures.place ∙ none_of c.place_in.result c.in_default.not-Some) c.line.result c.line.ensures

pub returns-in-Err-TooManyIdentities : goal.returns-in-Err-TooManyIdentities
returns-in-Err-TooManyIdentities g c =
    plays_many g.T.SpelledData c.args.id c.args.self.now _ (record { views = c.in-Err-TooManyIdentities.ensures.err; keys = refl; nodes = refl; spare = refl; links = refl })
    (subst (λ e. RefusesReplacement (last_view c.args.self.now.views) c.args.id e) c.in-Err-TooManyIdentities.field-0-is c.in-Err-TooManyIdentities.ensures.refused) c.line-in-Err-TooManyIdentities.result c.line-in-Err-TooManyIdentities.ensures

pub invariant_of-self-in-Ok-None-clause-seated : goal.invariant_of-self-in-Ok-None-clause-seated
invariant_of-self-in-Ok-None-clause-seated g c =
    let now = (then_there g.T.SpelledData c.in-Ok.given.0 (last_view c.args.self.now.views).given c.last.result.now (with_replaced (last_view c.args.self.now.views) c.args.id) (Ok c.in-Ok-None.field-0) (Ok None) c.in-Some.place c.args.self.now.nodes.items c.reload.new.nodes.items (member_there c.args.self.now.views c.args.id c.in-Some.place (sym c.in-Some.ensures.place) (last_sound c.args.self.now.views c.place_in.ensures.sound) c.args.self.now.nodes.items c.args.self.now.spare.items c.args.self.now.seated c.in-Some.ensures.within).0 c.in-Ok.ensures.identity (joined_last c.args.self.now.views c.replace.new.self (with_replaced (last_view c.args.self.now.views) c.args.id) c.in-Ok.ensures.ok c.last.result.now c.last.ensures.last) (ap Ok c.in-Ok-None.field-0-is) (member_there c.args.self.now.views c.args.id c.in-Some.place (sym c.in-Some.ensures.place) (last_sound c.args.self.now.views c.place_in.ensures.sound) c.args.self.now.nodes.items c.args.self.now.spare.items c.args.self.now.seated c.in-Some.ensures.within).1 c.in-Ok-None.ensures.reloads) in
    subst (λ vs. AreSeated vs c.reload.new.nodes.items c.args.self.now.spare.items) (sym c.in-Ok.ensures.ok)
    (seated_replaced c.args.self.now.views c.args.id c.in-Some.place (sym c.in-Some.ensures.place) (last_sound c.args.self.now.views c.place_in.ensures.sound) c.args.self.now.nodes.items c.args.self.now.spare.items c.args.self.now.seated c.in-Some.ensures.within c.reload.new.nodes.items now.after (is_next_view c.args.self.now.views c.replace.new.self (with_replaced (last_view c.args.self.now.views) c.args.id) c.in-Ok.ensures.ok c.last.ensures.sound) now.others now.is now.does.loaded.identity now.does.loaded.limit)

pub returns-in-Ok-None : goal.returns-in-Ok-None
returns-in-Ok-None g c =
    let now = (then_there g.T.SpelledData c.in-Ok.given.0 (last_view c.args.self.now.views).given c.last.result.now (with_replaced (last_view c.args.self.now.views) c.args.id) (Ok c.in-Ok-None.field-0) (Ok None) c.in-Some.place c.args.self.now.nodes.items c.reload.new.nodes.items (member_there c.args.self.now.views c.args.id c.in-Some.place (sym c.in-Some.ensures.place) (last_sound c.args.self.now.views c.place_in.ensures.sound) c.args.self.now.nodes.items c.args.self.now.spare.items c.args.self.now.seated c.in-Some.ensures.within).0 c.in-Ok.ensures.identity (joined_last c.args.self.now.views c.replace.new.self (with_replaced (last_view c.args.self.now.views) c.args.id) c.in-Ok.ensures.ok c.last.result.now c.last.ensures.last) (ap Ok c.in-Ok-None.field-0-is) (member_there c.args.self.now.views c.args.id c.in-Some.place (sym c.in-Some.ensures.place) (last_sound c.args.self.now.views c.place_in.ensures.sound) c.args.self.now.nodes.items c.args.self.now.spare.items c.args.self.now.seated c.in-Some.ensures.within).1 c.in-Ok-None.ensures.reloads) in
    plays_restarted g.T.SpelledData g.met.K.Keeper.tells_alike c.args.id c.in-Some.place c.args.self.now _ (member_there c.args.self.now.views c.args.id c.in-Some.place (sym c.in-Some.ensures.place) (last_sound c.args.self.now.views c.place_in.ensures.sound) c.args.self.now.nodes.items c.args.self.now.spare.items c.args.self.now.seated c.in-Some.ensures.within).0 now.after (sym c.in-Some.ensures.place) (last_sound c.args.self.now.views c.place_in.ensures.sound) c.in-Ok.ensures.able (member_there c.args.self.now.views c.args.id c.in-Some.place (sym c.in-Some.ensures.place) (last_sound c.args.self.now.views c.place_in.ensures.sound) c.args.self.now.nodes.items c.args.self.now.spare.items c.args.self.now.seated c.in-Some.ensures.within).1 now.is
    (record { views = c.in-Ok.ensures.ok; keys = refl; links = refl; others = now.others; spares = λ other apart. refl }) now.does c.in-Ok.given.1 c.in-Ok.given.0 c.in-Ok.ensures.number c.in-Ok.ensures.identity c.line-in-Ok-None.result c.line-in-Ok-None.ensures

pub invariant_of-self-in-Ok-Some-clause-seated : goal.invariant_of-self-in-Ok-Some-clause-seated
invariant_of-self-in-Ok-Some-clause-seated g c =
    let now = (then_there g.T.SpelledData c.in-Ok.given.0 (last_view c.args.self.now.views).given c.last.result.now (with_replaced (last_view c.args.self.now.views) c.args.id) (Ok c.in-Ok-Some.field-0) (Ok (Some c.in-Ok-Some.answer)) c.in-Some.place c.args.self.now.nodes.items c.reload.new.nodes.items (member_there c.args.self.now.views c.args.id c.in-Some.place (sym c.in-Some.ensures.place) (last_sound c.args.self.now.views c.place_in.ensures.sound) c.args.self.now.nodes.items c.args.self.now.spare.items c.args.self.now.seated c.in-Some.ensures.within).0 c.in-Ok.ensures.identity (joined_last c.args.self.now.views c.replace.new.self (with_replaced (last_view c.args.self.now.views) c.args.id) c.in-Ok.ensures.ok c.last.result.now c.last.ensures.last) (ap Ok c.in-Ok-Some.field-0-is) (member_there c.args.self.now.views c.args.id c.in-Some.place (sym c.in-Some.ensures.place) (last_sound c.args.self.now.views c.place_in.ensures.sound) c.args.self.now.nodes.items c.args.self.now.spare.items c.args.self.now.seated c.in-Some.ensures.within).1 c.in-Ok-Some.ensures.reloads) in
    seated_back c.args.self.now.views c.args.id c.in-Some.place (sym c.in-Some.ensures.place) (last_sound c.args.self.now.views c.place_in.ensures.sound) c.args.self.now.nodes.items c.args.self.now.spare.items c.args.self.now.seated c.in-Some.ensures.within c.undo.new.self c.reload.new.nodes.items now.after (undone_is c.args.self.now.views c.replace.new.self (with_replaced (last_view c.args.self.now.views) c.args.id) c.in-Ok.ensures.ok c.undo.new.self c.undo.ensures) now.others now.is (same_id g.T.SpelledData (member_there c.args.self.now.views c.args.id c.in-Some.place (sym c.in-Some.ensures.place) (last_sound c.args.self.now.views c.place_in.ensures.sound) c.args.self.now.nodes.items c.args.self.now.spare.items c.args.self.now.seated c.in-Some.ensures.within).0 now.after (came_back g.T.SpelledData (last_view c.args.self.now.views).given (with_replaced (last_view c.args.self.now.views) c.args.id) c.in-Ok-Some.answer (member_there c.args.self.now.views c.args.id c.in-Some.place (sym c.in-Some.ensures.place) (last_sound c.args.self.now.views c.place_in.ensures.sound) c.args.self.now.nodes.items c.args.self.now.spare.items c.args.self.now.seated c.in-Some.ensures.within).0 now.after now.does)) (same_limit g.T.SpelledData (member_there c.args.self.now.views c.args.id c.in-Some.place (sym c.in-Some.ensures.place) (last_sound c.args.self.now.views c.place_in.ensures.sound) c.args.self.now.nodes.items c.args.self.now.spare.items c.args.self.now.seated c.in-Some.ensures.within).0 now.after (came_back g.T.SpelledData (last_view c.args.self.now.views).given (with_replaced (last_view c.args.self.now.views) c.args.id) c.in-Ok-Some.answer (member_there c.args.self.now.views c.args.id c.in-Some.place (sym c.in-Some.ensures.place) (last_sound c.args.self.now.views c.place_in.ensures.sound) c.args.self.now.nodes.items c.args.self.now.spare.items c.args.self.now.seated c.in-Some.ensures.within).0 now.after now.does))

pub returns-in-Ok-Some : goal.returns-in-Ok-Some
returns-in-Ok-Some g c =
    let now = (then_there g.T.SpelledData c.in-Ok.given.0 (last_view c.args.self.now.views).given c.last.result.now (with_replaced (last_view c.args.self.now.views) c.args.id) (Ok c.in-Ok-Some.field-0) (Ok (Some c.in-Ok-Some.answer)) c.in-Some.place c.args.self.now.nodes.items c.reload.new.nodes.items (member_there c.args.self.now.views c.args.id c.in-Some.place (sym c.in-Some.ensures.place) (last_sound c.args.self.now.views c.place_in.ensures.sound) c.args.self.now.nodes.items c.args.self.now.spare.items c.args.self.now.seated c.in-Some.ensures.within).0 c.in-Ok.ensures.identity (joined_last c.args.self.now.views c.replace.new.self (with_replaced (last_view c.args.self.now.views) c.args.id) c.in-Ok.ensures.ok c.last.result.now c.last.ensures.last) (ap Ok c.in-Ok-Some.field-0-is) (member_there c.args.self.now.views c.args.id c.in-Some.place (sym c.in-Some.ensures.place) (last_sound c.args.self.now.views c.place_in.ensures.sound) c.args.self.now.nodes.items c.args.self.now.spare.items c.args.self.now.seated c.in-Some.ensures.within).1 c.in-Ok-Some.ensures.reloads) in
    plays_back g.T.SpelledData g.met.K.Keeper.tells_alike c.args.id c.in-Some.place c.args.self.now _ (member_there c.args.self.now.views c.args.id c.in-Some.place (sym c.in-Some.ensures.place) (last_sound c.args.self.now.views c.place_in.ensures.sound) c.args.self.now.nodes.items c.args.self.now.spare.items c.args.self.now.seated c.in-Some.ensures.within).0 now.after (sym c.in-Some.ensures.place) (last_sound c.args.self.now.views c.place_in.ensures.sound) c.in-Ok.ensures.able (member_there c.args.self.now.views c.args.id c.in-Some.place (sym c.in-Some.ensures.place) (last_sound c.args.self.now.views c.place_in.ensures.sound) c.args.self.now.nodes.items c.args.self.now.spare.items c.args.self.now.seated c.in-Some.ensures.within).1 now.is
    (record { views = (undone_is c.args.self.now.views c.replace.new.self (with_replaced (last_view c.args.self.now.views) c.args.id) c.in-Ok.ensures.ok c.undo.new.self c.undo.ensures); keys = refl; spare = refl; links = refl; others = now.others }) c.in-Ok-Some.answer now.does c.line-in-Ok-Some.result c.line-in-Ok-Some.ensures

pub invariant_of-self-in-Err-reload-clause-seated : goal.invariant_of-self-in-Err-reload-clause-seated
invariant_of-self-in-Err-reload-clause-seated g c =
    let now = (then_there g.T.SpelledData c.in-Ok.given.0 (last_view c.args.self.now.views).given c.last.result.now (with_replaced (last_view c.args.self.now.views) c.args.id) (Err c.in-Err-reload.memory) (Err c.in-Err-reload.memory) c.in-Some.place c.args.self.now.nodes.items c.reload.new.nodes.items (member_there c.args.self.now.views c.args.id c.in-Some.place (sym c.in-Some.ensures.place) (last_sound c.args.self.now.views c.place_in.ensures.sound) c.args.self.now.nodes.items c.args.self.now.spare.items c.args.self.now.seated c.in-Some.ensures.within).0 c.in-Ok.ensures.identity (joined_last c.args.self.now.views c.replace.new.self (with_replaced (last_view c.args.self.now.views) c.args.id) c.in-Ok.ensures.ok c.last.result.now c.last.ensures.last) refl (member_there c.args.self.now.views c.args.id c.in-Some.place (sym c.in-Some.ensures.place) (last_sound c.args.self.now.views c.place_in.ensures.sound) c.args.self.now.nodes.items c.args.self.now.spare.items c.args.self.now.seated c.in-Some.ensures.within).1 c.in-Err-reload.ensures.reloads) in
    seated_back c.args.self.now.views c.args.id c.in-Some.place (sym c.in-Some.ensures.place) (last_sound c.args.self.now.views c.place_in.ensures.sound) c.args.self.now.nodes.items c.args.self.now.spare.items c.args.self.now.seated c.in-Some.ensures.within c.undo-in-Err-reload.new.self c.reload.new.nodes.items now.after (undone_is c.args.self.now.views c.replace.new.self (with_replaced (last_view c.args.self.now.views) c.args.id) c.in-Ok.ensures.ok c.undo-in-Err-reload.new.self c.undo-in-Err-reload.ensures) now.others now.is (same_id g.T.SpelledData (member_there c.args.self.now.views c.args.id c.in-Some.place (sym c.in-Some.ensures.place) (last_sound c.args.self.now.views c.place_in.ensures.sound) c.args.self.now.nodes.items c.args.self.now.spare.items c.args.self.now.seated c.in-Some.ensures.within).0 now.after now.does.0) (same_limit g.T.SpelledData (member_there c.args.self.now.views c.args.id c.in-Some.place (sym c.in-Some.ensures.place) (last_sound c.args.self.now.views c.place_in.ensures.sound) c.args.self.now.nodes.items c.args.self.now.spare.items c.args.self.now.seated c.in-Some.ensures.within).0 now.after now.does.0)

pub returns-in-Err-reload : goal.returns-in-Err-reload
returns-in-Err-reload g c =
    let now = (then_there g.T.SpelledData c.in-Ok.given.0 (last_view c.args.self.now.views).given c.last.result.now (with_replaced (last_view c.args.self.now.views) c.args.id) (Err c.in-Err-reload.memory) (Err c.in-Err-reload.memory) c.in-Some.place c.args.self.now.nodes.items c.reload.new.nodes.items (member_there c.args.self.now.views c.args.id c.in-Some.place (sym c.in-Some.ensures.place) (last_sound c.args.self.now.views c.place_in.ensures.sound) c.args.self.now.nodes.items c.args.self.now.spare.items c.args.self.now.seated c.in-Some.ensures.within).0 c.in-Ok.ensures.identity (joined_last c.args.self.now.views c.replace.new.self (with_replaced (last_view c.args.self.now.views) c.args.id) c.in-Ok.ensures.ok c.last.result.now c.last.ensures.last) refl (member_there c.args.self.now.views c.args.id c.in-Some.place (sym c.in-Some.ensures.place) (last_sound c.args.self.now.views c.place_in.ensures.sound) c.args.self.now.nodes.items c.args.self.now.spare.items c.args.self.now.seated c.in-Some.ensures.within).1 c.in-Err-reload.ensures.reloads) in
    remains_restart g.T.SpelledData g.met.K.Keeper.tells_alike c.args.id c.in-Some.place c.args.self.now _ (member_there c.args.self.now.views c.args.id c.in-Some.place (sym c.in-Some.ensures.place) (last_sound c.args.self.now.views c.place_in.ensures.sound) c.args.self.now.nodes.items c.args.self.now.spare.items c.args.self.now.seated c.in-Some.ensures.within).0 now.after (sym c.in-Some.ensures.place) (last_sound c.args.self.now.views c.place_in.ensures.sound) (member_there c.args.self.now.views c.args.id c.in-Some.place (sym c.in-Some.ensures.place) (last_sound c.args.self.now.views c.place_in.ensures.sound) c.args.self.now.nodes.items c.args.self.now.spare.items c.args.self.now.seated c.in-Some.ensures.within).1 now.is
    (record { views = (undone_is c.args.self.now.views c.replace.new.self (with_replaced (last_view c.args.self.now.views) c.args.id) c.in-Ok.ensures.ok c.undo-in-Err-reload.new.self c.undo-in-Err-reload.ensures); keys = refl; spare = refl; links = refl; others = now.others }) now.does.0 now.does.1
