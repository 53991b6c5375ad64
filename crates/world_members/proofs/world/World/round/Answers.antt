use Rattle.std.proofs.Common.{◌∙◌, ◌<◌, sym, ap, arith, List, [], ◌∷◌, ◌++◌, length}
use Rattle.std.specs.Prelude.{vec_len}
use Rattle.std.proofs.lemmas.Bool.{eqb-true}
use Rattle.std.proofs.lemmas.List.{take_all, nil_from_length}
use Rattle.world_members.specs.declared.event.Event.{Event}
use Rattle.world_members.specs.declared.rounds.Due.{Due}
use Rattle.world_places.proofs.Seats.{last_sound}
use Rattle.world_members.proofs.Rounding.{none_turned, one_turned, halts_turn, plays_nothing, plays_round, remains_round, remains_still, some_count}
use Rattle.world_members.proofs.Answering.{match_err}
use Rattle.world_members.proofs.world.World.round.Goals as goal

pub returns-in_err-dues : goal.returns-in_err-dues
returns-in_err-dues g c = match_err _ _ c.from_residual.result c.from_residual.ensures.0 (remains_still g.T.SpelledData c.args.self.now)

pub returns-in_err-push : goal.returns-in_err-push
returns-in_err-push g c = match_err _ _ c.from_residual-in_err-push.result c.from_residual-in_err-push.ensures.0 (remains_still g.T.SpelledData c.args.self.now)

pub returns-then-is_empty : goal.returns-then-is_empty
returns-then-is_empty g c =
    let none = eqb-true (vec_len c.in_ok-dues.dues) 0 (sym c.is_empty.ensures ∙ c.if-is_empty.true) in
    plays_nothing g.T.SpelledData c.args.self.now (last_sound c.args.self.now.views c.in_ok-dues.ensures.sound) c.in_ok-dues.dues.items c.in_ok-dues.ensures.due (nil_from_length c.in_ok-dues.dues.items (omega (arith, c.in_ok-dues.dues.ok.0))) c.push.new.self
    (c.in_ok-push.ensures.ok ∙ ap (λ (events : List Event). events ++ c.line.result ∷ []) c.new-events.ensures ∙ ap (λ (event : Event). event ∷ []) c.line.ensures)

pub loop-due-init : goal.loop-due-init
loop-due-init g c = none_turned g.T.SpelledData c.deref-due-items.result.now c.args.self.now c.new-events.result c.new-events.ensures

pub loop-due-preserved : goal.loop-due-preserved
loop-due-preserved g c =
    let dues = c.deref-due-items.result.now in
    let k = c.loop-due.due-index in
    one_turned g.T.SpelledData dues k c.due-item.result c.loop-due-test.true c.due-item.is c.args.self.now c.loop-due.self c.deliver_due.new.self c.loop-due.events c.loop-due.invariant c.deliver_due.new.events c.in_ok-deliver_due.ensures

pub returns-in_err-deliver_due : goal.returns-in_err-deliver_due
returns-in_err-deliver_due g c =
    let dues = c.deref-due-items.result.now in
    let k = c.loop-due.due-index in
    let some : 0 < length dues = omega (arith, c.loop-due-test.true) in
    match_err _ _ c.from_residual-in_err-deliver_due.result c.from_residual-in_err-deliver_due.ensures.0
    (remains_round g.T.SpelledData c.args.self.now (last_sound c.args.self.now.views c.in_ok-dues.ensures.sound) dues (c.deref-due-items.ensures.value ∙ c.in_ok-dues.ensures.due) some c.deliver_due.new.self
    (halts_turn g.T.SpelledData dues k c.due-item.result c.loop-due-test.true c.due-item.is c.args.self.now c.loop-due.self c.deliver_due.new.self c.loop-due.events c.loop-due.invariant c.in_err-deliver_due.ensures))

pub returns : goal.returns
returns g c =
    let dues = c.deref-due-items.result.now in
    let some : 0 < length dues = (let more = some_count (vec_len c.in_ok-dues.dues) (sym c.is_empty.ensures ∙ c.if-is_empty.false) in let same = ap (λ (ds : List Due). length ds) c.deref-due-items.ensures.value in omega (arith, c.in_ok-dues.dues.ok.0)) in
    plays_round g.T.SpelledData c.args.self.now (last_sound c.args.self.now.views c.in_ok-dues.ensures.sound) dues (c.deref-due-items.ensures.value ∙ c.in_ok-dues.ensures.due) some c.loop-due.self c.loop-due.due-index c.loop-due.events (take_all c.loop-due.due-index dues (omega arith)) c.loop-due.invariant
