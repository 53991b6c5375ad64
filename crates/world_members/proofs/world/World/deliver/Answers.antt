use Rattle.std.proofs.Common.{◌∙◌, ◌<◌, ap, refl, arith}
use Rattle.std.specs.Prelude.{option_copied}
use Rattle.model_history.specs.Table.{identity_limit}
use Rattle.model_members.specs.View.{is_member}
use Rattle.world_members.proofs.Steps.{call_absent, call_unsent, call_reply, call_other}
use Rattle.world_members.proofs.Answering.{as_before, match_err}
use Rattle.world_members.proofs.world.World.deliver.Goals as goal
use Rattle.world_members.proofs.world.World.deliver.Goals.{in-Reply, in_default-answer}

pub returns-then-not-contains : goal.returns-then-not-contains
returns-then-not-contains g c =
    let small : c.args.from < identity_limit = omega arith in
    let few : c.args.to < identity_limit = omega arith in
    call_absent g.T.SpelledData c.args.self.now c.args.from c.args.to c.args.index small few c.last.ensures.sound c.contains.result (c.contains.ensures ∙ ap (λ v. is_member v c.args.to) c.last.ensures.last) c.if-not-contains.true c.undelivered.result c.undelivered.ensures

pub returns-in_default : goal.returns-in_default
returns-in_default g c =
    let small : c.args.from < identity_limit = omega arith in
    let few : c.args.to < identity_limit = omega arith in
    call_unsent g.T.SpelledData c.args.self.now c.args.from c.args.to c.args.index small few c.last.ensures.sound c.contains.result (c.contains.ensures ∙ ap (λ v. is_member v c.args.to) c.last.ensures.last) c.if-not-contains.false (option_copied c.message.result) c.message.ensures
    (ap option_copied c.in_default.is) c.undelivered-in_default.result c.undelivered-in_default.ensures

pub returns-in_err-event : goal.returns-in_err-event
returns-in_err-event g c = match_err _ _ c.from_residual.result c.from_residual.ensures.0 (as_before g.T.SpelledData g.met.K.Keeper.tells_alike c.args.self.now c.hand.new.self c.args.to c.in_err-event.ensures)

pub returns : goal.returns
returns g c =
    let small : c.args.from < identity_limit = omega arith in
    let few : c.args.to < identity_limit = omega arith in
    elim c.match-event.branch [
      | in-Reply w ↦
          call_reply g.T.SpelledData c.args.self.now c.args.from c.args.to c.args.index small few c.last.ensures.sound c.contains.result (c.contains.ensures ∙ ap (λ v. is_member v c.args.to) c.last.ensures.last) c.if-not-contains.false (option_copied c.message.result) c.message.ensures
          c.in-Some.message.now (ap option_copied c.in-Some.is) c.sketch.result c.sketch.ensures g.met.K.Keeper.tells_alike c.hand.new.self c.in_ok-event.event c.in_ok-event.ensures
          w.in-Reply.field-0 w.in-Reply.is _ c.match-event.self w.self-is (record { views = refl; keys = refl; spare = refl; nodes = refl }) w.pass.ensures
      | in_default-answer w ↦
          call_other g.T.SpelledData c.args.self.now c.args.from c.args.to c.args.index small few c.last.ensures.sound c.contains.result (c.contains.ensures ∙ ap (λ v. is_member v c.args.to) c.last.ensures.last) c.if-not-contains.false (option_copied c.message.result) c.message.ensures
          c.in-Some.message.now (ap option_copied c.in-Some.is) c.sketch.result c.sketch.ensures g.met.K.Keeper.tells_alike c.hand.new.self c.in_ok-event.event c.in_ok-event.ensures
          w.in_default-answer.not-Reply c.hand.new.self c.match-event.self w.self-is (record { views = refl; keys = refl; spare = refl; nodes = refl; links = refl })
    ]
