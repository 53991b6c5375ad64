use Rattle.std.proofs.Common.{◌≡◌, ◌+◌, ◌≤◌, length, [], ◌∷◌, ◌++◌, take, subst, sym, ap, ◌∙◌, arith, refl}
use Rattle.std.specs.Vec.{vec_len, vec_capacity}
use Rattle.std.proofs.lemmas.Grind.{common_steps}
use Rattle.std.proofs.lemmas.List.{take_all}
use Rattle.member_write_behind.specs.Gathering.{Gathered, IsGathering}
use Rattle.member_write_behind.proofs.Runs.{IsAfter, nothing_made, one_more_made, runs_to, made_in_part, refused_in_part, after_err_result}
use Rattle.member_write_behind.proofs.write_behind.WriteBehind.run_stores.Goals as goal

pub returns-in_err-answers-clause-err : goal.returns-in_err-answers-clause-err
returns-in_err-answers-clause-err g c =
    let sound = subst (λ (w : Gathered g.row.D.Denot). IsGathering w.period w.waiting w.pending) c.self.view_is c.self.invariant in
    after_err_result c.from_residual.result (made_in_part g.D.Keeper c.args.self.now c.args.self.now c.args.calls.now [] 0 (nothing_made g.D.Keeper c.args.self.now c.requires sound))

pub loop-call-init : goal.loop-call-init
loop-call-init g c =
    let sound = subst (λ (w : Gathered g.row.D.Denot). IsGathering w.period w.waiting w.pending) c.self.view_is c.self.invariant in
    (subst (IsAfter g.D.Keeper c.args.self.now c.args.self.now []) (sym c.in_ok-answers.ensures.items) (nothing_made g.D.Keeper c.args.self.now c.requires sound), c.in_ok-answers.ensures.len, c.in_ok-answers.ensures.capacity)

pub returns-in_err-answer-clause-err : goal.returns-in_err-answer-clause-err
returns-in_err-answer-clause-err g c =
    after_err_result c.from_residual-in_err-answer.result
    (refused_in_part g.D.Keeper c.args.self.now c.loop-call.self c.answer.new.self c.args.calls.now c.loop-call.answers.items c.loop-call.call-index c.call-item.result c.loop-call.invariant.0 c.in_err-answer.ensures.err c.answer.ensures.sound)

pub loop-call-preserved : goal.loop-call-preserved
loop-call-preserved g c = (
  subst (λ calls. IsAfter g.D.Keeper c.args.self.now c.answer.new.self calls c.push.new.self.items) (sym taken)
      (subst (IsAfter g.D.Keeper c.args.self.now c.answer.new.self (take c.loop-call.call-index c.args.calls.now ++ c.call-item.result ∷ [])) (sym pushed)
      (one_more_made g.D.Keeper c.args.self.now c.loop-call.self c.answer.new.self (take c.loop-call.call-index c.args.calls.now) c.loop-call.answers.items c.call-item.result c.in_ok-answer.answer c.loop-call.invariant.0 c.in_ok-answer.ensures.ok c.answer.ensures.sound)),
  counted,
  roomy,
)
  where
    counted : vec_len c.push.new.self ≡ c.loop-call.call-index + 1
    counted = grind (arith, common_steps, c.push.ensures, c.loop-call.invariant, c.loop-call-test.true)

    roomy : length c.args.calls.now ≤ vec_capacity c.push.new.self
    roomy = grind (arith, common_steps, c.push.ensures, c.loop-call.invariant, c.loop-call-test.true)

    pushed : c.push.new.self.items ≡ c.loop-call.answers.items ++ c.in_ok-answer.answer ∷ []
    pushed = grind (arith, common_steps, c.push.ensures, c.loop-call.invariant, c.loop-call-test.true)

    taken : take (c.loop-call.call-index + 1) c.args.calls.now ≡ take c.loop-call.call-index c.args.calls.now ++ c.call-item.result ∷ []
    taken = grind (arith, common_steps, c.call-item.is, c.loop-call-test.true)

pub returns-clause-ok : goal.returns-clause-ok
returns-clause-ok g c =
    let all = take_all c.loop-call.call-index c.args.calls.now c.loop-call-test.false in
    runs_to g.D.Keeper c.args.self.now c.loop-call.self c.args.calls.now c.from_vec.result
    (subst (λ calls. IsAfter g.D.Keeper c.args.self.now c.loop-call.self calls c.from_vec.result) all (subst (IsAfter g.D.Keeper c.args.self.now c.loop-call.self (take c.loop-call.call-index c.args.calls.now)) (sym c.from_vec.ensures) c.loop-call.invariant.0))
