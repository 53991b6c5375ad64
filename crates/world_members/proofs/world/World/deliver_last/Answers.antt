use Rattle.std.proofs.Common.{◌∙◌, ◌<◌, ◌-◌, sym, ap, arith}
use Rattle.model_history.specs.Table.{identity_limit}
use Rattle.world_members.specs.Settling.{met_full, sent_in}
use Rattle.world_members.proofs.Settled.{skips_same, skips_delivery, told_delivery, halts_delivery, halts_uncounted}
use Rattle.world_members.proofs.Answering.{match_err}
use Rattle.world_members.proofs.world.World.deliver_last.Goals as goal
use Rattle.world_members.proofs.world.World.deliver_last.Goals.{then-before-sent-via-then-before-sent, then-before-sent-via-else-before-sent+then-met_full}

pub returns-in_err-sent : goal.returns-in_err-sent
returns-in_err-sent g c =
    let small : c.args.from < identity_limit = omega arith in
    let few : c.args.to < identity_limit = omega arith in
    match_err _ _ c.from_residual.result c.from_residual.ensures.0 (halts_uncounted g.T.SpelledData c.args.self.now c.args.self.now c.args.before c.args.from c.args.to small few c.args.events.now)

pub returns-then-before-sent : goal.returns-then-before-sent
returns-then-before-sent g c =
    let small : c.args.from < identity_limit = omega arith in
    let few : c.args.to < identity_limit = omega arith in
    let counted = c.in_ok-sent.ensures ∙ ap sent_in c.as_slice.ensures in
    elim c.then-before-sent.branch [
      | then-before-sent-via-then-before-sent w ↦ skips_same g.T.SpelledData c.args.self.now c.args.self.now c.args.before c.args.from c.args.to small few c.args.events.now (w.if-before-sent.true ∙ counted)
      | then-before-sent-via-else-before-sent+then-met_full w ↦
          skips_delivery g.T.SpelledData c.args.self.now c.args.self.now c.args.before c.args.from c.args.to small few c.args.events.now (λ e. w.if-before-sent.false (e ∙ sym counted))
          (ap met_full (sym w.as_slice-else-before-sent.ensures) ∙ sym w.met_full.ensures ∙ w.if-met_full.true)
    ]

pub returns-in_err-event : goal.returns-in_err-event
returns-in_err-event g c =
    let small : c.args.from < identity_limit = omega arith in
    let few : c.args.to < identity_limit = omega arith in
    let counted = c.in_ok-sent.ensures ∙ ap sent_in c.as_slice.ensures in
    match_err _ _ c.from_residual-in_err-event.result c.from_residual-in_err-event.ensures.0
    (halts_delivery g.T.SpelledData c.args.self.now c.deliver.new.self c.args.before c.args.from c.args.to small few c.args.events.now (λ e. c.if-before-sent.false (e ∙ sym counted))
    (ap met_full (sym c.as_slice-else-before-sent.ensures) ∙ sym c.met_full.ensures ∙ c.if-met_full.false) c.saturating_sub-last.result (c.saturating_sub-last.ensures ∙ ap (λ n. n - 1) c.sent.ensures.count) c.in_err-event.ensures)

pub returns : goal.returns
returns g c =
    let small : c.args.from < identity_limit = omega arith in
    let few : c.args.to < identity_limit = omega arith in
    let counted = c.in_ok-sent.ensures ∙ ap sent_in c.as_slice.ensures in
    told_delivery g.T.SpelledData c.args.self.now c.deliver.new.self c.args.before c.args.from c.args.to small few c.args.events.now (λ e. c.if-before-sent.false (e ∙ sym counted))
    (ap met_full (sym c.as_slice-else-before-sent.ensures) ∙ sym c.met_full.ensures ∙ c.if-met_full.false) c.saturating_sub-last.result (c.saturating_sub-last.ensures ∙ ap (λ n. n - 1) c.sent.ensures.count)
    c.in_ok-event.event c.in_ok-event.ensures c.push.new.self c.push.result c.push.ensures.ok
