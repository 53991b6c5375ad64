use Rattle.std.proofs.Common.{sym, subst, string_bytes, OnOk, MatchResult}
use Rattle.script_reading.specs.declared.clients.RunStep.{RunStep}
use Rattle.report_lines.specs.Telling.{AreAllKept}
use Rattle.report_followers.specs.Watching.{WatchesStep}
use Rattle.report_followers.proofs.Told.{on_request}
use Rattle.report_followers.proofs.playing.one_step.Goals as goal

pub returns-in-Plain : goal.returns-in-Plain
returns-in-Plain g c =
    subst (λ (step : RunStep). MatchResult c.plain_watched.result (λ _. WatchesStep g.T.SpelledData c.args.number step c.args.world.now c.plain_watched.new.world c.args.desks.now c.plain_watched.new.desks
    (string_bytes c.args.text.now) (string_bytes c.plain_watched.new.text)) (λ _. AreAllKept c.args.world.now c.plain_watched.new.world))
    (sym c.in-Plain.is) c.plain_watched.ensures

pub returns-in-Subscribe : goal.returns-in-Subscribe
returns-in-Subscribe g c =
    on_request g.T.SpelledData c.subscribed.result (WatchesStep g.T.SpelledData c.args.number c.args.step.now c.args.world.now c.args.world.now c.args.desks.now c.subscribed.new.desks (string_bytes c.args.text.now) (string_bytes c.subscribed.new.text)) c.args.world.now
    (subst (λ (step : RunStep). OnOk c.subscribed.result (WatchesStep g.T.SpelledData c.args.number step c.args.world.now c.args.world.now c.args.desks.now c.subscribed.new.desks (string_bytes c.args.text.now) (string_bytes c.subscribed.new.text)))
    (sym c.in-Subscribe.is) c.subscribed.ensures)

pub returns-in-Unsubscribe : goal.returns-in-Unsubscribe
returns-in-Unsubscribe g c =
    on_request g.T.SpelledData c.unsubscribed.result (WatchesStep g.T.SpelledData c.args.number c.args.step.now c.args.world.now c.args.world.now c.args.desks.now c.unsubscribed.new.desks (string_bytes c.args.text.now) (string_bytes c.unsubscribed.new.text)) c.args.world.now
    (subst (λ (step : RunStep). OnOk c.unsubscribed.result (WatchesStep g.T.SpelledData c.args.number step c.args.world.now c.args.world.now c.args.desks.now c.unsubscribed.new.desks (string_bytes c.args.text.now) (string_bytes c.unsubscribed.new.text)))
    (sym c.in-Unsubscribe.is) c.unsubscribed.ensures)
