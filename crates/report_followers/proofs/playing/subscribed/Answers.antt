use Rattle.std.proofs.Common.{string_bytes}
use Rattle.member_desk.proofs.Editing.{on_ok}
use Rattle.report_followers.proofs.Told.{subscribe_goes}
use Rattle.report_followers.proofs.playing.subscribed.Goals as goal

pub returns : goal.returns
returns g c =
    on_ok c.push_subscribe.result c.push_subscribe.ensures (λ grown.
    subscribe_goes g.T.SpelledData c.args.number c.args.at c.args.client c.args.key.now c.args.world.now c.args.desks.now c.subscribe.new.self c.in_ok-answer.answer (string_bytes c.args.text.now) (string_bytes c.push_subscribe.new.text)
    c.in_ok-answer.ensures.ok grown)
