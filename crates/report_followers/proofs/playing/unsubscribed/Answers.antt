use Rattle.std.proofs.Common.{string_bytes}
use Rattle.member_desk.proofs.Editing.{on_ok}
use Rattle.report_followers.proofs.Told.{unsubscribe_goes}
use Rattle.report_followers.proofs.playing.unsubscribed.Goals as goal

pub returns : goal.returns
returns g c =
    on_ok c.push_unsubscribe.result c.push_unsubscribe.ensures (λ grown.
    unsubscribe_goes g.T.SpelledData c.args.number c.args.at c.args.client c.args.key.now c.args.world.now c.args.desks.now c.unsubscribe-answer.new.self c.unsubscribe-answer.result (string_bytes c.args.text.now) (string_bytes c.push_unsubscribe.new.text)
    c.unsubscribe-answer.ensures grown)
