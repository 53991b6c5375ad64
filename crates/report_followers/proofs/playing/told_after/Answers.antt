use Rattle.std.proofs.Common.{List, sym, subst, string_bytes}
use Rattle.member_desk.specs.declared.notice.Notice.{Notice}
use Rattle.member_desk.proofs.Editing.{on_ok}
use Rattle.world_desks.specs.Watched.{Tells}
use Rattle.report_followers.proofs.Told.{told_flush, told_nothing}
use Rattle.report_followers.proofs.playing.told_after.Goals as goal

pub returns-in_ok-notices-in-Some : goal.returns-in_ok-notices-in-Some
returns-in_ok-notices-in-Some g c =
    on_ok c.push_notices.result c.push_notices.ensures (λ grown.
    told_flush g.T.SpelledData c.args.number c.args.events.now c.args.world.now c.args.desks.now c.end_with_members.new.self (string_bytes c.args.text.now) (string_bytes c.push_lines.new.text)
    c.in_ok-push_lines.ensures c.end_with_members.ensures c.in-Some.at c.as_slice.result.now c.notices.new.self (string_bytes c.push_notices.new.text) c.in-Some.ensures
    (subst (λ (notices : List Notice). Tells g.T.SpelledData c.args.world.now c.in-Some.at notices c.end_with_members.new.self c.notices.new.self) (sym c.as_slice.ensures) c.in_ok-notices-in-Some.ensures) grown)

pub returns-in-None : goal.returns-in-None
returns-in-None g c =
    told_nothing g.T.SpelledData c.args.number c.args.events.now c.args.world.now c.args.desks.now c.end_with_members.new.self (string_bytes c.args.text.now) (string_bytes c.push_lines.new.text)
    c.in_ok-push_lines.ensures c.end_with_members.ensures c.in-None.ensures
