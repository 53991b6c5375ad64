use Rattle.std.proofs.Common.{List, ◌++◌, ap, ◌∙◌}
use Rattle.member_desk.specs.declared.notice.Notice.{Notice}
use Rattle.member_desk.proofs.Editing.{on_ok}
use Rattle.member_desk.proofs.Standings.{standing_notices}
use Rattle.member_desk.proofs.tell.tell_standing.Goals as goal

pub returns-in-Some : goal.returns-in-Some
returns-in-Some c = on_ok c.tell_clients.result c.tell_clients.ensures
    (λ told. told ∙ ap (λ (ns : List Notice). c.args.notices.now ++ ns) (standing_notices c.args.followed.now c.in-Some.told c.in-Some.is))
