use Rattle.std.proofs.Common.{◌≡◌, ◌++◌, take}
use Rattle.member_desk.specs.Notices.{tellings}
use Rattle.member_desk.proofs.tell.tell_clients.Given as goal

abbrev pub invariant-loop-client : goal.invariant-loop-client
invariant-loop-client l = l.notices ≡ l.fn.notices ++ tellings l.followed.key l.shown l.all (take l.client-index l.client-items)
