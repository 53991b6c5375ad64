use Rattle.std.proofs.Common.{◌≡◌, take}
use Rattle.member_sqlite.proofs.Putting.{HasPut}
use Rattle.member_sqlite.proofs.together.put_each.Given as goal

abbrev pub invariant-loop-entry : goal.invariant-loop-entry
invariant-loop-entry g l =
    (l.all.conn.ghost_name ≡ l.fn.all.conn.ghost_name) × HasPut g.S.Store (take l.entry-index l.entries) l.fn.all.conn.now l.all.conn.now
