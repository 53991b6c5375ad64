use Rattle.std.proofs.Common.{ap, arith}
use Rattle.member_keeper.specs.Tables.{Table, put_all}
use Rattle.member_write_behind.specs.Gathering.{Gathered}
use Rattle.member_write_behind.proofs.Puts.{put_alone}
use Rattle.member_write_behind.proofs.write_behind.WriteBehind.gathered.Goals as goal

pub returns : goal.returns
returns g c =
    let same = ap (λ (w : Gathered g.row.D.Denot). w.pending) c.self.view_is in
    let alone = put_alone c.self.inside.pending.entries c.self.invariant.table in
    let copies = c.in_ok-copies.ensures.copies in
    let kept = c.in_ok-copies.ensures.same in
    let pending = c.in_ok-pending.ensures.copies in
    let none = c.in_ok-pending.ensures.same in
    grind (arith, same, alone, copies, kept, pending, none, c.put_all.ensures, c.put_all-2.ensures, c.entries.ensures.entries, c.new-table.ensures)
