use Rattle.std.proofs.Common.{sym, ◌∙◌, arith}
use Rattle.thread_cell.specs.Entries.{client_of, places_of, clients_of}
use Rattle.thread_cell.proofs.Steps.{meet_joins, look_allowed}
use Rattle.thread_cell.proofs.table.CellTable.meet.Goals as goal

pub join_seat-requires : goal.join_seat-requires
join_seat-requires g c =
    let i = c.self.invariant in
    let key = c.self.inside.table.shared.key in
    let words = i.1 in
    let r = c.requires.table in (
      r.0 ∙ sym i.0,
      r.1 ∙ sym i.0,
      r.2,
      omega arith,
      meet_joins client_of (places_of key) (clients_of key) key c.args.seat.now.id c.args.seat.now.me.0 c.args.other.id c.args.other.me.0 c.requires.live.0 c.requires.live.1,
    )

pub load-requires : goal.load-requires
load-requires g c =
    let i = c.self.invariant in
    let key = c.self.inside.table.shared.key in
    let words = i.1 in
    let j = c.join_seat.ensures in
    (j.0 ∙ (c.requires.table.0 ∙ sym i.0), omega arith, look_allowed client_of (places_of key) (clients_of key) key c.self.inside.table.shared.table_id.slots c.join_seat.new.seat.id c.join_seat.new.seat.me 0)
