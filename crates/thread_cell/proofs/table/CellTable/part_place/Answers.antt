use Rattle.std.proofs.Common.{sym, ◌∙◌, arith}
use Rattle.thread_cell.specs.Entries.{client_of, places_of, clients_of}
use Rattle.thread_cell.proofs.Steps.{place_splits}
use Rattle.thread_cell.proofs.table.CellTable.part_place.Goals as goal

pub split_seat-requires : goal.split_seat-requires
split_seat-requires g c =
    let i = c.self.invariant in
    let key = c.self.inside.table.shared.key in
    let words = i.1 in
    (c.requires ∙ sym i.0, omega arith, place_splits client_of (places_of key) (clients_of key) key c.args.seat.now.id c.args.seat.now.me.0)
