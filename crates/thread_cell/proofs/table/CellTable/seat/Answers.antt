use Rattle.std.proofs.Common.{[], refl, sym, ◌∙◌, subst, arith}
use Rattle.thread_cell.specs.Beginnings.{Opens}
use Rattle.thread_cell.specs.Entries.{client_of, places_of, clients_of}
use Rattle.thread_cell.proofs.Steps.{seat_enters}
use Rattle.thread_cell.proofs.table.CellTable.seat.Goals as goal

pub load_new_seat-requires : goal.load_new_seat-requires
load_new_seat-requires g c =
    let key = c.self.inside.table.shared.key in
    let words = c.self.invariant.1 in
    (omega arith, seat_enters client_of (places_of key) (clients_of key) key c.self.inside.table.shared.table_id.slots 0 (places_of key) (clients_of key))

pub returns : goal.returns
returns g c =
    let e = c.load_new_seat.ensures in
    (e.0 ∙ c.self.invariant.0, subst (λ key. Opens key [] [] c.load_new_seat.result.1.me) c.self.view_is (subst (Opens c.self.inside.table.shared.key [] []) (sym e.2) (record { began = refl; known = refl; places = refl; clients = refl; slots = refl })))
