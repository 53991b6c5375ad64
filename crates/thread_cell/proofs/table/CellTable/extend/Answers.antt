use Rattle.std.proofs.Common.{ℕ, length, refl, ap, sym, ◌∙◌, subst, arith}
use Rattle.thread_cell.specs.Lists.{at}
use Rattle.thread_cell.specs.Views.{extended}
use Rattle.thread_cell.specs.Rule.{IsNewCall}
use Rattle.thread_cell.specs.Entries.{client_of, places_of, clients_of}
use Rattle.thread_cell.proofs.Steps.{extend_allowed, place_of_word}
use Rattle.thread_cell.proofs.table.CellTable.extend.Goals as goal

pub compare_exchange_with-requires : goal.compare_exchange_with-requires
compare_exchange_with-requires g c =
    let i = c.self.invariant in
    let key = c.self.inside.table.shared.key in
    let words = i.1 in
    let r = c.requires in
    let who = r.client in
    let place = r.place.0 in (
      r.table ∙ sym i.0,
      omega arith,
      extend_allowed client_of (places_of key) (clients_of key) key c.self.inside.table.shared.table_id.slots c.args.seat.now.id c.args.seat.now.me c.args.place c.args.count c.args.entry.now who.0 who.1 r.place.1 r.count.0 r.count.1 who.2 who.3,
    )

pub returns-clause-seat : goal.returns-clause-seat
returns-clause-seat g c =
    let me = c.args.seat.now.me in
    let told = c.compare_exchange_with.ensures.2 c.args.entry.now refl in
    (c.compare_exchange_with.ensures.0 ∙ c.requires.table, told.1 ∙ ap (λ (q : ℕ). (extended q c.args.entry.now me.0, me.1)) (place_of_word c.args.place))

pub returns-clause-is_new : goal.returns-clause-is_new
returns-clause-is_new g c =
    let v = c.args.seat.now.me.0 in
    subst (λ (q : ℕ). IsNewCall q (length (at v.known q)) v) (place_of_word c.args.place) (c.compare_exchange_with.ensures.2 c.args.entry.now refl).2
