use Rattle.std.proofs.Common.{◌≡◌, sym, ◌∙◌, ap, subst, length}
use Rattle.thread_cell.specs.Lists.{at}
use Rattle.thread_cell.specs.Views.{client_given, met}
use Rattle.thread_cell.specs.Rule.{Looked, Serves}
use Rattle.thread_cell.specs.Seats.{lent}
use Rattle.thread_cell.proofs.Lending.{lent_whole, lent_serves}
use Rattle.thread_cell.proofs.table.CellTable.call.Goals as goal

pub extend-requires-clause-count : goal.extend-requires-clause-count
extend-requires-clause-count g c =
    let v = c.args.home.now.me.0 in
    let w = c.args.guest.now.me.0 in
    let p = c.args.place in
    let given : c.part_client-lent.result.me.0 ≡ client_given w = ap (λ m. m.0) c.part_client-lent.ensures.part.1 in
    let view : c.meet.new.seat.me.0 ≡ lent v w = ap (λ m. m.0) c.meet.ensures.seat.1 ∙ ap (met v) given in
    let looked : Looked (lent v w) = subst (λ u. Looked (met v u)) given c.meet.ensures.looked in
    let whole = lent_whole p c.args.entry.now.client c.requires.guest.0 v w c.requires.home.1 c.requires.guest.1 looked in
    (c.requires.count.0 ∙ (ap length (sym whole) ∙ ap (λ u. length (at u.known p)) (sym view)), c.requires.count.1)

pub extend-requires-clause-client : goal.extend-requires-clause-client
extend-requires-clause-client g c =
    let v = c.args.home.now.me.0 in
    let w = c.args.guest.now.me.0 in
    let p = c.args.place in
    let given : c.part_client-lent.result.me.0 ≡ client_given w = ap (λ m. m.0) c.part_client-lent.ensures.part.1 in
    let view : c.meet.new.seat.me.0 ≡ lent v w = ap (λ m. m.0) c.meet.ensures.seat.1 ∙ ap (met v) given in
    subst (Serves c.args.entry.now.client) (sym view) (lent_serves p c.args.entry.now.client c.requires.guest.0 v w c.requires.home.1 c.requires.guest.1)
