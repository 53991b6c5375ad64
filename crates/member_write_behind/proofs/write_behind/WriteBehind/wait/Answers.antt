use Rattle.std.proofs.Common.{◌≡◌, ◌+◌, ◌<◌, arith, ap, ◌∙◌}
use Rattle.member_keeper.specs.Tables.{Table, put_all}
use Rattle.member_write_behind.specs.Gathering.{Gathered}
use Rattle.member_write_behind.proofs.Tellings.{one_more_gathers}
use Rattle.member_write_behind.proofs.write_behind.WriteBehind.wait.Goals as goal

pub invariant_of-self-2 : goal.invariant_of-self-2
invariant_of-self-2 g c =
    let waiting = ap (λ (w : Gathered g.row.D.Denot). w.waiting) c.self.view_is in
    let period = ap (λ (w : Gathered g.row.D.Denot). w.period) c.self.view_is in
    one_more_gathers c.self.inside.period c.self.inside.waiting c.self.inside.pending.entries c.in_ok-copies.copies.items c.put_all.new.self.entries c.self.invariant (omega (arith, c.requires, waiting, period))
    (c.put_all.ensures ∙ ap (λ (t : Table). put_all t c.in_ok-copies.copies.items) c.in_ok-copies.ensures.same)

pub returns-clause-sound : goal.returns-clause-sound
returns-clause-sound g c =
    let waiting = ap (λ (w : Gathered g.row.D.Denot). w.waiting) c.self.view_is in
    let period = ap (λ (w : Gathered g.row.D.Denot). w.period) c.self.view_is in
    one_more_gathers c.self.inside.period c.self.inside.waiting c.self.inside.pending.entries c.in_ok-copies.copies.items c.put_all.new.self.entries c.self.invariant (omega (arith, c.requires, waiting, period))
    (c.put_all.ensures ∙ ap (λ (t : Table). put_all t c.in_ok-copies.copies.items) c.in_ok-copies.ensures.same)
