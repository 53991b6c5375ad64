use Rattle.std.proofs.Common.{ℕ, ◌∙◌, ap, arith, subst, List, map, set}
use Rattle.std.proofs.Math.Seq.{map-set_same}
use Rattle.member_node.proofs.Standing.{on_err}
use Rattle.world_places.specs.Channels.{Channel, channels_in, due_from, ChangesOne}
use Rattle.world_places.proofs.Sendings.{changed_one}
use Rattle.world_places.proofs.links.Links.set_next.Goals as goal

pub returns-in_err-set_next_in-clause-err : goal.returns-in_err-set_next_in-clause-err
returns-in_err-set_next_in-clause-err g c =
    let seen = channels_in {M = g.row.M.Denot} in
    on_err c.from_residual.result (map-set_same seen c.self.inside.rows.items c.from-sender.result c.set_next_in.new.row c.index_mut.result.now (c.in_err-set_next_in.ensures.err ∙ ap seen c.index_mut.ensures.value) ∙ c.self.view_is)

pub returns-in_ok-set_next_in-clause-ok : goal.returns-in_ok-set_next_in-clause-ok
returns-in_ok-set_next_in-clause-ok g c =
    let rows = c.self.inside.rows in
    let seen = channels_in {M = g.row.M.Denot} in
    let change = due_from {M = g.row.M.Denot} c.args.next in
    let new = map seen (set rows.items c.from-sender.result c.set_next_in.new.row) in
    subst (λ (old : List (List (Channel g.row.M.Denot))). ChangesOne change c.args.from c.args.to old new) c.self.view_is
    (subst (λ (from : ℕ). ChangesOne change from c.args.to (map seen rows.items) new) (c.from-sender.ensures ∙ c.number.ensures.value)
    (subst (λ (to : ℕ). ChangesOne change c.from-sender.result to (map seen rows.items) new) (c.from.ensures ∙ c.number-then-sender-len.ensures.value)
    (changed_one seen change rows.items c.from-sender.result c.from.result c.index_mut.result.now c.set_next_in.new.row (omega (arith, rows.ok.0)) c.index_mut.ensures.value c.in_ok-set_next_in.ensures.ok)))
