use Rattle.std.proofs.Common.{◌≡◌, ◌<◌, Some, length, slice_set, sym, ap, ◌∙◌, arith}
use Rattle.std.proofs.lemmas.Result.{on_ok_weaker}
use Rattle.member_node.proofs.Sparse.{each_put, each_length}
use Rattle.member_node.proofs.change.Changes.set.Goals as goal

pub invariant_of-self : goal.invariant_of-self
invariant_of-self g c =
    let keys = c.self.inside.keys in
    let counted : keys ≡ length c.args.self.now = sym (each_length keys c.self.inside.written.items) ∙ ap length c.self.view_is in
    c.put_change.ensures.still keys c.self.invariant (let within = c.requires in omega arith)

pub returns : goal.returns
returns g c =
    let keys = c.self.inside.keys in
    let old = c.self.inside.written.items in
    let new = c.put_change.new.written.items in
    let counted : keys ≡ length c.args.self.now = sym (each_length keys old) ∙ ap length c.self.view_is in
    let within : c.args.index < keys = (let within = c.requires in omega arith) in
    on_ok_weaker c.put_change.result (λ put. each_put keys c.args.index c.args.change old new within put ∙ ap (λ xs. slice_set xs c.args.index (Some c.args.change)) c.self.view_is)
    (c.put_change.ensures.ok keys c.self.invariant within)
