use Rattle.std.proofs.Common.{Some, set, sym, ap, ◌∙◌}
use Rattle.member_node.specs.Changes.{changed}
use Rattle.member_node.proofs.change.write_at.Goals as goal

pub returns : goal.returns
returns g c =
    let at = c.index-keys-index.result in
    (at, c.index-keys-index.is, ap (set c.args.keys.now c.args.index) (c.write.ensures ∙ ap (λ state. changed state (Some c.args.change)) (sym c.index-keys-index.is)))
