use Rattle.std.proofs.Common.{set, sym, ap, ◌∙◌}
use Rattle.member_node.proofs.Common.{recorded}
use Rattle.member_node.proofs.plan.record_at.Goals as goal

pub bounds-keys-index : goal.bounds-keys-index
bounds-keys-index g c = c.requires.within

pub record-requires : goal.record-requires
record-requires g c = c.requires.recordable c.index-keys-index.result

pub returns : goal.returns
returns g c =
    let at = c.index-keys-index.result in
    (at, c.index-keys-index.is, ap (set c.args.keys.now c.args.index) (c.record.ensures ∙ ap (λ state. recorded state c.args.entry c.args.next) (sym c.index-keys-index.is)))
