use Rattle.std.proofs.Common.{set, sym, ap, ◌∙◌}
use Rattle.member_node.proofs.Common.{ticked}
use Rattle.member_node.proofs.ticking.write_at.Goals as goal

pub bounds-keys-index : goal.bounds-keys-index
bounds-keys-index g c = c.requires.within

pub write-requires : goal.write-requires
write-requires g c = c.requires.follows c.index-keys-index.result

pub returns : goal.returns
returns g c =
    let at = c.index-keys-index.result in
    (at, c.index-keys-index.is, ap (set c.args.keys.now c.args.index) (c.write.ensures ∙ ap (λ state. ticked state c.args.tick) (sym c.index-keys-index.is)))
