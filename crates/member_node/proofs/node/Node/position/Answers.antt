use Rattle.std.proofs.Common.{ap, ◌∙◌, sym, subst, bytes_eq, position}
use Rattle.member_node.proofs.Common.{AreDistinctKeys}
use Rattle.member_node.proofs.node.Node.position.Goals as goal

pub place-requires : goal.place-requires
place-requires g c = record { distinct = subst AreDistinctKeys (sym c.deref.ensures.value) c.args.self.now.distinct }

pub returns : goal.returns
returns g c = c.place.ensures ∙ ap (λ keys. position (λ state. bytes_eq state.name c.args.key.now) keys) c.deref.ensures.value
