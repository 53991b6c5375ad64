use Rattle.std.proofs.Common.{ap, sym, ◌∙◌, Some, option_map, bytes_eq}
use Rattle.member_node.proofs.Lists.{position-found, position-none}
use Rattle.member_node.proofs.node.Node.entry.Goals as goal

pub returns-in-Some : goal.returns-in-Some
returns-in-Some g c =
    let keys = c.args.self.now.keys.items in
    let at = position-found (λ state. bytes_eq state.name c.args.key.now) keys c.in-Some.index c.in-Some.ensures in
    ap Some c.envelope.ensures ∙ ap (λ state. Some state.entry) c.index.ensures ∙ sym (ap (option_map (λ state. state.entry)) (at.found c.index.result.now))

pub returns-in-None : goal.returns-in-None
returns-in-None g c = sym (ap (option_map (λ state. state.entry)) (position-none (λ state. bytes_eq state.name c.args.key.now) c.args.self.now.keys.items c.in-None.ensures))
