use Rattle.std.proofs.Common.{◌≡◌, None, Some, sym, ap, ◌∙◌, subst, subst₂, option_map, if◌then◌else◌, bytes_eq}
use Rattle.member_node.proofs.Common.{has_records, HasKey, key_state, state_of, bytes_eq-tells, StandsFor, parts_of, StandsForEntry, StandsForMessage, delta_groups}
use Rattle.model_members.specs.Message.{Message as Sent}
use Rattle.model_members.specs.Step.{answered_entry}
use Rattle.member_messages.specs.declared.message.Message.TheVariants.{ReadAnswer}
use Rattle.member_node.proofs.Lists.{position-found, position-none}
use Rattle.member_node.proofs.Standing.{undeclared, has_key, held_at}
use Rattle.member_node.proofs.Sendings.{read_stands}
use Rattle.member_node.proofs.node.Node.read_answer.Goals as goal

pub returns-in_default : goal.returns-in_default
returns-in_default g c = λ digest kinds logs node s.
    let R = g.T.Replica in
    let D = delta_groups R.data_type digest in
    let code = c.args.self.now in
    let op = c.args.op in
    let key = c.args.key.now in
    let none = position-none (λ state. bytes_eq state.name key) code.keys.items c.in_default.ensures in
    let is = ap (option_map (state_of node)) (undeclared R.kind_of R.IsDataOf kinds logs code node s key none) in
    ap (λ o. Sent.ReadAnswer op key (answered_entry D o)) is ∙ ap (λ k. Sent.ReadAnswer op k None) (sym c.copied-key.ensures)

pub returns : goal.returns
returns g c = λ digest kinds logs node s.
    let R = g.T.Replica in
    let D = delta_groups R.data_type digest in
    let code = c.args.self.now in
    let op = c.args.op in
    let key = c.args.key.now in
    let at = c.index.result.now in
    let found = position-found (λ state. bytes_eq state.name key) code.keys.items c.in-Some.index c.in-Some.ensures in
    let named : at.name ≡ key = ap (λ state. state.name) c.index.ensures ∙ bytes_eq-tells _ key (found.passes at) in
    let has = subst (λ name. HasKey node name (R.kind_of at.entry.value)) named (has_key R.kind_of R.IsDataOf kinds logs code node s key c.in-Some.index at found c.index.ensures) in
    let held = subst (λ name. StandsForEntry R.kind_of R.IsDataOf kinds logs name at.entry (node.entries name)) named (held_at R.kind_of R.IsDataOf kinds logs code node s c.in-Some.index at found.within c.index.ensures).held in
    let is = ap (option_map (state_of node)) has.1 in
    let held_records = has_records (node.entries key) in
    let copy =
    c.in_ok-envelope.ensures (logs key) (node.entries key) (subst (λ entry. StandsFor R.IsDataOf (parts_of entry) (logs key) (node.entries key)) (sym c.envelope.ensures) held.image)
    ∙ ap (λ entry. if held_records then Some entry else None) c.envelope.ensures in
    subst₂ (λ k o. StandsForMessage {ghosts = R} R.kind_of R.IsDataOf kinds logs (ReadAnswer op k o) (Sent.ReadAnswer op key (answered_entry D (key_state node key)))) (sym c.copied-key-2.ensures) (sym copy)
    (subst (λ o. StandsForMessage {ghosts = R} R.kind_of R.IsDataOf kinds logs (ReadAnswer op key (if held_records then Some at.entry else None)) (Sent.ReadAnswer op key (answered_entry D o))) (sym is)
    (read_stands R kinds logs op key held_records at.entry (node.entries key) held))
