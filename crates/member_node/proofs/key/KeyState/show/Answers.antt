use Rattle.std.proofs.Common.{sym, ap, ◌∙◌, subst}
use Rattle.member_node.proofs.Common.{StandsFor, parts_of, delta_groups}
use Rattle.model_members.specs.Step.{value_reply}
use Rattle.member_node.proofs.Updating.{means_nothing, means_deleted, means_shown}
use Rattle.member_node.proofs.key.KeyState.show.Goals as goal

pub returns-then-not-has_records-clause-image : goal.returns-then-not-has_records-clause-image
returns-then-not-has_records-clause-image g c = λ digest log held s.
    let R = g.T.Replica in
    let stands = subst (λ entry. StandsFor R.IsDataOf (parts_of entry) log held) (sym c.envelope-entry.ensures) s in
    ap (value_reply (delta_groups R.data_type digest)) (means_nothing R (R.kind_of c.args.self.now.entry.value) held (sym c.if-not-has_records.true ∙ c.has_records.ensures.image log held stands))

pub returns-then-closed-clause-image : goal.returns-then-closed-clause-image
returns-then-closed-clause-image g c = λ digest log held s.
    let R = g.T.Replica in
    let stands = subst (λ entry. StandsFor R.IsDataOf (parts_of entry) log held) (sym c.envelope-entry.ensures) s in
    ap (value_reply (delta_groups R.data_type digest)) (means_deleted R (R.kind_of c.args.self.now.entry.value) held (sym c.if-not-has_records.false ∙ c.has_records.ensures.image log held stands) (sym c.if-closed.true ∙ c.closed.ensures.image log held stands))

pub returns-clause-image : goal.returns-clause-image
returns-clause-image g c = λ digest log held s.
    let R = g.T.Replica in
    let stands = subst (λ entry. StandsFor R.IsDataOf (parts_of entry) log held) (sym c.envelope-entry.ensures) s in
    ap (value_reply (delta_groups R.data_type digest)) (means_shown R (R.kind_of c.args.self.now.entry.value) held (sym c.if-not-has_records.false ∙ c.has_records.ensures.image log held stands) (sym c.if-closed.false ∙ c.closed.ensures.image log held stands)
    c.in_ok-shown.shown (c.in_ok-shown.ensures.image log held stands ∙ ap (λ entry. R.data_type.shown (R.kind_of entry.value) held.history) c.envelope-entry.ensures))
