use Rattle.std.proofs.Common.{sym, ap, ◌∙◌}
use Rattle.member_node.proofs.Common.{delta_groups}
use Rattle.model_members.specs.Step.{read_result}
use Rattle.member_node.proofs.Updating.{means_nothing, means_deleted, means_shown}
use Rattle.member_node.proofs.counting.read_result.Goals as goal

pub returns-then-not-has_records : goal.returns-then-not-has_records
returns-then-not-has_records g c = λ digest log held s.
    let R = g.T.Replica in
    ap (read_result (delta_groups R.data_type digest)) (means_nothing R (R.kind_of c.args.entry.now.value) held (sym c.if-not-has_records.true ∙ c.has_records.ensures.image log held s))

pub returns-then-closed : goal.returns-then-closed
returns-then-closed g c = λ digest log held s.
    let R = g.T.Replica in
    ap (read_result (delta_groups R.data_type digest)) (means_deleted R (R.kind_of c.args.entry.now.value) held (sym c.if-not-has_records.false ∙ c.has_records.ensures.image log held s) (sym c.if-closed.true ∙ c.closed.ensures.image log held s))

pub returns : goal.returns
returns g c = λ digest log held s.
    let R = g.T.Replica in
    ap (read_result (delta_groups R.data_type digest)) (means_shown R (R.kind_of c.args.entry.now.value) held (sym c.if-not-has_records.false ∙ c.has_records.ensures.image log held s) (sym c.if-closed.false ∙ c.closed.ensures.image log held s)
    c.in_ok-shown.shown (c.in_ok-shown.ensures.image log held s))
