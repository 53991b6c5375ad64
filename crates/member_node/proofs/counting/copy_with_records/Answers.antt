use Rattle.std.proofs.Common.{sym, ap, ◌∙◌, Some, None, if◌then◌else◌}
use Rattle.member_node.proofs.counting.copy_with_records.Goals as goal

pub returns-then-not-has_records : goal.returns-then-not-has_records
returns-then-not-has_records g c = λ log held s.
    ap (λ b. if b then Some c.args.entry.now else None) (sym c.if-not-has_records.true ∙ c.has_records.ensures.image log held s)

pub returns : goal.returns
returns g c = λ log held s.
    ap (λ e. Some e) c.in_ok-copy.ensures ∙ ap (λ b. if b then Some c.args.entry.now else None) (sym c.if-not-has_records.false ∙ c.has_records.ensures.image log held s)
