use Rattle.std.proofs.Common.{codes, sym, ap, ◌∙◌}
use Rattle.model_kinds.specs.ShownText.{shown_text}
use Rattle.model_traces.specs.Traces.{meaning_text}
use Rattle.trace_entries.proofs.SeenLines.{on_ok}
use Rattle.trace_entries.proofs.Looked.{sees_shown, sees_none, means_deleted, means_shown}
use Rattle.trace_entries.proofs.entries.see_shown.Goals as goal

pub returns-then-not-has_records-clause-saw : goal.returns-then-not-has_records-clause-saw
returns-then-not-has_records-clause-saw g c = λ D log k same named kind stands.
    sees_none D c.args.at k c.args.recorder.now (sym (c.has_records.ensures.image log k.entry stands) ∙ c.if-not-has_records.true)

pub returns-then-closed-clause-saw : goal.returns-then-closed-clause-saw
returns-then-closed-clause-saw g c = λ D log k same named kind stands.
    on_ok c.see_deleted.result _ _
    (sees_shown c.args.at k c.args.key.now named c.args.recorder.now c.see_deleted.new.recorder D (codes "deleted") (sym (c.has_records.ensures.image log k.entry stands) ∙ c.if-not-has_records.false)
    (ap (meaning_text shown_text) (means_deleted D.data_type g.T.Replica.data_type same k (sym (c.closed.ensures.image log k.entry stands) ∙ c.if-closed.true))))
    c.see_deleted.ensures.saw

pub returns-clause-saw : goal.returns-clause-saw
returns-clause-saw g c = λ D log k same named kind stands.
    on_ok c.see_value.result _ _
    (sees_shown c.args.at k c.args.key.now named c.args.recorder.now c.see_value.new.recorder D (shown_text c.in_ok-shown.shown) (sym (c.has_records.ensures.image log k.entry stands) ∙ c.if-not-has_records.false)
    (ap (meaning_text shown_text) (means_shown D.data_type g.T.Replica.data_type same k (g.T.Replica.kind_of c.args.entry.now.value) c.in_ok-shown.shown kind (sym (c.closed.ensures.image log k.entry stands) ∙ c.if-closed.false)
    (c.in_ok-shown.ensures.image log k.entry stands))))
    c.see_value.ensures.saw
