use Rattle.std.proofs.Common.{sym, ◌∙◌}
use Rattle.data_envelope.specs.Words.{parts_of}
use Rattle.data_envelope.proofs.Gains.{merged_here, seen_here, begun_none, unmarked_entry}
use Rattle.data_envelope.proofs.envelope.Envelope.gains_nothing.Goals as goal

pub returns-then-has_begun-clause-nothing : goal.returns-then-has_begun-clause-nothing
returns-then-has_begun-clause-nothing g c = rw (← c.self.view_is) (
    λ log mine theirs s t none none' covers.
    sym (c.has_begun.ensures.1 (begun_none g.T.Replica.IsDataOf _ log mine s none)) ∙ c.if-has_begun.true)

pub returns-then-has_begun-2-clause-nothing : goal.returns-then-has_begun-2-clause-nothing
returns-then-has_begun-2-clause-nothing g c = rw (← c.self.view_is, ← c.other.view_is) (
    λ log mine theirs s t none none' covers.
    sym (c.has_begun-2.ensures.1 (begun_none g.T.Replica.IsDataOf _ log theirs t none')) ∙ c.if-has_begun-2.true)

pub returns-clause-merged : goal.returns-clause-merged
returns-clause-merged g c = λ log mine theirs s t e.
    let D = g.T.Replica.IsDataOf in
    merged_here log mine theirs s.taken t.taken ((c.has_records_of.ensures.image log mine theirs s t).0 e)
    (unmarked_entry D (parts_of c.args.self.now) log mine s (rw (← c.self.view_is) (c.has_begun.ensures.0 c.if-has_begun.false)))
    (unmarked_entry D (parts_of c.args.other.now) log theirs t (rw (← c.other.view_is) (c.has_begun-2.ensures.0 c.if-has_begun-2.false)))

pub returns-clause-seen : goal.returns-clause-seen
returns-clause-seen g c = rw (← c.self.view_is) (
    λ log entry id view s e. seen_here entry id view (unmarked_entry g.T.Replica.IsDataOf _ log entry s (c.has_begun.ensures.0 c.if-has_begun.false)))

pub returns-clause-nothing : goal.returns-clause-nothing
returns-clause-nothing g c = λ log mine theirs s t none none' covers. (c.has_records_of.ensures.image log mine theirs s t).1 covers
